use Rattle.qh_uncut.proofs.BoundLemmas.{uncut_at_most}
use Rattle.qh_uncut.proofs.laws.each_gate_at_most_doubles.Goals as goal

pub returns : goal.returns
returns c = uncut_at_most
