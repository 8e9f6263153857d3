use Rattle.qh_half.proofs.RootLemmas.{word_power}
use Rattle.qh_half.proofs.scaled.power_of.Goals as goal

pub returns : goal.returns
returns c = word_power c.args.twos c.requires
