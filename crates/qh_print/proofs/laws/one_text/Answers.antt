use Rattle.qh_print.proofs.ValueLemmas.{one_text_of}
use Rattle.qh_print.proofs.laws.one_text.Goals as goal

pub returns : goal.returns
returns c = one_text_of
