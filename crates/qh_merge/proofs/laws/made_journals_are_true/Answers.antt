use Rattle.qh_merge.proofs.LawLemmas.{made_true}
use Rattle.qh_merge.proofs.laws.made_journals_are_true.Goals as goal

pub returns : goal.returns
returns c = made_true
