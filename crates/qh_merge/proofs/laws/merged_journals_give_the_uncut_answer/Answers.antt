use Rattle.qh_merge.proofs.LawLemmas.{is_uncut}
use Rattle.qh_merge.proofs.laws.merged_journals_give_the_uncut_answer.Goals as goal

pub returns : goal.returns
returns c = is_uncut
