use Rattle.qh_text.specs.LineWords.{trimmed}
use Rattle.qh_text.proofs.word.trimmed.Goals as goal

pub returns : goal.returns
unfolding trimmed
returns c = cc
