use Rattle.qh_request.proofs.Unique.{one_text}
use Rattle.qh_request.proofs.laws.one_answer.Goals as goal

pub returns : goal.returns
returns g c = λ o v ss s t told d e. one_text o.part o _ v ss s t told d e
