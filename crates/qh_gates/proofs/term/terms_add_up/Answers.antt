use Rattle.qh_gates.proofs.TermLemmas.{terms_add}
use Rattle.qh_gates.proofs.term.terms_add_up.Goals as goal

pub returns : goal.returns
returns c = λ kind two. terms_add kind two
