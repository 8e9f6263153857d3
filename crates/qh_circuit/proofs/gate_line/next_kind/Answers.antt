use Rattle.qh_circuit.proofs.KindLemmas.{no_word_names_none, no_kind, a_kind}
use Rattle.qh_circuit.proofs.gate_line.next_kind.Goals as goal

pub returns-in_default : goal.returns-in_default
returns-in_default c = no_word_names_none _ c.in_default.ensures.words

pub returns-in_default-kind_of : goal.returns-in_default-kind_of
returns-in_default-kind_of c = no_kind _ _ _ c.in-Some.ensures.words c.in_default-kind_of.ensures.none

pub returns : goal.returns
returns c = a_kind _ _ _ _ c.in-Some.ensures.words c.in-Some-kind_of.ensures.some
