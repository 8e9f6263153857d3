use Rattle.qh_text.proofs.BitLemmas.{string_of_index, index_below, bits_of_index}
use Rattle.qh_text.proofs.laws.string_of_its_index.Goals as goal

pub returns-clause-spelled : goal.returns-clause-spelled
returns-clause-spelled c = string_of_index

pub returns-clause-below : goal.returns-clause-below
returns-clause-below c = index_below

pub returns-clause-bits : goal.returns-clause-bits
returns-clause-bits c = bits_of_index
