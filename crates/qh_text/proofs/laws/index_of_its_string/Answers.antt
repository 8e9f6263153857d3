use Rattle.qh_text.proofs.BitLemmas.{index_of_string, bits_are, bits_length}
use Rattle.qh_text.proofs.laws.index_of_its_string.Goals as goal

pub returns-clause-named : goal.returns-clause-named
returns-clause-named c = index_of_string

pub returns-clause-bits : goal.returns-clause-bits
returns-clause-bits c = bits_are

pub returns-clause-characters : goal.returns-clause-characters
returns-clause-characters c = bits_length
