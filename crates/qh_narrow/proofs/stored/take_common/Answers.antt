use Rattle.qh_narrow.specs.Columns.{first_numbers}
use Rattle.qh_narrow.proofs.FactorLemmas.{no_factor}
use Rattle.qh_narrow.proofs.stored.take_common.Goals as goal

pub returns-then-is_empty-clause-numbers : goal.returns-then-is_empty-clause-numbers
returns-then-is_empty-clause-numbers g c = no_factor (first_numbers g.V.Vector.lanes g.V.Vector.PLACES c.args.qubits c.args.v.now)
