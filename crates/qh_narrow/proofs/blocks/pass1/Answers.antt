use Rattle.std.proofs.Common.{[], ◌∷◌}
use Rattle.qh_ring.specs.Matrices.{number_in}
use Rattle.qh_kernel.proofs.GroupLemmas.{one_qubit}
use Rattle.qh_narrow.proofs.BlocksLemmas.{first_applied, blocks_applied}
use Rattle.qh_narrow.proofs.blocks.pass1.Goals as goal

pub returns-clause-exact : goal.returns-clause-exact
returns-clause-exact g c =
    first_applied g.V.Vector.lanes g.V.Vector.PLACES c.args.qubits (number_in c.args.m.now.rows) (c.args.q ∷ []) c.args.v.now c.apply1.new.v (one_qubit c.args.qubits c.args.q c.requires.qubit) c.requires.kept.blocks c.apply1.ensures.exact

pub returns-clause-blocks : goal.returns-clause-blocks
returns-clause-blocks g c =
    blocks_applied g.V.Vector.lanes g.V.Vector.PLACES c.args.qubits (number_in c.args.m.now.rows) (c.args.q ∷ []) c.args.v.now c.apply1.new.v (one_qubit c.args.qubits c.args.q c.requires.qubit) c.requires.kept.blocks c.apply1.ensures.len c.apply1.ensures.exact
