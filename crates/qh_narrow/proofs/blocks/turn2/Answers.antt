use Rattle.std.proofs.Common.{[], ◌∷◌}
use Rattle.qh_ring.specs.Matrices.{number_in}
use Rattle.qh_kernel.proofs.GroupLemmas.{two_qubits}
use Rattle.qh_narrow.proofs.BlocksLemmas.{first_applied, blocks_applied}
use Rattle.qh_narrow.proofs.WithinLemmas.{first_below}
use Rattle.qh_narrow.proofs.blocks.turn2.Goals as goal

pub returns-clause-kept : goal.returns-clause-kept
returns-clause-kept g c = record {
  blocks = blocks_applied g.V.Vector.lanes g.V.Vector.PLACES c.args.qubits (number_in c.args.m.now.rows) (c.args.q0 ∷ c.args.q1 ∷ []) c.args.v.now c.apply2.new.v (two_qubits c.args.qubits c.args.q0 c.args.q1 c.requires.first c.requires.second c.requires.apart) c.requires.kept.blocks c.apply2.ensures.len c.apply2.ensures.exact;
  room_left = c.requires.kept.room_left;
  bounded = c.apply2.ensures.bounded;
}

pub returns-clause-exact : goal.returns-clause-exact
returns-clause-exact g c =
    first_applied g.V.Vector.lanes g.V.Vector.PLACES c.args.qubits (number_in c.args.m.now.rows) (c.args.q0 ∷ c.args.q1 ∷ []) c.args.v.now c.apply2.new.v (two_qubits c.args.qubits c.args.q0 c.args.q1 c.requires.first c.requires.second c.requires.apart) c.requires.kept.blocks c.apply2.ensures.exact

pub returns-clause-within : goal.returns-clause-within
returns-clause-within g c =
    let kept = blocks_applied g.V.Vector.lanes g.V.Vector.PLACES c.args.qubits (number_in c.args.m.now.rows) (c.args.q0 ∷ c.args.q1 ∷ []) c.args.v.now c.apply2.new.v (two_qubits c.args.qubits c.args.q0 c.args.q1 c.requires.first c.requires.second c.requires.apart) c.requires.kept.blocks c.apply2.ensures.len c.apply2.ensures.exact in
    first_below g.V.Vector.lanes g.V.Vector.PLACES c.args.qubits c.args.bits g.V.Vector.ROOM c.apply2.new.v c.requires.kept.room_left kept c.apply2.ensures.bounded
