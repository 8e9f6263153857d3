use Rattle.std.proofs.Common.{◌^◌, ℤ, List, subst, sym}
use Rattle.std.specs.List.{All}
use Rattle.qh_blocks.specs.declared.block.Block.{Block}
use Rattle.qh_blocks.specs.Blocks.{IsBlock}
use Rattle.qh_narrow.specs.Columns.{lanes16, places16, room16, narrow_bits16}
use Rattle.qh_narrow.proofs.StoredLemmas.{held_bounded}
use Rattle.qh_narrow.proofs.columns16.Columns16.at.Goals as goal

pub number_of-requires-clause-bounded : goal.number_of-requires-clause-bounded
number_of-requires-clause-bounded c =
    subst (λ (u : List (Block (List ℤ))). All (IsBlock lanes16 (2 ^ places16) narrow_bits16) u) (sym c.deref.ensures.value)
    (held_bounded lanes16 places16 room16 c.self.inside.qubits c.self.inside.bits c.self.inside.blocks.items c.self.invariant.0)
