use Rattle.std.proofs.Common.{◌^◌, ℤ, List, subst, sym}
use Rattle.std.specs.List.{All}
use Rattle.qh_blocks.specs.declared.block.Block.{Block}
use Rattle.qh_blocks.specs.Blocks.{IsBlock}
use Rattle.qh_narrow.specs.Columns.{lanes64, places64, room64, narrow_bits}
use Rattle.qh_narrow.proofs.StoredLemmas.{held_bounded}
use Rattle.qh_narrow.proofs.columns.Columns.at.Goals as goal

pub number_of-requires-clause-bounded : goal.number_of-requires-clause-bounded
number_of-requires-clause-bounded c =
    subst (λ (u : List (Block (List ℤ))). All (IsBlock lanes64 (2 ^ places64) narrow_bits) u) (sym c.deref.ensures.value)
    (held_bounded lanes64 places64 room64 c.self.inside.qubits c.self.inside.bits c.self.inside.blocks.items c.self.invariant.0)
