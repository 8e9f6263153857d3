use Rattle.std.proofs.Common.{ℕ, ◌≤◌, ◌+◌, ◌*◌, ◌^◌, subst, sym}
use Rattle.qh_passes.proofs.TileLemmas.{tile_end}
use Rattle.qh_passes.proofs.tiles.tile_at.Goals as goal

pub returns-clause-within : goal.returns-clause-within
returns-clause-within c =
    subst (λ (size : ℕ). c.args.number * size + size ≤ 2 ^ c.args.qubits) (sym c.blocks_of-size.ensures) (tile_end c.args.qubits c.args.tile c.args.number c.requires.tile c.requires.number)
