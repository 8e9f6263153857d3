use Rattle.std.proofs.Common.{ℕ, ◌≤◌, ◌<◌, ◌≡◌, ◌+◌, ◌-◌, ◌*◌, ◌^◌, length, refl, subst, sym, ap, ◌∙◌, arith}
use Rattle.qh_passes.specs.Turns.{width_after_turns}
use Rattle.qh_passes.proofs.TileLemmas.{IsTiled, next_tile, all_tiles, tiled_none, tiled_more, tiled_exact, tiled_bounded}
use Rattle.qh_passes.proofs.tiles.apply_run.Goals as goal

pub loop-number-init : goal.loop-number-init
loop-number-init g c = tiled_none g.V.Vector.lanes g.V.Vector.PLACES (width_after_turns c.args.run.now c.args.bits) c.args.run.now c.args.v.now (0 * 2 ^ c.args.tile) (omega arith)

pub loop-number-preserved : goal.loop-number-preserved
loop-number-preserved g c =
    tiled_more g.V.Vector.lanes g.V.Vector.PLACES (width_after_turns c.args.run.now c.args.bits) c.args.tile c.loop-number.number c.tile_at-begin.result.0 c.tile_at-begin.result.1 ((c.loop-number.number + 1) * 2 ^ c.args.tile)
    (c.tile_at-begin.result.1 - c.tile_at-begin.result.0) c.args.run.now c.args.v.now c.loop-number.v c.apply_turns.new.v
    c.tile_at-begin.ensures.begin c.tile_at-begin.ensures.end (next_tile c.loop-number.number (2 ^ c.args.tile) ∙ sym c.tile_at-begin.ensures.end) refl
    (subst (λ (n : ℕ). c.tile_at-begin.result.1 ≤ n) (sym c.requires.blocks) c.tile_at-begin.ensures.within) c.requires.turns
    (subst (IsTiled g.V.Vector.lanes g.V.Vector.PLACES (width_after_turns c.args.run.now c.args.bits) c.args.run.now c.args.v.now c.loop-number.v) (sym c.tile_at-begin.ensures.begin) c.loop-number.invariant)
    c.apply_turns.ensures.len c.apply_turns.ensures.exact c.apply_turns.ensures.bounded

pub returns-clause-exact : goal.returns-clause-exact
returns-clause-exact g c =
    let done = c.loop-number-test.false in
    let all : length c.args.v.now ≤ c.loop-number.number * 2 ^ c.args.tile =
    all_tiles c.args.qubits c.args.tile c.loop-number.number c.blocks_of-number-end.result (length c.args.v.now) c.requires.tile c.blocks_of-number-end.ensures (omega (arith, done)) c.requires.blocks in
    tiled_exact g.V.Vector.lanes g.V.Vector.PLACES (width_after_turns c.args.run.now c.args.bits) c.args.run.now c.args.v.now c.loop-number.v (c.loop-number.number * 2 ^ c.args.tile) all c.loop-number.invariant

pub returns-clause-bounded : goal.returns-clause-bounded
returns-clause-bounded g c =
    let done = c.loop-number-test.false in
    let all : length c.args.v.now ≤ c.loop-number.number * 2 ^ c.args.tile =
    all_tiles c.args.qubits c.args.tile c.loop-number.number c.blocks_of-number-end.result (length c.args.v.now) c.requires.tile c.blocks_of-number-end.ensures (omega (arith, done)) c.requires.blocks in
    tiled_bounded g.V.Vector.lanes g.V.Vector.PLACES (width_after_turns c.args.run.now c.args.bits) c.args.run.now c.args.v.now c.loop-number.v (c.loop-number.number * 2 ^ c.args.tile) all c.loop-number.invariant
