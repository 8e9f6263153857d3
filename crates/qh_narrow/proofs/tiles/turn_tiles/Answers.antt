use Rattle.std.proofs.Common.{ℕ, ◌<◌, ◌-◌, ◌^◌, take, arith, subst, sym}
use Rattle.std.specs.List.{All}
use Rattle.std.proofs.lemmas.List.Elements.{All-take}
use Rattle.qh_blocks.specs.Blocks.{IsBlock}
use Rattle.qh_passes.specs.Turns.{IsTurnIn}
use Rattle.qh_passes.proofs.StayLemmas.{run_stays}
use Rattle.qh_narrow.specs.Columns.{first_numbers}
use Rattle.qh_narrow.proofs.WithinLemmas.{first_below, first_within}
use Rattle.qh_narrow.proofs.TilesLemmas.{some_high, run_first, run_blocks}
use Rattle.qh_narrow.proofs.tiles.turn_tiles.Goals as goal

pub returns-then-high-tile-clause-within : goal.returns-then-high-tile-clause-within
returns-then-high-tile-clause-within g c =
    first_below g.V.Vector.lanes g.V.Vector.PLACES c.args.qubits c.args.bits g.V.Vector.ROOM c.args.v.now c.requires.kept.room_left c.requires.kept.blocks c.requires.kept.bounded

pub returns-then-count-lt2-clause-within : goal.returns-then-count-lt2-clause-within
returns-then-count-lt2-clause-within g c =
    first_below g.V.Vector.lanes g.V.Vector.PLACES c.args.qubits c.args.bits g.V.Vector.ROOM c.args.v.now c.requires.kept.room_left c.requires.kept.blocks c.requires.kept.bounded

pub returns-clause-kept : goal.returns-clause-kept
returns-clause-kept g c =
    let more = c.if-high-tile.false in
    let high = some_high c.args.qubits g.V.Vector.PLACES c.PLACES.result c.high_qubits-high.result c.tile_qubits-tile.result c.PLACES.ensures c.high_qubits-high.ensures (omega (arith, more)) in
    record {
      blocks = run_blocks g.V.Vector.lanes g.V.Vector.PLACES c.args.qubits c.args.v.now c.apply_run.new.v high c.requires.kept.blocks c.apply_run.ensures.len;
      room_left = subst (λ (n : ℕ). c.first_turns-count.result.1 < n) c.ROOM.ensures c.first_turns-count.ensures.room;
      bounded = subst (λ (n : ℕ). All (IsBlock g.V.Vector.lanes (2 ^ g.V.Vector.PLACES) n) c.apply_run.new.v) (sym c.first_turns-count.ensures.bound) c.apply_run.ensures.bounded;
    }

pub returns-clause-exact : goal.returns-clause-exact
returns-clause-exact g c =
    let more = c.if-high-tile.false in
    let high = some_high c.args.qubits g.V.Vector.PLACES c.PLACES.result c.high_qubits-high.result c.tile_qubits-tile.result c.PLACES.ensures c.high_qubits-high.ensures (omega (arith, more)) in
    run_first g.V.Vector.lanes g.V.Vector.PLACES c.args.qubits (take c.first_turns-count.result.0 c.args.run.now) c.args.v.now c.apply_run.new.v high c.requires.kept.blocks c.apply_run.ensures.len c.apply_run.ensures.exact

pub returns-clause-within : goal.returns-clause-within
returns-clause-within g c =
    let room = subst (λ (n : ℕ). c.first_turns-count.result.1 < n) c.ROOM.ensures c.first_turns-count.ensures.room in
    let bound = c.first_turns-count.ensures.bound in
    run_stays c.args.qubits c.args.bits (g.V.Vector.ROOM - 1) (take c.first_turns-count.result.0 c.args.run.now) (first_numbers g.V.Vector.lanes g.V.Vector.PLACES c.args.qubits c.args.v.now)
    (All-take (IsTurnIn c.args.qubits) c.first_turns-count.result.0 c.args.run.now c.requires.turns)
    (first_within g.V.Vector.lanes g.V.Vector.PLACES c.args.qubits c.args.bits c.args.v.now c.requires.kept.blocks c.requires.kept.bounded)
    (omega (arith, room, bound))
