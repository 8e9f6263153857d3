use Rattle.std.proofs.Common.{ℕ, ◌≡◌, ◌<◌, ◌+◌, List, [], ◌∷◌, ◌++◌, take, arith, refl, ap, subst, sym, ◌∙◌}
use Rattle.std.specs.List.{All}
use Rattle.std.proofs.lemmas.List.{take_more}
use Rattle.std.proofs.lemmas.List.Elements.{All-push}
use Rattle.qh_passes.specs.declared.turn.Turn.{Turn}
use Rattle.qh_passes.specs.Turns.{IsTurnIn, width_turned, width_after_turns}
use Rattle.qh_passes.proofs.RunLemmas.{widths_append}
use Rattle.qh_half_tables.proofs.tests.runs.fits.Goals as goal

pub loop-turn-preserved : goal.loop-turn-preserved
loop-turn-preserved g c =
    let P : Turn → Type 0 = IsTurnIn (c.args.tile + g.V.Vector.PLACES) in
    let turn = c.turn-item.result in
    let before : List Turn = take c.loop-turn.turn-index c.args.run.now in
    let more : take (c.loop-turn.turn-index + 1) c.args.run.now ≡ before ++ turn ∷ [] =
    take_more c.args.run.now c.loop-turn.turn-index turn c.loop-turn-test.true ∙ ap (λ (t : Turn). before ++ t ∷ []) (sym c.turn-item.is) in
    let here : P turn = subst (λ (n : ℕ). IsTurnIn (c.args.tile + n) turn) c.PLACES.ensures (c.if-not-is_turn_in.ensures refl) in
    let below = c.if-bound-ROOM.false in
    let room = c.ROOM.ensures in (
      subst (All P) (sym more) (All-push P before turn c.loop-turn.invariant.0 here),
      c.width_after-bound.ensures ∙ ap (width_turned turn) c.loop-turn.invariant.1 ∙ sym (ap (λ (ts : List Turn). width_after_turns ts c.args.bits) more ∙ widths_append before (turn ∷ []) c.args.bits),
      omega (arith, below, room),
    )
