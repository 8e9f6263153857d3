use Rattle.std.proofs.Common.{ap, sym, ◌∙◌, arith}
use Rattle.qh_draw.proofs.Fair.{splits}
use Rattle.qh_draw.proofs.draw.Draw.deal.Goals as goal

pub split_seat-place-requires : goal.split_seat-place-requires
split_seat-place-requires c =
    let left = ap (λ h. h.left) c.seat.view_is in
    let each = ap (λ h. h.each) c.seat.view_is in (
      ap (λ h. h.of) c.seat.view_is ∙ (c.requires.of ∙ sym c.self.view_is),
      omega (arith, c.self.invariant.0),
      splits _ _ c.seat.inside.place.me.0 (omega (arith, c.seat.invariant.0, c.seat.invariant.1, left, each, c.requires.enough)),
    )
