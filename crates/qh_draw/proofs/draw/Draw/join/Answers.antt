use Rattle.std.proofs.Common.{ap, sym, ◌∙◌, arith}
use Rattle.qh_draw.proofs.Fair.{joins}
use Rattle.qh_draw.proofs.draw.Draw.join.Goals as goal

pub join_seat-requires : goal.join_seat-requires
join_seat-requires c = (
  ap (λ h. h.of) c.seat.view_is ∙ (c.requires.of ∙ sym c.self.view_is),
  ap (λ h. h.of) c.other.view_is ∙ (c.requires.other ∙ sym c.self.view_is),
  c.other.invariant.2,
  omega (arith, c.self.invariant.0),
  joins _ _ _ c.seat.inside.place.me.0 c.other.inside.place.me.0,
)
