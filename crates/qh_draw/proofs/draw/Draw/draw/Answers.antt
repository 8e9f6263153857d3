use Rattle.std.proofs.Common.{ap, sym, ◌∙◌, arith}
use Rattle.qh_draw.proofs.Fair.{draws}
use Rattle.qh_draw.proofs.draw.Draw.draw.Goals as goal

pub fetch_add-found-requires : goal.fetch_add-found-requires
fetch_add-found-requires c = (
  ap (λ h. h.of) c.seat.view_is ∙ (c.requires.of ∙ sym c.self.view_is),
  omega (arith, c.self.invariant.0),
  draws _ _ _ c.seat.inside.place.me (omega (arith, c.seat.invariant.0, ap (λ h. h.left) c.seat.view_is, c.requires.left)),
)
