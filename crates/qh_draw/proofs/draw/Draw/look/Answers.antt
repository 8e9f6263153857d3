use Rattle.std.proofs.Common.{ap, sym, ◌∙◌, arith}
use Rattle.qh_draw.proofs.Fair.{looks}
use Rattle.qh_draw.proofs.draw.Draw.look.Goals as goal

pub load-requires : goal.load-requires
load-requires c = (
  ap (λ h. h.of) c.seat.view_is ∙ (c.requires ∙ sym c.self.view_is),
  omega (arith, c.self.invariant.0),
  looks _ _ _ c.seat.inside.place.me,
)
