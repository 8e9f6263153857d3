use Rattle.std.proofs.Common.{◌≡◌, ◌+◌, ◌-◌, [], ℕ, All, vec_len, sym, ap, subst, ◌∙◌, arith}
use Rattle.atomic_table.specs.Seated.{TableId}
use Rattle.qh_draw.specs.Seats.{Seat, seat_of}
use Rattle.qh_draw.proofs.Deals.{Leaves, leaves_more, leaves_one, gives, gets, all_more}
use Rattle.qh_draw.proofs.draw.Draw.new.Goals as goal

pub loop-preserved : goal.loop-preserved
loop-preserved c =
    let t = c.draw.inside.table.shared.table_id in
    let was = c.loop.invariant in
    let p : c.deal.new.seat ≡ seat_of t c.args.each (c.loop.last.left - c.args.each) [] =
    gives t c.args.each c.loop.last c.deal.new.seat was.last c.deal.ensures.left in
    let left : c.deal.new.seat.left ≡ c.loop.last.left - c.args.each = ap (λ (s : Seat). s.left) p in
    let len : vec_len c.push.new.self ≡ vec_len c.loop.all + 1 = c.in_ok-push.ensures.len in
    record {
      count = omega arith;
      last = p ∙ sym (ap (λ (n : ℕ). seat_of t c.args.each n []) left);
      left = subst (Leaves c.args.seats c.args.each (vec_len c.push.new.self)) (sym left)
          (subst (λ (m : ℕ). Leaves c.args.seats c.args.each m (c.loop.last.left - c.args.each)) (sym len) (leaves_more _ _ _ _ was.left (omega arith)));
      fresh = all_more _ c.deal.result _ _ was.fresh (gets t c.args.each c.loop.last c.deal.result was.last c.deal.ensures.fresh) c.in_ok-push.ensures.items;
    }

pub returns-clause-fresh : goal.returns-clause-fresh
returns-clause-fresh c =
    let t = c.draw.inside.table.shared.table_id in
    let was = c.loop.invariant in
    let seats : c.args.seats ≡ vec_len c.loop.all + 1 = omega (arith, was.count) in
    let left : c.loop.last.left ≡ c.args.each = leaves_one _ _ _ _ was.left seats in
    let last : c.loop.last ≡ seat_of t c.args.each c.args.each [] = was.last ∙ ap (λ (n : ℕ). seat_of t c.args.each n []) left in
    subst (λ (u : TableId). All (λ (s : Seat). s ≡ seat_of u c.args.each c.args.each []) c.push-2.new.self.items) c.draw.view_is
    (all_more _ c.loop.last _ _ was.fresh last c.in_ok-push-2.ensures.items)
