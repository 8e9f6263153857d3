use Rattle.std.proofs.Common.{◌≡◌, ◌+◌, [], All, vec_len}
use Rattle.qh_draw.specs.Seats.{seat_of}
use Rattle.qh_draw.proofs.Deals.{Leaves}
use Rattle.qh_draw.proofs.draw.Draw.new.Given as goal

abbrev pub invariant-loop : goal.invariant-loop
invariant-loop l = record {
  count : vec_len l.all + 1 ≡ l.counter;
  last : l.last ≡ seat_of l.draw-inside.table.shared.table_id l.each l.last.left [];
  left : Leaves l.seats l.each (vec_len l.all) l.last.left;
  fresh : All (λ s. s ≡ seat_of l.draw-inside.table.shared.table_id l.each l.each []) l.all.items;
}
