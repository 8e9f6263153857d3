use Rattle.std.specs.Prelude.{◌≡◌, ◌+◌, ◌<◌, All, vec_len}
use Rattle.qh_plan.specs.Jobs.{ranges}
use Rattle.qh_run_shared.proofs.hired.hire.Given as goal

abbrev pub invariant-loop-seat : goal.invariant-loop-seat
invariant-loop-seat g l = record {
  board : l.board ≡ record l.fn.board { tally = l.board.tally };
  out : l.board.tally.out ≡ l.fn.board.tally.out + vec_len l.hired;
  count : vec_len l.hired + vec_len l.seats ≡ vec_len l.fn.seats;
  seats : All (λ s. (s.of ≡ l.draw) × (ranges l.job < s.left)) l.seats.items;
  hired : All (λ h. (h.seat.of ≡ l.draw) × (ranges l.job < h.seat.left)) l.hired.items;
}

abbrev pub decreases-loop-seat : goal.decreases-loop-seat
decreases-loop-seat g l = vec_len l.seats
