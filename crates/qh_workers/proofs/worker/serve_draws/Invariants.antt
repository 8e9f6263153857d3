use Rattle.std.proofs.Common.{◌≡◌, ◌+◌, ℕ}
use Rattle.qh_workers.specs.declared.gate.Point.TheVariants.{BeforeClaim}
use Rattle.qh_workers.specs.Ends.{IsHeld}
use Rattle.qh_workers.specs.Shares.{Grows, AllAcked}
use Rattle.qh_workers.proofs.worker.serve_draws.Given as goal

abbrev pub invariant-loop : goal.invariant-loop
invariant-loop g l = record {
  room : l.room ≡ l.fn.room;
  seat : l.seat.of ≡ l.fn.seat.of;
  left : l.seat.left + l.counter ≡ l.fn.seat.left;
  grows : Grows l.fn.share l.share;
  first : g.W.WorkerGate.stops l.bench.gate.now l.bench.worker BeforeClaim → l.counter ≡ 0;
  idle : g.W.WorkerGate.stops l.bench.gate.now l.bench.worker BeforeClaim → l.share ≡ l.fn.share;
  unacked : ((range : ℕ) → IsHeld (g.W.WorkerGate.stops l.bench.gate.now l.bench.worker) range) → l.share.acks ≡ l.fn.share.acks;
  acked : ¬ (g.K.Desk.may_repeat l.bench.desk.now) → AllAcked l.fn.share l.share;
}
