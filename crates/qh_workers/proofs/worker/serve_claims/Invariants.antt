use Rattle.std.proofs.Common.{◌≡◌, ℕ}
use Rattle.std.specs.Arc.{arc_value}
use Rattle.qh_workers.specs.Ends.{IsHeld}
use Rattle.qh_workers.specs.Shares.{Grows, AllAcked}
use Rattle.qh_workers.proofs.worker.serve_claims.Given as goal

abbrev pub invariant-loop : goal.invariant-loop
invariant-loop g l = record {
  next : (goal.iterator-loop g).can_next l.iterator' × (goal.iterator-loop g).is_finite l.iterator';
  room : l.room ≡ arc_value l.bench.job.now;
  grows : Grows l.fn.share l.share;
  unacked : ((range : ℕ) → IsHeld (g.W.WorkerGate.stops l.bench.gate.now l.bench.worker) range) → l.share.acks ≡ l.fn.share.acks;
  acked : ¬ (g.K.Desk.may_repeat l.bench.desk.now) → AllAcked l.fn.share l.share;
}
