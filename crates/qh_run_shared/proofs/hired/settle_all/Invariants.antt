use Rattle.std.specs.Prelude.{◌≡◌, vec_len}
use Rattle.qh_run_shared.proofs.hired.settle_all.Given as goal

abbrev pub invariant-loop-worker : goal.invariant-loop-worker
invariant-loop-worker g l = record {
  board : l.board ≡ record l.fn.board { tally = l.board.tally };
  out : l.board.tally.out ≡ vec_len l.hired;
}

abbrev pub decreases-loop-worker : goal.decreases-loop-worker
decreases-loop-worker g l = vec_len l.hired
