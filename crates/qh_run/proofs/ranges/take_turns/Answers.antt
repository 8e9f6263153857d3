use Rattle.std.proofs.Common.{◌≡◌, ◌≤◌, ◌+◌, ℕ, Bool, true, false, arith, subst, sym, ◌∙◌}
use Rattle.qh_limits.specs.Counts.{RoseBy}
use Rattle.qh_limits.proofs.Chains.{rose_more, rose_by_fewer, rose_by_none}
use Rattle.qh_run.specs.Carrying.{Carries, count_fresh, Turned}
use Rattle.qh_run.proofs.CarryLemmas.{carries_on, carries_same, stop_later}
use Rattle.qh_run.proofs.ranges.take_turns.Goals as goal

fresh_more : (start turn before now : ℕ) → start ≤ turn + before → before ≤ now + 1 → start ≤ turn + 1 + now
fresh_more start turn before now first then = omega arith

none_fresh : (start turn before : ℕ) → start ≤ turn + before → before ≡ 0 → start ≤ turn
none_fresh start turn before first none = omega arith

pub returns-in_err-turn-clause-carries : goal.returns-in_err-turn-clause-carries
returns-in_err-turn-clause-carries g c =
    carries_on g.D.Disk.face g.D.Disk.loans c.args.board.now c.loop-turn.board c.turn.new.board c.loop-turn.invariant.carries c.turn.ensures.carries

pub returns-then-not-branch-clause-carries : goal.returns-then-not-branch-clause-carries
returns-then-not-branch-clause-carries g c =
    carries_on g.D.Disk.face g.D.Disk.loans c.args.board.now c.loop-turn.board c.turn.new.board c.loop-turn.invariant.carries c.turn.ensures.carries

pub returns-then-not-branch-clause-granted : goal.returns-then-not-branch-clause-granted
returns-then-not-branch-clause-granted g c =
    let told = g.T.Timer.granted_count in
    let turned : Turned told c.loop-turn.board c.turn.new.board false = subst (Turned told c.loop-turn.board c.turn.new.board) c.if-not-branch.true c.in_ok-turn.ensures.turned in
    rose_by_fewer (count_fresh c.args.board.now) c.loop-turn._turn _ _ (none_fresh _ _ _ c.loop-turn.invariant.fresh turned.1)
    (subst (λ n. RoseBy c.loop-turn._turn (told c.args.board.now.timer.now) n) (sym turned.0) c.loop-turn.invariant.told)

pub loop-turn-preserved : goal.loop-turn-preserved
loop-turn-preserved g c =
    let told = g.T.Timer.granted_count in
    let turned : Turned told c.loop-turn.board c.turn.new.board true = subst (Turned told c.loop-turn.board c.turn.new.board) c.if-not-branch.false c.in_ok-turn.ensures.turned in record {
      carries = carries_on g.D.Disk.face g.D.Disk.loans c.args.board.now c.loop-turn.board c.turn.new.board c.loop-turn.invariant.carries c.turn.ensures.carries;
      worker = c.turn.ensures.worker ∙ c.loop-turn.invariant.worker;
      running = c.in_ok-turn.ensures.running;
      told = rose_more c.loop-turn._turn _ _ _ c.loop-turn.invariant.told turned.0;
      fresh = fresh_more _ _ _ _ c.loop-turn.invariant.fresh turned.1;
    }
