use Rattle.qh_run_shared.proofs.OverLemmas.{shared_same, shared_still, shared_tally}
use Rattle.qh_run_shared.proofs.together.work_together.Goals as goal

pub returns-in_default-clause-shared : goal.returns-in_default-clause-shared
returns-in_default-clause-shared g c = shared_same g.D.Disk.face g.D.Disk.loans c.args.board c.requires.running

pub returns-in_default-hire-clause-shared : goal.returns-in_default-hire-clause-shared
returns-in_default-hire-clause-shared g c =
    shared_still g.D.Disk.face g.D.Disk.loans c.args.board c.hire.new.board c.hire.new.board.tally c.requires.running c.hire.ensures.board

pub returns-clause-shared : goal.returns-clause-shared
returns-clause-shared g c =
    let mid = c.work_shared-board.result in
    let new = c.settle_all.new.board in
    shared_tally g.D.Disk.face g.D.Disk.loans c.args.board c.hire.new.board mid new c.hire.new.board.tally new.tally c.hire.ensures.board c.work_shared-board.ensures.shared c.settle_all.ensures.board
