use Rattle.qh_run_shared.proofs.OverLemmas.{shared_same}
use Rattle.qh_run_shared.proofs.together.work_where_open.Goals as goal

pub returns-then-finished-clause-shared : goal.returns-then-finished-clause-shared
returns-then-finished-clause-shared g c = shared_same g.D.Disk.face g.D.Disk.loans c.args.board c.requires.running
