use Rattle.qh_run.proofs.CarryLemmas.{carries_same}
use Rattle.qh_run.proofs.rest.run_rest.Goals as goal

pub returns-in_default-clause-carries : goal.returns-in_default-clause-carries
returns-in_default-clause-carries g c = carries_same g.D.Disk.face g.D.Disk.loans c.args.board.now

pub returns-in_default-clause-goes_on : goal.returns-in_default-clause-goes_on
returns-in_default-clause-goes_on g c s0 began = c.finished.ensures.valid.reads s0 began
