use Rattle.qh_run_shared.proofs.FactLemmas.{named_now, was_shared}
use Rattle.qh_run_shared.proofs.working.work_shared.Goals as goal

pub work_all-requires-clause-facts : goal.work_all-requires-clause-facts
work_all-requires-clause-facts g c κs within = named_now g.D.Disk.face g.D.Disk.loans c.args.board c.finished.ensures.valid.ranges c.requires.running

pub returns-clause-shared : goal.returns-clause-shared
returns-clause-shared g c = was_shared g.D.Disk.face g.D.Disk.loans c.args.board c.work_all.result c.finished.ensures.valid.ranges c.work_all.ensures.facts
