use Rattle.std.specs.Arc.{arc_value}
use Rattle.qh_board.specs.Board.{Serves}
use Rattle.qh_run.proofs.KeptLemmas.{went_is_some, runs_from}
use Rattle.qh_run_shared.proofs.run.run_open.Goals as goal

pub unwrap-requires : goal.unwrap-requires
unwrap-requires g c = went_is_some (Serves g.D.Disk.face g.D.Disk.loans (arc_value c.args.job)) c.args.journal.disk c.run_journal-disk.result.disk c.run_journal-disk.ensures.disk c.requires.kept

pub returns-clause-runs : goal.returns-clause-runs
returns-clause-runs g c =
    let ran = c.run_journal-disk.ensures in
    runs_from g.D.Disk.face g.D.Disk.loans (arc_value c.args.job) c.args.journal.table c.run_journal-disk.result.end c.args.journal.disk c.run_journal-disk.result.disk c.unwrap.result
    c.unwrap.ensures ran.disk ran.goes_on ran.finished ran.whole ran.cause
