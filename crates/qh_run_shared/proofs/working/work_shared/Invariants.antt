use Rattle.qh_run_shared.specs.Facts.{name_of}
use Rattle.qh_run_shared.proofs.working.work_shared.Given as goal

abbrev pub ghosts-work_all : goal.ghosts-work_all
ghosts-work_all g a = record { run = name_of g.D.Disk.face g.D.Disk.loans a.board }
