use Rattle.qh_half_tables.proofs.tests.limits.bell.Given as goal

abbrev pub ghosts-run_bell : goal.ghosts-run_bell
ghosts-run_bell g a = record { name = a.blank.name; parts = a.blank.parts }
