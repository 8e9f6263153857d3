use Rattle.qh_half_tables.proofs.tests.limits.limit.Given as goal

abbrev pub ghosts-run_limit : goal.ghosts-run_limit
ghosts-run_limit g a = record { name = a.blank.name; parts = a.blank.parts }
