use Rattle.qh_half_tables.proofs.tests.limits.deep.Given as goal

abbrev pub ghosts-run_deep : goal.ghosts-run_deep
ghosts-run_deep g a = record { name = a.blank.name; parts = a.blank.parts }
