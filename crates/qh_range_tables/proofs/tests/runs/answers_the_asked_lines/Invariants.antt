use Rattle.qh_range_tables.proofs.tests.runs.answers_the_asked_lines.Given as goal

abbrev pub ghosts-run_all : goal.ghosts-run_all
ghosts-run_all g a = record { name = a.blank.name; parts = a.blank.parts }
