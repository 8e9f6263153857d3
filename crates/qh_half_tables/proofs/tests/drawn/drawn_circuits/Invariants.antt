use Rattle.qh_half_tables.proofs.tests.drawn.drawn_circuits.Given as goal

abbrev pub ghosts-run_all : goal.ghosts-run_all
ghosts-run_all g a = record { name = a.blank.name; parts = a.blank.parts }
