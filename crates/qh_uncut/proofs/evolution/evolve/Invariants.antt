use Rattle.qh_uncut.proofs.evolution.evolve.Given as goal

abbrev pub ghosts-evolve_counted : goal.ghosts-evolve_counted
ghosts-evolve_counted a = record { name = a.blank.name; parts = a.blank.parts }
