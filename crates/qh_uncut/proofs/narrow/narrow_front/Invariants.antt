use Rattle.qh_uncut.proofs.narrow.narrow_front.Given as goal

abbrev pub ghosts-narrow_front_counted : goal.ghosts-narrow_front_counted
ghosts-narrow_front_counted a = record { name = a.blank.name; parts = a.blank.parts }
