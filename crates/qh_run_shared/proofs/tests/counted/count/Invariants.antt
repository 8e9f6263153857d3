use Rattle.qh_run_shared.proofs.tests.counted.count.Given as goal

abbrev pub ghosts-count_over-G-Ledger : goal.ghosts-count_over-G-Ledger
ghosts-count_over-G-Ledger g a = record { name = a.blanks.0.name; parts = a.blanks.0.parts }

abbrev pub ghosts-count_over-B-Ledger : goal.ghosts-count_over-B-Ledger
ghosts-count_over-B-Ledger g a = record { name = a.blanks.1.name; parts = a.blanks.1.parts }

abbrev pub ghosts-count_over-A-Ledger : goal.ghosts-count_over-A-Ledger
ghosts-count_over-A-Ledger g a = record { name = a.blanks.2.name; parts = a.blanks.2.parts }
