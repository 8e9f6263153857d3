use Rattle.qh_workers_tables.proofs.tests.worked.Given as goal

abbrev pub ghosts-work_over-G-Ledger : goal.ghosts-work_over-G-Ledger
ghosts-work_over-G-Ledger g a = record { name = a.blanks.0.name; parts = a.blanks.0.parts }

abbrev pub ghosts-work_over-B-Ledger : goal.ghosts-work_over-B-Ledger
ghosts-work_over-B-Ledger g a = record { name = a.blanks.1.name; parts = a.blanks.1.parts }

abbrev pub ghosts-work_over-A-Ledger : goal.ghosts-work_over-A-Ledger
ghosts-work_over-A-Ledger g a = record { name = a.blanks.2.name; parts = a.blanks.2.parts }

abbrev pub ghosts-work_over-L-Ledger : goal.ghosts-work_over-L-Ledger
ghosts-work_over-L-Ledger g a = record { name = a.blanks.3.name; parts = a.blanks.3.parts }
