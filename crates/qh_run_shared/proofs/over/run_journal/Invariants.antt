use Rattle.qh_run_shared.proofs.over.run_journal.Given as goal

abbrev pub ghosts-run_over-G-Ledger : goal.ghosts-run_over-G-Ledger
ghosts-run_over-G-Ledger g a = record { name = a.blanks.0.name; parts = a.blanks.0.parts }

abbrev pub ghosts-run_over-B-Ledger : goal.ghosts-run_over-B-Ledger
ghosts-run_over-B-Ledger g a = record { name = a.blanks.1.name; parts = a.blanks.1.parts }

abbrev pub ghosts-run_over-A-Ledger : goal.ghosts-run_over-A-Ledger
ghosts-run_over-A-Ledger g a = record { name = a.blanks.2.name; parts = a.blanks.2.parts }

abbrev pub ghosts-run_over-L-Ledger : goal.ghosts-run_over-L-Ledger
ghosts-run_over-L-Ledger g a = record { name = a.steps.name; parts = a.steps.parts }
