use Rattle.qh_journal_tables.proofs.tests.lease.two_callers_counted.Given as goal

abbrev pub ghosts-two_callers_over-G-Ledger : goal.ghosts-two_callers_over-G-Ledger
ghosts-two_callers_over-G-Ledger a = record { name = a.grants.name; parts = a.grants.parts }

abbrev pub ghosts-two_callers_over-B-Ledger : goal.ghosts-two_callers_over-B-Ledger
ghosts-two_callers_over-B-Ledger a = record { name = a.backs.name; parts = a.backs.parts }

abbrev pub ghosts-two_callers_over-A-Ledger : goal.ghosts-two_callers_over-A-Ledger
ghosts-two_callers_over-A-Ledger a = record { name = a.acks.name; parts = a.acks.parts }
