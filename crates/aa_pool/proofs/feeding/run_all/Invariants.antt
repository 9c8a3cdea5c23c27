use Rattle.aa_pool.proofs.feeding.run_all.Given as goal

abbrev pub ghosts-run_on-C-Course : goal.ghosts-run_on-C-Course
ghosts-run_on-C-Course g a = record { lanes = a.feeds.items }

abbrev pub ghosts-run_on-L-Ledger : goal.ghosts-run_on-L-Ledger
ghosts-run_on-L-Ledger g a = record { name = a.blank.name; parts = a.blank.parts }
