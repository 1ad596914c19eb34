use Rattle.sd_test_run.proofs.leaving.noted.Given as goal

-- the ledger is the blank one
abbrev pub ghosts-counted : goal.ghosts-counted
ghosts-counted g a = record { name = a.blank.name; parts = a.blank.parts }
