use Rattle.sd_test_ports.proofs.engine.is_handed.Given as goal

-- the ledger is the blank one
abbrev pub ghosts-driven : goal.ghosts-driven
ghosts-driven a = record { name = a.blank.name; parts = a.blank.parts }
