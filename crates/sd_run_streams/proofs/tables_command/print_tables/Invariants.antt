use Rattle.sd_run_streams.proofs.tables_command.print_tables.Given as goal

-- the ledger is the blank one
abbrev pub ghosts-inspect : goal.ghosts-inspect
ghosts-inspect g a = record { name = a.blank.name; parts = a.blank.parts }
