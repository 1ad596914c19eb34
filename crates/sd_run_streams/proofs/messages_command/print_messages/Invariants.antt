use Rattle.sd_run_streams.proofs.messages_command.print_messages.Given as goal

-- the ledger is the blank one
abbrev pub ghosts-monitor : goal.ghosts-monitor
ghosts-monitor g a = record { name = a.blank.name; parts = a.blank.parts }
