use Rattle.sd_test_losses.proofs.ends.received.Given as goal

abbrev pub ghosts-heard : goal.ghosts-heard
ghosts-heard a = record { name = a.blank.name; parts = a.blank.parts }
