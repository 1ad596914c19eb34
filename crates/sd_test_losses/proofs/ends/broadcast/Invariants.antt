use Rattle.sd_test_losses.proofs.ends.broadcast.Given as goal

abbrev pub ghosts-sent : goal.ghosts-sent
ghosts-sent a = record { name = a.blank.name; parts = a.blank.parts }
