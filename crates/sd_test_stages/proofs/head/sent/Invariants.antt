use Rattle.sd_test_stages.proofs.head.sent.Given as goal

abbrev pub ghosts-driven : goal.ghosts-driven
ghosts-driven a = record { name = a.blank.name; parts = a.blank.parts }
