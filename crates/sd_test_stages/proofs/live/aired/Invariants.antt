use Rattle.sd_test_stages.proofs.live.aired.Given as goal

abbrev pub ghosts-aired_by : goal.ghosts-aired_by
ghosts-aired_by a = record { name = a.blank.name; parts = a.blank.parts }
