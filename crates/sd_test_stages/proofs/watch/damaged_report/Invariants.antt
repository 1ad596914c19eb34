use Rattle.sd_test_stages.proofs.watch.damaged_report.Given as goal

abbrev pub ghosts-watched : goal.ghosts-watched
ghosts-watched a = record { name = a.blank.name; parts = a.blank.parts }
