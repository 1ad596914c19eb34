use Rattle.sd_test_stages.proofs.receive.opened_after_refusals.Given as goal

abbrev pub ghosts-refused : goal.ghosts-refused
ghosts-refused a = record { name = a.blank.name; parts = a.blank.parts }
