use Rattle.sd_test_books.proofs.cover.same.Given as goal

abbrev pub ghosts-counted_same : goal.ghosts-counted_same
ghosts-counted_same a = record { name = a.blank.name; parts = a.blank.parts }
