use Rattle.sd_test_books.proofs.cover.sets.Given as goal

abbrev pub ghosts-counted_sets : goal.ghosts-counted_sets
ghosts-counted_sets a = record { name = a.blank.name; parts = a.blank.parts }
