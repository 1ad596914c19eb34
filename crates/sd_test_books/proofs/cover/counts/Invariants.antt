use Rattle.sd_test_books.proofs.cover.counts.Given as goal

abbrev pub ghosts-counted_counts : goal.ghosts-counted_counts
ghosts-counted_counts a = record { name = a.blank.name; parts = a.blank.parts }
