use Rattle.std.proofs.Common.{◌≡◌, ◌++◌, drop}
use Rattle.sd_book.specs.Tally.{marked_from}
use Rattle.sd_book.proofs.tally.Tally.leaves.Given as goal

-- the leaves so far and those of the marks that are left are those of all marks
abbrev pub invariant-loop-u : goal.invariant-loop-u
invariant-loop-u l = l.leaves.items ++ marked_from l.u (drop l.u l.self.marks.items) ≡ marked_from 0 l.self.marks.items
