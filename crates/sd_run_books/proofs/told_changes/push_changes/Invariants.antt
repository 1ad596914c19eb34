use Rattle.std.proofs.Common.{◌≡◌, ◌+◌, ◌++◌, length, string_bytes}
use Rattle.sd_run_books.proofs.Merged.{merged, lines}
use Rattle.sd_run_books.proofs.told_changes.push_changes.Given as goal

-- the lines so far and those of what is left are those of all
abbrev pub invariant-loop-leaf : goal.invariant-loop-leaf
invariant-loop-leaf l =
    string_bytes l.text ++ lines (merged l.old l.new)
    ≡ string_bytes l.fn.text ++ lines (merged l.fn.before l.fn.now)

abbrev pub decreases-loop-leaf : goal.decreases-loop-leaf
decreases-loop-leaf l = length l.old + length l.new
