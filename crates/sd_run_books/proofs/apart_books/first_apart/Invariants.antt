use Rattle.std.proofs.Common.{◌≡◌, drop}
use Rattle.sd_run_books.proofs.Merging.{merged}
use Rattle.sd_run_books.proofs.apart_books.first_apart.Given as goal

-- what is left after equal first leaves says the same
abbrev pub invariant-loop-at : goal.invariant-loop-at
invariant-loop-at l =
    (merged (drop l.at l.left) (drop l.at l.right) ≡ merged l.fn.left l.fn.right) × (l.left ≡ l.fn.left)
    × (l.right ≡ l.fn.right)
