-- Inner: whether a period has the same as the period before.
use Rattle.std.specs.Prelude.{Bool, false, not, Option, Some, None}
use Rattle.sd_run_books.specs.Apart.{differ}

-- there is a period before, and it has the same
abbrev pub is_same_state : Option Bool → Bool → Bool
is_same_state None now = false
is_same_state (Some before) now = not (differ before now)
