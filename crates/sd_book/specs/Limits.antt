-- Public meaning: the limits of a book [this project, docs/FORMATS.md, Book].
use Rattle.std.specs.Prelude.{◌≡◌, ℕ, ◌<◌, ◌≤◌, true, List, length, All}
use Rattle.sd_tree_keys.specs.Limits.{most_revoked}
use Rattle.sd_book.specs.declared.command.Command.{Command}
use Rattle.sd_book.specs.Commands.{is_within, last_period, revoked}

-- as many commands a book may have
abbrev pub most_commands : ℕ
most_commands = 1048576

-- and as many of them may be Period commands
abbrev pub most_periods : ℕ
most_periods = 1023

-- what each book of a tree of height d keeps
pub record IsWithinLimits (d : ℕ) (commands : List Command) : Type 0 where
  pub leaves : All (λ command. is_within d command ≡ true) commands
  pub lines : length commands ≤ most_commands
  pub periods : last_period commands ≤ most_periods
  pub revoked : (q : ℕ) → q ≤ last_period commands → length (revoked d commands q) ≤ most_revoked

-- what the first commands of such a book keep: the period that they end in isn't judged yet
pub record IsDraft (d : ℕ) (commands : List Command) : Type 0 where
  pub leaves : All (λ command. is_within d command ≡ true) commands
  pub lines : length commands ≤ most_commands
  pub periods : last_period commands ≤ most_periods
  pub revoked : (q : ℕ) → q < last_period commands → length (revoked d commands q) ≤ most_revoked
