-- Public meaning: a replay of a book, one period after the other.
use Rattle.std.specs.Prelude.{◌≡◌, ℕ, zero, suc, List, [], ◌++◌}
use Rattle.sd_book.specs.declared.command.Command.{Command}
use Rattle.sd_book.specs.Commands.{commands_in, commands_until, is_revoked, revoked_after}

-- a replay as contracts see it: the book's height and commands, and the number of the period that comes next
pub record ReplayValue : Type 0 where
  pub height : ℕ
  pub commands : List Command
  pub next : ℕ

-- the commands that decide the period before q
abbrev pub decided_before : List Command → ℕ → List Command
decided_before commands zero = []
decided_before commands (suc q) = commands_until q commands

-- What is kept while period q comes next: the leaves that are revoked after some commands. They are those that decide
-- the period before, and, where memory ran out, some of period q, which are taken anew and come to the same then
pub record IsReplay (d : ℕ) (commands : List Command) (q : ℕ) (kept : List ℕ) : Type 0 where
  pub taken : List Command
  pub revoked : kept ≡ revoked_after d taken
  pub again : (u : ℕ) → is_revoked (taken ++ commands_in commands q) u
      ≡ is_revoked (decided_before commands q ++ commands_in commands q) u
