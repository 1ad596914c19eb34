-- Public meaning: a book as contracts see it.
use Rattle.std.specs.Prelude.{ℕ, List}
use Rattle.sd_book.specs.declared.command.Command.{Command}

-- a book as contracts see it
pub record BookValue : Type 0 where
  pub height : ℕ
  pub commands : List Command
