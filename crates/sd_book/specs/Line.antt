-- Inner: a line of a book by itself.
use Rattle.std.specs.Prelude.{ℕ, ◌^◌, nat_lt, if◌then◌else◌, Option, Some, None, Result, Ok, Err}
use Rattle.sd_book.specs.declared.command.Command.{Command}
use Rattle.sd_book.specs.declared.line.LineFault.{LineFault}
use Rattle.sd_book.specs.declared.line.LineFault.TheVariants.{Form, Leaf}
use Rattle.sd_book.specs.Commands.{is_within}

-- the number of a line as a leaf of a tree of height d
abbrev pub book_leaf : ℕ → Option ℕ → Result ℕ LineFault
book_leaf d None = Err Form
book_leaf d (Some u) = if nat_lt u (2 ^ d) then Ok u else Err Leaf

-- the command of a line, which is to be of a tree of height d
abbrev pub command_on_line : ℕ → Option Command → Result Command LineFault
command_on_line d None = Err Form
command_on_line d (Some command) = if is_within d command then Ok command else Err Leaf
