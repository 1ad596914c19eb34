-- Public meaning: `book SITE BOOK COMMANDS OUT` [this project, docs/FORMATS.md, Book].
use Rattle.std.specs.Prelude.{ℕ, List, [], ◌++◌, map, Some, Result}
use Rattle.sd_book.specs.declared.command.Command.{Command}
use Rattle.sd_book.specs.Text.{book_commands as said, text_of_book}
use Rattle.sd_command_base.specs.declared.status.Status.{Status}
use Rattle.sd_command_base.specs.Spec.{Spec, FileArgument, Readings, of_result, value, ◌>>=◌}
use Rattle.sd_command_base.specs.Work.{NoSteps, Work}
use Rattle.sd_command_base.specs.Files.{book_in, book_or_status}
use Rattle.sd_command_base.specs.Both.{both_meaning}
use Rattle.sd_command_base.specs.Made.{making}

-- the commands of a book with others after them, or the first limit that so long a book breaks; the others are those of
-- this word's file. Each is a command of the tree, so no line is refused
unfoldable pub longer_book : ℕ → ℕ → List Command → List Command → Result (List Command) Status
longer_book word d commands added = book_or_status word d [] (said d [] (map Some (commands ++ added)))

-- makes OUT the file of the book with the commands of COMMANDS, which is a book by itself, after its own
unfoldable pub book_meaning : FileArgument → FileArgument → FileArgument → FileArgument → Readings → Spec Work
book_meaning site book commands out given = do
  both ← both_meaning site book given
  added ← book_in given both.site.height commands
  longer ← of_result (longer_book commands.number both.site.height both.commands added)
  value (making NoSteps out (text_of_book longer))
