-- Public meaning: the work that the program's arguments and files ask for.
use Rattle.std.specs.Prelude.{List, ℕ}
use Rattle.sd_command_base.specs.Spec.{Spec, Readings, of_result, ◌>>=◌}
use Rattle.sd_command_base.specs.Work.{Work}
use Rattle.sd_command_line.specs.declared.command.Command.{Command}
use Rattle.sd_command_line.specs.declared.command.Command.TheVariants.{Accounts, Air, Book, Card, Cover, Field}
use Rattle.sd_command_line.specs.declared.command.Command.TheVariants.{Head, Layered, Lcard}
use Rattle.sd_command_line.specs.declared.command.Command.TheVariants.{Apart, Messages, Next, Opens, Plan}
use Rattle.sd_command_line.specs.declared.command.Command.TheVariants.{Receive, Sample}
use Rattle.sd_command_line.specs.declared.command.Command.TheVariants.{Show, Status}
use Rattle.sd_command_line.specs.declared.command.Command.TheVariants.{Tables}
use Rattle.sd_command_line.specs.declared.command.Command.TheVariants.{Trace, Trial, Twin, Watch}
use Rattle.sd_command_line.specs.Words.{Argument, Order, CommandOf, HelpOf, VersionOf, file, number, order_of}
use Rattle.sd_run_books.specs.Cover.{cover_meaning}
use Rattle.sd_run_books.specs.Card.{card_meaning}
use Rattle.sd_run_streams.specs.Sample.{sample_meaning}
use Rattle.sd_run_streams.specs.Tables.{tables_meaning}
use Rattle.sd_run_broadcasts.specs.Air.{air_meaning}
use Rattle.sd_run_broadcasts.specs.Field.{field_meaning}
use Rattle.sd_run_broadcasts.specs.Head.{head_meaning}
use Rattle.sd_run_broadcasts.specs.Receive.{receive_meaning}
use Rattle.sd_run_books.specs.AccountsCommand.{accounts_meaning}
use Rattle.sd_run_books.specs.Apart.{apart_meaning}
use Rattle.sd_run_books.specs.Book.{book_meaning}
use Rattle.sd_run_books.specs.Layered.{layered_meaning}
use Rattle.sd_run_books.specs.Lcard.{lcard_meaning}
use Rattle.sd_run_streams.specs.Messages.{messages_meaning}
use Rattle.sd_run_books.specs.Next.{next_meaning}
use Rattle.sd_run_books.specs.Opens.{opens_meaning}
use Rattle.sd_run_books.specs.Air.{plan_command_meaning}
use Rattle.sd_run_books.specs.Show.{show_meaning}
use Rattle.sd_run_books.specs.Status.{status_meaning}
use Rattle.sd_run_books.specs.Trace.{trace_meaning}
use Rattle.sd_run_books.specs.Twin.{twin_meaning}
use Rattle.sd_run_broadcasts.specs.Trial.{trial_meaning}
use Rattle.sd_run_broadcasts.specs.Watch.{watch_meaning}
use Rattle.sd_command_line.specs.Help.{help_meaning, version_meaning}

-- the work of a command with its arguments
abbrev pub command_meaning : Command → List Argument → Readings → Spec Work
command_meaning Accounts words given = accounts_meaning (file 1 words) (file 2 words) (file 3 words) given
command_meaning Air words given = air_meaning (file 1 words) (file 2 words) (file 3 words) (file 4 words) given
command_meaning Apart words given = apart_meaning (file 1 words) (file 2 words) (file 3 words) (file 4 words) given
command_meaning Book words given = book_meaning (file 1 words) (file 2 words) (file 3 words) (file 4 words) given
command_meaning Card words given = card_meaning (file 1 words) (number 2 words) (file 3 words) given
command_meaning Cover words given = cover_meaning (file 1 words) (file 2 words) given
command_meaning Field words given = field_meaning (file 1 words) (file 2 words) (file 3 words) given
command_meaning Head words given = head_meaning (file 1 words) (file 2 words) (file 3 words) (file 4 words) given
command_meaning Layered words given = layered_meaning (file 1 words) (file 2 words) (number 3 words) given
command_meaning Lcard words given = lcard_meaning (file 1 words) (number 2 words) (number 3 words) (file 4 words) given
command_meaning Messages words given = messages_meaning (file 1 words) (file 2 words) given
command_meaning Next words given = next_meaning (file 1 words) (file 2 words) (number 3 words) (file 4 words) given
command_meaning Opens words given = opens_meaning (file 1 words) (file 2 words) (file 3 words) given
command_meaning Plan words given =
    plan_command_meaning (file 1 words) (file 2 words) (number 3 words) (number 4 words).value given
command_meaning Receive words given = receive_meaning (file 1 words) (file 2 words) (file 3 words) given
command_meaning Sample words given = sample_meaning (number 1 words).value (number 2 words).value (file 3 words) given
command_meaning Show words given = show_meaning (file 1 words) given
command_meaning Status words given = status_meaning (file 1 words) (file 2 words) (number 3 words) given
command_meaning Tables words given = tables_meaning (file 1 words) given
command_meaning Trace words given = trace_meaning (file 1 words) (file 2 words) (file 3 words) given
command_meaning Trial words given = trial_meaning (file 1 words) (file 2 words) (file 3 words) given
command_meaning Twin words given = twin_meaning (file 1 words) (number 2 words) (file 3 words) given
command_meaning Watch words given = watch_meaning (file 1 words) (file 2 words) (file 3 words) given

-- the work of an order
abbrev pub order_meaning : Order → Readings → Spec Work
order_meaning (CommandOf command arguments) given = command_meaning command arguments given
order_meaning (HelpOf topic) given = help_meaning topic given
order_meaning VersionOf given = version_meaning given

-- the work that the arguments ask for, or the status of their refusal
abbrev pub meaning : List (List ℕ) → Readings → Spec Work
meaning words given = of_result (order_of words) >>= λ order. order_meaning order given
