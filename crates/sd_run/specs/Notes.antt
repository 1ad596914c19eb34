-- Public meaning: what is said on the standard error while a command runs.
use Rattle.std.specs.Prelude.{◌≡◌, ℕ, List, [], Result, Ok, Err}
use Rattle.sd_command_base.specs.declared.status.Status.{Status}
use Rattle.sd_command_base.specs.Spec.{Readings}
use Rattle.sd_command_line.specs.declared.command.Command.{Command}
use Rattle.sd_command_line.specs.declared.command.Command.TheVariants.{Air, Head}
use Rattle.sd_command_line.specs.Words.{Argument, Order, CommandOf, HelpOf, VersionOf, file, order_of}
use Rattle.sd_run_broadcasts.specs.Said.{AirSays, HeadSays}

-- nothing is said
abbrev pub SaysNothing : Readings → List ℕ → Type 0
SaysNothing given bytes = bytes ≡ []

-- what a command says with its arguments, by what its files gave
abbrev pub says_of : Command → List Argument → Readings → List ℕ → Type 0
says_of Air words = AirSays (file 1 words) (file 2 words)
says_of Head words = HeadSays (file 1 words)
says_of command words = SaysNothing

-- what an order says
abbrev pub order_says : Order → Readings → List ℕ → Type 0
order_says (CommandOf command arguments) = says_of command arguments
order_says (HelpOf topic) = SaysNothing
order_says VersionOf = SaysNothing

abbrev pub says_read : Result Order Status → Readings → List ℕ → Type 0
says_read (Ok order) = order_says order
says_read (Err status) = SaysNothing

-- what is said to words
abbrev pub says : List (List ℕ) → Readings → List ℕ → Type 0
says words = says_read (order_of words)
