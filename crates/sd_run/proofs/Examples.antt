-- What the example of a command comes to.
use Rattle.std.specs.Prelude.{◌≡◌, ℕ, ◌==◌, if◌then◌else◌, List, [], ◌∷◌, Result, Ok, Err}
use Rattle.std.specs.List.{flat_map}
use Rattle.sd_command_line.specs.declared.command.Command.{Command}
use Rattle.sd_command_line.specs.Commands.{example_of}
use Rattle.sd_command_base.specs.declared.status.Status.{Status}
use Rattle.sd_command_line.specs.Words.{Argument, Order, CommandOf, HelpOf, VersionOf, order_of}

-- the words of a line, between blanks
unfoldable pub onto_first : ℕ → List (List ℕ) → List (List ℕ)
onto_first c [] = (c ∷ []) ∷ []
onto_first c (word ∷ words) = (c ∷ word) ∷ words

unfoldable pub words_in : List ℕ → List (List ℕ)
words_in [] = [] ∷ []
words_in (c ∷ line) = if c == 32 then [] ∷ words_in line else onto_first c (words_in line)

unfoldable pub arguments_in : Result Order Status → List Argument
arguments_in (Ok (CommandOf command arguments)) = arguments
arguments_in (Ok (HelpOf topic)) = []
arguments_in (Ok VersionOf) = []
arguments_in (Err status) = []

abbrev pub example_order : Command → Result Order Status
example_order command = order_of (words_in (example_of command))

-- the example of a command is words that order it
abbrev pub IsExample : Command → Type 0
IsExample command =
    (flat_map (λ word. 32 ∷ word) (words_in (example_of command)) ≡ 32 ∷ example_of command)
    × (example_order command ≡ Ok (CommandOf command (arguments_in (example_order command))))
