-- Public meaning: the book file: one command a line [this project, docs/FORMATS.md, Book].
use Rattle.std.specs.Prelude.{◌≡◌, ℕ, ◌+◌, nat_lt, nat_le, List, [], ◌∷◌, ◌++◌, map, length, codes, bytes_eq}
use Rattle.std.specs.Prelude.{if◌then◌else◌, Option, Some, None, Result, Ok, Err, option_map}
use Rattle.std.specs.Fmt.{decimal}
use Rattle.std.specs.List.{flat_map}
use Rattle.sd_base.specs.Lines.{lines_of}
use Rattle.sd_base.specs.Number.{decimal_after}
use Rattle.sd_tree_keys.specs.Limits.{most_revoked}
use Rattle.sd_book.specs.declared.command.Command.{Command}
use Rattle.sd_book.specs.declared.command.Command.TheVariants.{Subscribe, Revoke, Period}
use Rattle.sd_book.specs.declared.fault.BookFault.{BookFault}
use Rattle.sd_book.specs.declared.fault.BookFault.TheVariants.{Line, Leaf, Limit}
use Rattle.sd_book.specs.declared.fault.BookLimit.TheVariants.{Lines, Periods, Revoked}
use Rattle.sd_book.specs.Limits.{most_commands, most_periods}
use Rattle.sd_book.specs.Commands.{is_within, is_period, last_period, revoked_after}

-- the first of two that is there
abbrev pub first_command_there : Option Command → Option Command → Option Command
first_command_there (Some command) other = Some command
first_command_there None other = other

-- the command of a line in the grammar, whose leaf is any number [this project, docs/FORMATS.md, Book]
unfoldable pub command_of : List ℕ → Option Command
command_of line =
    if bytes_eq line (codes "period") then Some Period
    else first_command_there (option_map Subscribe (decimal_after (codes "subscribe ") line))
    (option_map Revoke (decimal_after (codes "revoke ") line))

-- the lines are these commands
abbrev pub SpellsBook : List (List ℕ) → List Command → Type 0
SpellsBook lines commands = map command_of lines ≡ map Some commands

-- what each line of a text says: a command, or none
abbrev pub said_by_book : List ℕ → List (Option Command)
said_by_book bytes = map command_of (lines_of bytes)

-- a step that is taken where the one before found no fault
infixl 10 ◌>>=◌
abbrev pub ◌>>=◌ : {A B : Type 0} → Result A BookFault → (A → Result B BookFault) → Result B BookFault
(Ok x) >>= f = f x
(Err fault) >>= f = Err fault

-- the command of line k, which is to be of the tree
abbrev pub in_tree : ℕ → ℕ → Option Command → Result Command BookFault
in_tree d k None = Err (Line k)
in_tree d k (Some command) = if is_within d command then Ok command else Err (Leaf k)

-- the period that these commands end with has no more revoked leaves than a period may have
abbrev pub period_end_check : {A : Type 0} → ℕ → List Command → A → Result A BookFault
period_end_check d commands value =
    if nat_lt most_revoked (length (revoked_after d commands)) then Err (Limit (Revoked (last_period commands)))
    else Ok value

-- a Period is to be within the limits on periods after these commands
abbrev pub period_fits : ℕ → List Command → Command → Result Command BookFault
period_fits d before command =
    if is_period command
    then (if nat_le most_periods (last_period before) then Err (Limit Periods) else period_end_check d before command)
    else Ok command

-- a command of the tree after those commands, or the limit that it breaks
abbrev pub command_fits : ℕ → List Command → Command → Result Command BookFault
command_fits d before command =
    if nat_le most_commands (length before) then Err (Limit Lines) else period_fits d before command

-- The command that a line says after those commands, or what is wrong with it. On one line the number of lines comes
-- first, and then the form, the leaf and the limits on periods [this project, docs/FORMATS.md, Book]
abbrev pub judged_book_line : ℕ → List Command → Option Command → Result Command BookFault
judged_book_line d before said =
    if nat_le most_commands (length before) then Err (Limit Lines)
    else (in_tree d (length before + 1) said >>= λ command. period_fits d before command)

-- the commands with those that the lines after them say: the first bad line decides, and the last period comes last
abbrev pub book_commands : ℕ → List Command → List (Option Command) → Result (List Command) BookFault
book_commands d before [] = period_end_check d before before
book_commands d before (said ∷ rest) = judged_book_line d before said >>= λ command. book_commands d
    (before ++ command ∷ []) rest

-- the commands of a book file for a tree of height d, or its first fault
unfoldable pub book_of : ℕ → List ℕ → Result (List Command) BookFault
book_of d bytes = book_commands d [] (said_by_book bytes)

-- the line that says a command [this project, docs/FORMATS.md, Book]
unfoldable pub book_command_line : Command → List ℕ
book_command_line (Subscribe u) = codes "subscribe " ++ decimal u
book_command_line (Revoke u) = codes "revoke " ++ decimal u
book_command_line Period = codes "period"

-- the book file of these commands, a line feed after each line [this project, docs/FORMATS.md, Book]
unfoldable pub text_of_book : List Command → List ℕ
text_of_book commands = flat_map (λ command. book_command_line command ++ 10 ∷ []) commands
