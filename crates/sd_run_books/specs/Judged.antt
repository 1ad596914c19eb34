-- Public meaning: the book that an accounts file makes, and the first fault [this project, docs/FORMATS.md, Accounts].
use Rattle.std.specs.Prelude.{ℕ, ◌+◌, ◌||◌, Bool, List, [], ◌∷◌, ◌++◌, length, is_some, if◌then◌else◌, Option, Some}
use Rattle.std.specs.Prelude.{None}
use Rattle.std.specs.Prelude.{Result, Ok, Err}
use Rattle.sd_book.specs.declared.command.Command.{Command}
use Rattle.sd_book.specs.declared.command.Command.TheVariants.{Subscribe, Revoke, Period}
use Rattle.sd_book.specs.declared.fault.BookFault.{BookFault}
use Rattle.sd_book.specs.Text.{command_fits, period_end_check}
use Rattle.sd_run_books.specs.declared.account_fault.AccountFault.{AccountFault}
use Rattle.sd_run_books.specs.declared.account_fault.AccountFault.TheVariants.{Line, Unknown, Taken}
use Rattle.sd_run_books.specs.Fault.{as_fault}
use Rattle.sd_run_books.specs.Line.{Entry, Assigns, Drops, Restores, Ends, said_by_accounts}
use Rattle.sd_run_books.specs.Bound.{leaf_of, is_held}

-- the command on the leaf that a name is bound to, or that line k names none that is bound
abbrev pub on_leaf : ℕ → (ℕ → Command) → Option ℕ → Result Command AccountFault
on_leaf k makes None = Err (Unknown k)
on_leaf k makes (Some u) = Ok (makes u)

-- The command that line k makes, where leaf_for gives the leaf of a name and held the leaves that are bound, or what is
-- wrong with the line
abbrev pub command_by : (List ℕ → Option ℕ) → (ℕ → Bool) → ℕ → Option Entry → Result Command AccountFault
command_by leaf_for held k None = Err (Line k)
command_by leaf_for held k (Some (Assigns name u)) =
    if is_some (leaf_for name) || held u then Err (Taken k) else Ok (Subscribe u)
command_by leaf_for held k (Some (Drops name)) = on_leaf k Revoke (leaf_for name)
command_by leaf_for held k (Some (Restores name)) = on_leaf k Subscribe (leaf_for name)
command_by leaf_for held k (Some Ends) = Ok Period

-- the command that a line makes after those lines, or what is wrong with it beside the limits of a book
abbrev pub command_after : List (Option Entry) → Option Entry → Result Command AccountFault
command_after before said =
    command_by (λ name. leaf_of name before) (λ u. is_held u before) (length before + 1) said

-- a step that is taken where the one before found no fault
infixl 10 ◌>>=◌
abbrev pub ◌>>=◌ : {A B : Type 0} → Result A AccountFault → (A → Result B AccountFault) → Result B AccountFault
(Ok x) >>= f = f x
(Err fault) >>= f = Err fault

-- what a book allows
abbrev pub allowed : {A : Type 0} → Result A BookFault → Result A AccountFault
allowed (Ok x) = Ok x
allowed (Err fault) = Err (as_fault fault)

-- The command that a line makes after those lines with their commands, or what is wrong with it. On one line the form
-- and the leaf come first, then names that are unknown, then what is taken, then the limits of the book [this project,
-- docs/FORMATS.md, Accounts]
abbrev pub judged_account_line : ℕ → List (Option Entry) → List Command → Option Entry → Result Command AccountFault
judged_account_line d before commands said =
    command_after before said >>= λ command. allowed (command_fits d commands command)

-- the commands with those that the lines after them make: the first bad line decides, and the last period comes last
abbrev pub account_commands : ℕ → List (Option Entry) → List Command → List (Option Entry) →
    Result (List Command) AccountFault
account_commands d before commands [] = allowed (period_end_check d commands commands)
account_commands d before commands (said ∷ rest) =
    judged_account_line d before commands said >>= λ command. account_commands d (before ++ said ∷ [])
    (commands ++ command ∷ []) rest

-- the commands that an accounts file makes for a tree of height d, one a line, or its first fault
unfoldable pub accounts_book : ℕ → List ℕ → Result (List Command) AccountFault
accounts_book d bytes = account_commands d [] [] (said_by_accounts d bytes)
