-- Public meaning: when each fault of accounts comes [this project, docs/FORMATS.md, Accounts].
use Rattle.std.specs.Prelude.{◌≡◌, ◌⊎◌, ℕ, ◌+◌, ◌<◌, true, false, List, [], ◌∷◌, ◌++◌, length, take, slice_get}
use Rattle.std.specs.Prelude.{is_some, Option, Some, None}
use Rattle.sd_book.specs.declared.command.Command.{Command}
use Rattle.sd_book.specs.declared.command.Command.TheVariants.{Subscribe, Revoke, Period}
use Rattle.sd_book.specs.declared.fault.BookLimit.{BookLimit}
use Rattle.sd_book.specs.Faults.{BreaksLimit}
use Rattle.sd_book.specs.Limits.{IsDraft}
use Rattle.sd_run_books.specs.declared.account_fault.AccountFault.{AccountFault}
use Rattle.sd_run_books.specs.declared.account_fault.AccountFault.TheVariants.{Line, Unknown, Taken, Limit}
use Rattle.sd_run_books.specs.Line.{Entry, Assigns, Drops, Restores, Ends}
use Rattle.sd_run_books.specs.Bound.{leaf_of, is_held}

-- after these lines the line makes this command: the name and the leaf that it assigns are free, and the name that it
-- drops or restores is bound to the command's leaf
abbrev pub AddsCommand : List (Option Entry) → Entry → Command → Type 0
AddsCommand before (Assigns name u) command =
    (command ≡ Subscribe u) × (leaf_of name before ≡ None) × (is_held u before ≡ false)
AddsCommand before (Drops name) command = (u : ℕ) × (command ≡ Revoke u) × (leaf_of name before ≡ Some u)
AddsCommand before (Restores name) command = (u : ℕ) × (command ≡ Subscribe u) × (leaf_of name before ≡ Some u)
AddsCommand before Ends command = command ≡ Period

-- the fault of a line that says this after these lines, apart from the limits of a book; lines are counted from 1
abbrev pub IsWrong : List (Option Entry) → Option Entry → AccountFault → Type 0
IsWrong before None fault = fault ≡ Line (length before + 1)
IsWrong before (Some (Assigns name u)) fault =
    (fault ≡ Taken (length before + 1)) × ((is_some (leaf_of name before) ≡ true) ⊎ (is_held u before ≡ true))
IsWrong before (Some (Drops name)) fault = (fault ≡ Unknown (length before + 1)) × (leaf_of name before ≡ None)
IsWrong before (Some (Restores name)) fault = (fault ≡ Unknown (length before + 1)) × (leaf_of name before ≡ None)
IsWrong before (Some Ends) fault = ⊥

-- each of these lines makes its command, and a book of the tree may begin with these commands
pub record AreGoodAccountLines (d : ℕ) (said : List (Option Entry)) (commands : List Command) : Type 0 where
  pub same : length commands ≡ length said
  pub each : (k : ℕ) → k < length said →
      (entry : Entry) × (command : Command) × (slice_get said k ≡ Some (Some entry))
      × (slice_get commands k ≡ Some command) × AddsCommand (take k said) entry command
  pub draft : IsDraft d commands

-- the next line is there, and wrong
abbrev pub NextIsWrong : List (Option Entry) → List (Option Entry) → AccountFault → Type 0
NextIsWrong before rest fault =
    (said : Option Entry) × (others : List (Option Entry)) × (rest ≡ said ∷ others) × IsWrong before said fault

-- what a book's next line says: the command that the next line makes, or nothing if none is left
abbrev pub NextMakes : List (Option Entry) → List (Option Entry) → List (Option Command) → Type 0
NextMakes before [] next = next ≡ []
NextMakes before (None ∷ others) next = ⊥
NextMakes before (Some entry ∷ others) next =
    (command : Command) × AddsCommand before entry command × (next ≡ Some command ∷ [])

-- the command that the next line makes breaks a limit of a book after these commands, or their end does
abbrev pub NextBreaks : ℕ → List (Option Entry) → List Command → List (Option Entry) → AccountFault → Type 0
NextBreaks d before commands rest fault =
    (limit : BookLimit) × (next : List (Option Command)) × NextMakes before rest next × (fault ≡ Limit limit)
    × BreaksLimit d commands next limit

-- The fault of lines that say this: after good lines the next one is wrong, or a limit of a book is broken
abbrev pub IsAccountFaultOf : ℕ → List (Option Entry) → AccountFault → Type 0
IsAccountFaultOf d said fault =
    (before rest : List (Option Entry)) × (commands : List Command) × (said ≡ before ++ rest)
    × AreGoodAccountLines d before commands × (NextIsWrong before rest fault ⊎ NextBreaks d before commands rest fault)
