-- Public meaning: when each fault comes [this project, docs/FORMATS.md, Book].
use Rattle.std.specs.Prelude.{◌≡◌, ◌⊎◌, ℕ, ◌+◌, ◌<◌, List, [], ◌∷◌, ◌++◌, false, length, map, Option, Some, None}
use Rattle.sd_tree_keys.specs.Limits.{most_revoked}
use Rattle.sd_book.specs.declared.command.Command.{Command}
use Rattle.sd_book.specs.declared.command.Command.TheVariants.{Period}
use Rattle.sd_book.specs.declared.fault.BookFault.{BookFault}
use Rattle.sd_book.specs.declared.fault.BookFault.TheVariants.{Line, Leaf, Limit, NoMemory}
use Rattle.sd_book.specs.declared.fault.BookLimit.{BookLimit}
use Rattle.sd_book.specs.declared.fault.BookLimit.TheVariants.{Lines, Periods, Revoked}
use Rattle.sd_book.specs.Commands.{is_within, last_period, revoked_after}
use Rattle.sd_book.specs.Limits.{IsDraft, most_commands, most_periods}

-- another line is there, and it says this: a command, or none
abbrev pub NextSays : Option Command → List (Option Command) → Type 0
NextSays said rest = (others : List (Option Command)) × (rest ≡ said ∷ others)

-- after these commands the book has room for another
abbrev pub HasCommandRoom : List Command → Type 0
HasCommandRoom before = length before < most_commands

-- period q is the one that these commands end in, and too many leaves are revoked after them
abbrev pub IsCrowded : ℕ → List Command → ℕ → Type 0
IsCrowded d before q = (q ≡ last_period before) × (most_revoked < length (revoked_after d before))

-- after these commands the rest of the lines ends the period: by a Period that may come, or as no line is left
abbrev pub PeriodEnds : List Command → List (Option Command) → Type 0
PeriodEnds before rest = (rest ≡ [])
    ⊎ (HasCommandRoom before × NextSays (Some Period) rest × (last_period before < most_periods))

-- the limit that is broken after these commands, where the rest of the lines says this
abbrev pub BreaksLimit : ℕ → List Command → List (Option Command) → BookLimit → Type 0
BreaksLimit d before rest Lines = (length before ≡ most_commands) × (said : Option Command) × NextSays said rest
BreaksLimit d before rest Periods = HasCommandRoom before × NextSays (Some Period) rest ×
    (last_period before ≡ most_periods)
BreaksLimit d before rest (Revoked q) = PeriodEnds before rest × IsCrowded d before q

-- the fault is the limit that is broken there
abbrev pub IsBrokenLimit : ℕ → List Command → List (Option Command) → BookFault → Type 0
IsBrokenLimit d before rest fault = (limit : BookLimit) × (fault ≡ Limit limit) × BreaksLimit d before rest limit

-- the fault that comes after these commands, where the rest of the lines says this; lines are counted from 1
abbrev pub FaultAfter : ℕ → List Command → List (Option Command) → BookFault → Type 0
FaultAfter d before rest (Line k) = HasCommandRoom before × (k ≡ length before + 1) × NextSays None rest
FaultAfter d before rest (Leaf k) =
    HasCommandRoom before × (k ≡ length before + 1) × (command : Command) × NextSays (Some command) rest
    × (is_within d command ≡ false)
FaultAfter d before rest (Limit limit) = BreaksLimit d before rest limit
FaultAfter d before rest NoMemory = ⊥

-- The fault of lines that say this: it comes after commands that a book of the tree may begin with
abbrev pub IsBookFaultOf : ℕ → List (Option Command) → BookFault → Type 0
IsBookFaultOf d said fault =
    (before : List Command) × (rest : List (Option Command))
    × (said ≡ map Some before ++ rest) × IsDraft d before × FaultAfter d before rest fault

-- the fault is a broken limit
abbrev pub IsLimit : BookFault → Type 0
IsLimit fault = (limit : BookLimit) × (fault ≡ Limit limit)

-- the fault is the limit that a book of these commands breaks first
pub record IsFirstLimit (d : ℕ) (commands : List Command) (fault : BookFault) : Type 0 where
  pub limit : IsLimit fault
  pub cause : IsBookFaultOf d (map Some commands) fault
