-- Public meaning: what the program answers to the words of a process.
use Rattle.std.specs.Prelude.{◌≡◌, ◌⊎◌, ℕ, List, None}
use Rattle.sd_command_base.specs.declared.status.Status.{Status}
use Rattle.sd_command_base.specs.declared.status.Status.TheVariants.{Usage, NoMemory}
use Rattle.sd_command_base.specs.Outside.{IoState}
use Rattle.sd_command_base.specs.Results.{RunResult, IsToldAs}
use Rattle.sd_command_line.specs.Spelled.{spelled}
use Rattle.sd_run.specs.Meaning.{meaning}

-- the status is one of `run` to these words, over files of which nothing is known
abbrev pub IsAnswerTo : List (List ℕ) → Status → Type 0
IsAnswerTo words status = (a b : IoState) × (a.place.files ≡ None) × RunResult (meaning words) a b status

-- the words can't be read: one isn't UTF-8, or memory ran out
abbrev pub IsUnread : Status → Type 0
IsUnread status = (status ≡ Usage) ⊎ (status ≡ NoMemory)

-- the status is one of `run` to some words, as they are spelled out, or tells that the words can't be read
abbrev pub IsAnswer : Status → Type 0
IsAnswer status =
    ((words : List (List ℕ)) × IsAnswerTo (spelled words) status)
    ⊎ ((unread : Status) × (IsUnread unread × IsToldAs unread status))
