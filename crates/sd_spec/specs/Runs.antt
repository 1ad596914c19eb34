-- Public meaning: runs of one channel that follow one another. All lists of what was heard have the newest first.
use Rattle.std.specs.Prelude.{◌==◌, Bool, true, false, not, List, [], ◌∷◌, if◌then◌else◌, Option, Some, None}
use Rattle.sd_base.specs.Types.{RunName}
use Rattle.sd_spec.specs.Heard.{Heard, Dropped, Entitles, Controls, BadEmm, BadEcm, Other}

-- the name of the run to which a message without a fault belongs: a control word's number in version 3, and none in
-- versions 1 and 2. All else belongs to no run [this project, docs/FORMATS.md, Receiver]
abbrev pub run_name_heard : Heard → Option RunName
run_name_heard (Entitles emm) = Some emm.run
run_name_heard (Controls part) = Some part.run
run_name_heard Dropped = None
run_name_heard (BadEmm fault) = None
run_name_heard (BadEcm fault) = None
run_name_heard (Other n packet) = None

-- the first of two names that is there
abbrev pub name_or : Option RunName → Option RunName → Option RunName
name_or (Some name) other = Some name
name_or None other = other

-- the name of the current run, which is that of the newest message. If there is no message there is no run
unfoldable pub run_name_in : List Heard → Option RunName
run_name_in [] = None
run_name_in (heard ∷ past) = name_or (run_name_heard heard) (run_name_in past)

-- two names are the same
abbrev pub is_same_run : RunName → RunName → Bool
is_same_run None None = true
is_same_run None (Some b) = false
is_same_run (Some a) None = false
is_same_run (Some a) (Some b) = a == b

-- both are of a run, and the runs are two
abbrev pub are_two : Option RunName → Option RunName → Bool
are_two None other = false
are_two (Some a) None = false
are_two (Some a) (Some b) = not (is_same_run a b)

-- what comes is a message of another run than the current one [this project, docs/FORMATS.md, Receiver]
unfoldable pub is_turn : List Heard → Heard → Bool
is_turn past heard = are_two (run_name_in past) (run_name_heard heard)

-- what was heard before of the run that is current with what comes: nothing, if that begins a run
unfoldable pub of_run : List Heard → Heard → List Heard
of_run past heard = if is_turn past heard then [] else past
