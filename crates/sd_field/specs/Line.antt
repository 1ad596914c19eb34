-- Inner: a line of a script by itself.
use Rattle.std.specs.Prelude.{ℕ, ◌^◌, nat_lt, if◌then◌else◌, Option, Some, None, Result, Ok, Err}
use Rattle.sd_spec.specs.declared.event.Event.{Event}
use Rattle.sd_spec.specs.Events.{is_of}
use Rattle.sd_field.specs.declared.line.LineFault.{LineFault}
use Rattle.sd_field.specs.declared.line.LineFault.TheVariants.{Form, Leaf}

-- a number as a leaf of a tree of height d
abbrev pub event_leaf : ℕ → Option ℕ → Result ℕ LineFault
event_leaf d None = Err Form
event_leaf d (Some u) = if nat_lt u (2 ^ d) then Ok u else Err Leaf

-- two numbers of a line, of which the first must be a leaf of a tree of height d
abbrev pub pair_in : ℕ → Option (ℕ × ℕ) → Result (ℕ × ℕ) LineFault
pair_in d None = Err Form
pair_in d (Some pair) = if nat_lt pair.0 (2 ^ d) then Ok pair else Err Leaf

-- a number of events, if it is there
abbrev pub times_in : Option ℕ → Result ℕ LineFault
times_in None = Err Form
times_in (Some n) = Ok n

-- an event and how often it happens, whose leaf must be of a tree of height d
abbrev pub events_in_run : ℕ → Option (Event × ℕ) → Result (Event × ℕ) LineFault
events_in_run d None = Err Form
events_in_run d (Some run) = if is_of d run.0 then Ok run else Err Leaf
