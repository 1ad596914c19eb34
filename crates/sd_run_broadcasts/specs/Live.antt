-- Inner: work that prints while it makes OUT of a stream, and prints a last line once OUT is closed.
use Rattle.std.specs.Prelude.{◌≡◌, ◌⊎◌, ℕ, Bool, true, false, List, take, Option, Some, None}
use Rattle.std.specs.List.{concat}
use Rattle.std.specs.Io.KnownBytes.{Appends}
use Rattle.sd_base.specs.Count.{HasRisen}
use Rattle.sd_ports.specs.Bytes.{AppendsPrefix}
use Rattle.sd_command_base.specs.declared.status.Status.{Status}
use Rattle.sd_command_base.specs.declared.status.Status.TheVariants.{DepotFault, PrintFault, NoMemory}
use Rattle.sd_command_base.specs.Outside.{PageState}
use Rattle.sd_command_base.specs.Spec.{FileArgument}
use Rattle.sd_command_base.specs.Outcome.{IsEnding}
use Rattle.sd_command_base.specs.Turned.{is_break}
use Rattle.sd_command_base.specs.Work.{StepBound, Work}

-- makes OUT of these bytes and meanwhile prints these pieces, and ends so
abbrev pub living : StepBound → FileArgument → List ℕ → List (List ℕ) → Status → Work
living steps out bytes pieces ends = record {
  mark = None;
  out = Some (record { word = out.number; name = out.text; bytes = bytes });
  pieces = pieces;
  ends = ends;
  breaks = is_break ends;
  live = true;
  steps = steps;
}

-- What came of a stream before its ports were closed: all the bytes were written and the first pieces were printed, and
-- this is how it ends; or a prefix of the bytes was written, and the outside stopped it.
pub data Lived (bytes : List ℕ) (pieces first : List (List ℕ)) (ends : Status) (held held' : Option (List ℕ))
    (a b : PageState) (status : Status) : Type 0 where
  all_lived : status ≡ ends → IsEnding status → Appends held held' bytes →
      Appends a.printed b.printed (concat first) → b.faults ≡ a.faults →
      Lived bytes pieces first ends held held' a b status
  some_lived : (status ≡ NoMemory) ⊎ (status ≡ DepotFault) → AppendsPrefix held held' bytes →
      (count : ℕ) → Appends a.printed b.printed (concat (take count pieces)) → b.faults ≡ a.faults →
      Lived bytes pieces first ends held held' a b status
  unprinted : status ≡ PrintFault → AppendsPrefix held held' bytes →
      AppendsPrefix a.printed b.printed (concat pieces) → HasRisen a.faults b.faults →
      Lived bytes pieces first ends held held' a b status

-- the status comes of the outside: out of memory, or a device or printing failed
abbrev pub is_outside : Status → Bool
is_outside DepotFault = true
is_outside PrintFault = true
is_outside NoMemory = true
is_outside _ = false

-- The last line was printed, and how the stream ended stands; or memory was out for it, or printing failed. If the
-- outside stopped the work before, nothing is printed.
pub data TellsEnd (line : List ℕ) (ended : Status) (a b : PageState) (status : Status) : Type 0 where
  untold : is_outside ended ≡ true → status ≡ ended → b ≡ a → TellsEnd line ended a b status
  told : is_outside ended ≡ false → status ≡ ended → Appends a.printed b.printed line → b.faults ≡ a.faults →
      TellsEnd line ended a b status
  unmade : is_outside ended ≡ false → status ≡ NoMemory → b ≡ a → TellsEnd line ended a b status
  cut : is_outside ended ≡ false → status ≡ PrintFault → AppendsPrefix a.printed b.printed line →
      HasRisen a.faults b.faults → TellsEnd line ended a b status
