-- Public meaning: a file that goes through a stage into OUT: both are opened, and then both are closed.
use Rattle.std.specs.Prelude.{◌≡◌, ◌≢◌, ◌⊎◌, ℕ, ◌^◌, ◌<◌, Bool, true, false, List, [], Option, Some, None, Result, Ok}
use Rattle.std.specs.Prelude.{Err}
use Rattle.std.specs.Io.KnownBytes.{Appends}
use Rattle.sd_base.specs.Count.{with_added, HasRisen}
use Rattle.sd_ports.specs.Bytes.{AppendsPrefix}
use Rattle.sd_ports.specs.Causes.{one_more}
use Rattle.sd_ports.specs.Files.{OpensFile, IsFresh, IsNotThere, IsThere, ClosesFile, LeavesPrefix, with_bytes}
use Rattle.sd_ports.specs.declared.fault.DepotFault.{DepotFault as PortRefusal}
use Rattle.sd_ports.specs.declared.fault.DepotFault.TheVariants as port
use Rattle.sd_command_base.specs.declared.status.Status.{Status}
use Rattle.sd_command_base.specs.declared.status.Status.TheVariants.{Missing, DepotFault, BadClear, BadStream}
use Rattle.sd_command_base.specs.declared.status.Status.TheVariants.{NoMemory, PrintFault}
use Rattle.sd_command_base.specs.Outside.{DepotState}
use Rattle.sd_command_base.specs.Spec.{FileArgument}
use Rattle.sd_command_base.specs.Work.{StepBound, Work}
use Rattle.sd_command_base.specs.Outcome.{IsEnding}
use Rattle.sd_command_base.specs.Reads.{IsAsked, IsStopped}

-- both were opened: what is left of the one, and what the other holds, with the counts of their faults
pub record ArePortsOpened (a b : DepotState) (from out : List ℕ) (left held : Option (List ℕ))
    (from_faults out_faults : ℕ) :
    Type 0 where
  pub opens : OpensFile a.files from left
  pub empty : IsFresh a.files held
  pub from_fresh : from_faults ≡ 0
  pub out_fresh : out_faults ≡ 0
  pub files : b.files ≡ with_bytes a.files out []
  pub faults : b.faults ≡ a.faults
  pub stops : b.stops ≡ a.stops
  pub misses : b.misses ≡ a.misses
  pub made : b.made ≡ with_added a.made 1
  pub within : a.opened < 2 ^ 64
  pub ports : b.opened ≡ one_more (one_more a.opened)
  pub calls : b.calls ≡ with_added a.calls 2

-- why they were not, and nothing was made
pub data NotOpened (from out : FileArgument) (a b : DepotState) (status : Status) : Type 0 where
  -- there is no file to be read
  no_input : status ≡ Missing from.number → IsNotThere a.files from.text → IsAsked 1 a b → b.faults ≡ a.faults →
      HasRisen a.misses b.misses → NotOpened from out a b status
  -- there is no folder for OUT, in a depot that doesn't tell its files
  no_folder : status ≡ Missing out.number → a.files ≡ None → IsAsked 3 a b → b.faults ≡ a.faults →
      HasRisen a.misses b.misses → NotOpened from out a b status
  -- the outside stopped the one or the other
  stopped_first : IsStopped 1 a b status → NotOpened from out a b status
  stopped_then : IsThere a.files from.text → IsStopped 3 a b status → NotOpened from out a b status

-- the status where the file of this word gave no port
abbrev pub opening_status : ℕ → PortRefusal → Status
opening_status word port.Missing = Missing word
opening_status word port.Failed = DepotFault
opening_status word port.NoMemory = NoMemory

-- the status if OUT was not closed: a refusal of a stream stands, and running out of memory, and that printing failed,
-- and else the device failed
abbrev pub unclosed_status : Status → Status
unclosed_status (BadClear refusal) = BadClear refusal
unclosed_status (BadStream refusal) = BadStream refusal
unclosed_status NoMemory = NoMemory
unclosed_status PrintFault = PrintFault
unclosed_status _ = DepotFault

abbrev pub unclosed_by : Result (Unit {0}) Status → Result (Unit {0}) Status
unclosed_by (Ok done) = Err DepotFault
unclosed_by (Err status) = Err (unclosed_status status)

-- OUT was closed with all that its port holds, and what was known is answered; or it has a prefix of it, and the device
-- failed
abbrev pub EndsClosed : DepotState → DepotState → List ℕ → Option (List ℕ) → ℕ → Result (Unit {0}) Status →
    Result (Unit {0}) Status
    → Type 0
EndsClosed a b out held faults ended result =
    ((result ≡ ended) × ClosesFile a.files b.files out held × (b.faults ≡ faults))
    ⊎ ((result ≡ unclosed_by ended) × HasRisen faults b.faults)

-- both were closed: the counts of their faults were added, and OUT has what its port held, or a prefix of it
pub record ArePortsClosed (a b : DepotState) (out : List ℕ) (held : Option (List ℕ)) (from_faults out_faults : ℕ)
    (ended result : Result (Unit {0}) Status) : Type 0 where
  pub within : a.faults < 2 ^ 64
  pub below : a.stops < 2 ^ 64
  pub prefix : LeavesPrefix a.files b.files out held
  pub ends : EndsClosed a b out held (with_added (with_added a.faults from_faults) out_faults) ended result
  pub stops : b.stops ≡ with_added (with_added a.stops from_faults) out_faults
  pub misses : b.misses ≡ a.misses
  pub made : b.made ≡ a.made
  pub low : b.opened < 2 ^ 64
  pub ports : one_more (one_more b.opened) ≡ a.opened
  pub calls : b.calls ≡ with_added a.calls 2

-- the status is a refusal in the midst of a stream
abbrev pub is_break : Status → Bool
is_break (BadClear refusal) = true
is_break (BadStream refusal) = true
is_break _ = false

-- makes OUT of these bytes, which may be those of a stream as far as it goes, and ends so
abbrev pub turning : StepBound → FileArgument → List ℕ → Status → Work
turning steps out bytes ends = record {
  mark = None;
  out = Some (record { word = out.number; name = out.text; bytes = bytes });
  pieces = [];
  ends = ends;
  breaks = is_break ends;
  live = false;
  steps = steps;
}

-- What came of a stream before its ports were closed: all the bytes were written, and this is how it ends; or a prefix
-- of them, and the outside stopped it.
pub data StreamWritten (bytes : List ℕ) (ends : Status) (before now : Option (List ℕ)) (status : Status) : Type 0 where
  all_written : status ≡ ends → IsEnding status → Appends before now bytes → StreamWritten bytes ends before now status
  some_written : (status ≡ NoMemory) ⊎ (status ≡ DepotFault) → AppendsPrefix before now bytes →
      StreamWritten bytes ends before now status

-- the device failed just where the count of one port or the other rose
pub record HasPortCause (from_before from_now out_before out_now : ℕ) (status : Status) : Type 0 where
  pub calm : status ≢ DepotFault → (from_now ≡ from_before) × (out_now ≡ out_before)
  pub failed : status ≡ DepotFault → HasRisen from_before from_now ⊎ HasRisen out_before out_now
