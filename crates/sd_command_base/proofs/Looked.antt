-- What reading one file gives.
use Rattle.std.proofs.Common.{◌≡◌, ◌⊎◌, ℕ, zero, suc, ◌+◌, ◌<◌, ◌≤◌, cond, List, [], ◌∷◌, length, Option, Some, None}
use Rattle.std.proofs.Common.{Ok, Err, refl, sym, ap, ◌∙◌, inl, inr, arith, le-ltb, lt-ltb}
use Rattle.std.specs.Prelude.{IsSome, IfSome, IsErrOf}
use Rattle.std.specs.FinMap.{get}
use Rattle.sd_base.specs.Count.{IsCaused, HasRisen, with_added}
use Rattle.sd_ports.specs.Causes.{HasDepotCause}
use Rattle.sd_ports.specs.declared.fault.DepotFault.{DepotFault as PortRefusal}
use Rattle.sd_ports.specs.declared.fault.DepotFault.TheVariants as port
use Rattle.sd_ports.specs.Files.{Files, OpensFile, IsFile, IsLongFile, IsNotThere, IsThere}
use Rattle.sd_command_base.specs.declared.status.Status.{Status}
use Rattle.sd_command_base.specs.declared.status.Status.TheVariants.{Missing, Limit, DepotFault, NoMemory}
use Rattle.sd_command_base.specs.declared.status.LimitKind.{LimitKind}
use Rattle.sd_command_base.specs.Outside.{DepotState, depot_after_calls}
use Rattle.sd_command_base.specs.Spec.{within, whole_file_bytes, IsReadingOfFile}
use Rattle.sd_command_base.proofs.Givens.{some_got as any_got}
use Rattle.sd_engine.specs.Taken.{AreBytesLeft}
use Rattle.sd_command_base.specs.Reads.{IsAsked, StopCause, FileOutcome}
use Rattle.sd_command_base.specs.Turned.{opening_status}

file_got : (files : Option Files) (name bytes : List ℕ) → IsFile files name bytes →
    IsReadingOfFile files name (Some bytes)
file_got None name bytes h = tt
file_got (Some m) name bytes h = sym h

pub none_got : (files : Option Files) (name : List ℕ) → IsNotThere files name → IsReadingOfFile files name None
none_got None name h = tt
none_got (Some m) name h = sym h

-- the file was read
pub looks_read : {X : Type 0} (view : X → List ℕ) (x : X) (word most : ℕ) (kind : LimitKind) (name : List ℕ)
    (a b : DepotState) →
    IsFile a.files name (view x) → length (view x) ≤ most → b ≡ depot_after_calls 2 a →
    FileOutcome view (within word most kind) name a b (Ok x)
looks_read view x word most kind name a b there short same = record {
  got = Some (view x);
  is_got = file_got a.files name (view x) there;
  gives = (ap (λ c. cond c (Err (Limit kind)) (Ok (view x))) (le-ltb most (length (view x)) short), same);
}

zeros : ℕ → List ℕ
zeros zero = 0 ∷ []
zeros (suc n) = 0 ∷ zeros n

more_zeros : (n : ℕ) → n < length (zeros n)
unfolding zeros
more_zeros zero = omega arith
more_zeros (suc n) = let h = more_zeros n in omega arith

record LongGot (files : Option Files) (name : List ℕ) (most : ℕ) : Type 0 where
  bytes : List ℕ
  got : IsReadingOfFile files name (Some bytes)
  long : most < length bytes

long_of : (o : Option (List ℕ)) (most : ℕ) → IsSome o → IfSome o (λ bytes. most < length bytes) →
    (bytes : List ℕ) × (Some bytes ≡ o) × (most < length bytes)
long_of None most there long = absurd (let h = there in cc)
long_of (Some bytes) most there long = (bytes, refl, long)

long_got : (files : Option Files) (name : List ℕ) (most : ℕ) → IsLongFile files name most → LongGot files name most
long_got None name most h = record { bytes = zeros most; got = tt; long = more_zeros most }
long_got (Some m) name most h = let l = long_of (get m name) most h.0 h.1 in record
    { bytes = l.0; got = l.1; long = l.2 }

-- the file is too long
pub looks_long : {X : Type 0} (view : X →
    List ℕ) (word most : ℕ) (kind : LimitKind) (name : List ℕ) (a b : DepotState) →
    IsLongFile a.files name most → IsAsked 2 a b → b.faults ≡ a.faults → b.misses ≡ a.misses →
    FileOutcome view (within word most kind) name a b (Err (Limit kind))
looks_long view word most kind name a b long asked calm misses = let l = long_got a.files name most long in record {
  got = Some l.bytes;
  is_got = l.got;
  gives = inl (record {
    value = ap (λ c. cond c (Err (Limit kind)) (Ok l.bytes)) (lt-ltb most (length l.bytes) l.long);
    refusal = tt;
    asked = asked;
    calm = calm;
    miss = record { missing = λ w e. absurd (cc); there = λ other. misses };
  });
}

record SomeGot (files : Option Files) (name : List ℕ) (word most : ℕ) (kind : LimitKind) (before now : ℕ) : Type 0 where
  got : Option (List ℕ)
  is_got : IsReadingOfFile files name got
  calls : now ≤ before + (within word most kind got).calls

got_of : (o : Option (List ℕ)) (word most : ℕ) (kind : LimitKind) (before now : ℕ) → (now ≤ with_added before 1)
    ⊎ IsSome o → now ≤ before + 2 → now ≤ before + (within word most kind o).calls
got_of None word most kind before now (inl one) two = omega arith
got_of None word most kind before now (inr there) two = absurd (let h = there in cc)
got_of (Some bytes) word most kind before now once two = two

some_got : (files : Option Files) (name : List ℕ) (word most : ℕ) (kind : LimitKind) (before now : ℕ) →
    (now ≤ with_added before 1) ⊎ IsThere files name → now ≤ before + 2 → SomeGot files name word most kind before now
some_got None name word most kind before now once two = record { got = Some []; is_got = tt; calls = two }
some_got (Some m) name word most kind before now once two = record {
  got = get m name;
  is_got = refl;
  calls = got_of
      (get m name) word most kind before now once two;
}

-- the outside stopped it
pub looks_stopped : {X : Type 0} (view : X →
    List ℕ) (word most : ℕ) (kind : LimitKind) (name : List ℕ) (a b : DepotState) (status : Status) →
    StopCause a b status →
    (b.calls ≤ with_added a.calls 1) ⊎ IsThere a.files name → IsAsked 2 a b → b.misses ≡ a.misses →
    FileOutcome view (within word most kind) name a b (Err status)
looks_stopped view word most kind name a b status cause once asked misses =
    let g = some_got a.files name word most kind a.calls b.calls once asked.calls in record {
      got = g.got;
      is_got = g.is_got;
      gives = inr (record {
        cause = cause;
        asked = record { files = asked.files; made = asked.made; ports = asked.ports; calls = g.calls };
        misses = misses;
      });
    }

-- bytes are seen as they are
abbrev pub bytes_seen : List ℕ → List ℕ
bytes_seen bytes = bytes

-- the bytes to come from the port of a file are the file's
pub opened_got : (files : Option Files) (name : List ℕ) (left : Option (List ℕ)) (bytes : List ℕ) →
    OpensFile files name left →
    AreBytesLeft left bytes → IsReadingOfFile files name (Some bytes)
opened_got None name left bytes opens is = tt
opened_got (Some m) name None bytes opens is = absurd (let h = opens.0 in cc)
opened_got (Some m) name (Some xs) bytes opens is = sym (opens.1 ∙ ap Some is)

-- there is no such file to be opened
opens_missing : (word : ℕ) (name : List ℕ) (a b : DepotState) → IsNotThere a.files name → IsAsked 1 a b →
    b.faults ≡ a.faults →
    HasRisen a.misses b.misses → FileOutcome bytes_seen (whole_file_bytes word) name a b (Err (Missing word))
opens_missing word name a b none asked calm rose = record {
  got = None;
  is_got = none_got a.files name none;
  gives = inl (record {
    value = refl;
    refusal = tt;
    asked = asked;
    calm = calm;
    miss = record { missing = λ w e. rose; there = λ other. absurd (other word refl) };
  });
}

pub all_calls : (word : ℕ) (got : Option (List ℕ)) → 1 ≤ (whole_file_bytes word got).calls
all_calls word None = omega arith
all_calls word (Some bytes) = omega arith

-- the outside stopped it before it was opened
opens_stopped : (word : ℕ) (name : List ℕ) (a b : DepotState) (status : Status) →
    StopCause a b status → IsAsked 1 a b → b.misses ≡ a.misses →
    FileOutcome bytes_seen (whole_file_bytes word) name a b (Err status)
opens_stopped word name a b status cause asked misses =
    let g = any_got a.files name in record {
      got = g.0;
      is_got = g.1;
      gives = inr (record {
        cause = cause;
        asked = record {
          files = asked.files;
          made = asked.made;
          ports = asked.ports;
          calls = let one = asked.calls in omega (arith, one, all_calls word g.0);
        };
        misses = misses;
      });
    }

-- the file gave no port
pub opens_refused : {T : Type 0} (word : ℕ) (name : List ℕ) (a b : DepotState) (fault : PortRefusal) →
    (IsErrOf {T = T} (Err fault) port.Missing → IsNotThere a.files name) →
    HasDepotCause {T = T} a.faults b.faults a.misses b.misses (Err fault) →
    IsCaused a.stops b.stops (IsErrOf {T = T} (Err fault) port.Failed) → IsAsked 1 a b →
    FileOutcome bytes_seen (whole_file_bytes word) name a b (Err (opening_status word fault))
opens_refused word name a b port.Missing none cause stops asked =
    opens_missing word name a b (none refl) asked (cause.no_fault (λ e. cc)) (cause.missing refl)
opens_refused word name a b port.Failed none cause stops asked =
    opens_stopped word name a b DepotFault (inr (refl, cause.failed refl, stops.failed refl)) asked
    (cause.no_miss (λ e. cc))
opens_refused word name a b port.NoMemory none cause stops asked =
    opens_stopped word name a b NoMemory (inl (refl, cause.no_fault (λ e. cc), stops.calm (λ e. cc))) asked
    (cause.no_miss (λ e. cc))
