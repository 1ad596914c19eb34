-- What a fault of a depot comes to at a whole file.
use Rattle.std.proofs.Common.{rules, ◌≡◌, ℕ, List, refl, inl}
use Rattle.std.specs.Prelude.{Option, None, Err, IsErrOf}
use Rattle.sd_ports.specs.Causes.{CountsMade, HasDepotCause, HasFileCause}
use Rattle.sd_ports.specs.Faults.{file_fault}
use Rattle.sd_ports.specs.Files.{Files, WritesFile}
use Rattle.sd_ports.specs.declared.fault.DepotFault.{DepotFault}
use Rattle.sd_ports.specs.declared.fault.DepotFault.TheVariants.{Missing, Failed, NoMemory}
use Rattle.sd_ports.specs.declared.file.FileFault.TheVariants as file

-- it has the same cause
pub file_cause : {T U : Type 0} (a b c d : ℕ) (fault : DepotFault) → HasDepotCause {T = T} a b c d (Err fault)
    → HasFileCause {T = U} a b c d (Err (file_fault fault))
file_cause a b c d Missing h = record {
  faults_later = h.faults_later;
  misses_later = h.misses_later;
  missing = λ _. h.missing refl;
  failed = search rules;
  no_miss = λ n. absurd (n refl);
  no_fault = λ _. h.no_fault (search rules);
}
file_cause a b c d Failed h = record {
  faults_later = h.faults_later;
  misses_later = h.misses_later;
  missing = search rules;
  failed = λ _. h.failed refl;
  no_miss = λ _. h.no_miss (search rules);
  no_fault = λ n. absurd (n refl);
}
file_cause a b c d NoMemory h = record {
  faults_later = h.faults_later;
  misses_later = h.misses_later;
  missing = search rules;
  failed = search rules;
  no_miss = λ _. h.no_miss (search rules);
  no_fault = λ _. h.no_fault (search rules);
}

-- it is never that a file is too big
pub never_too_big : {T X : Type 0} (fault : DepotFault) → IsErrOf {T = T} (Err (file_fault fault)) file.TooBig → X
never_too_big Missing e = search rules
never_too_big Failed e = search rules
never_too_big NoMemory e = search rules

-- it is that the file is missing only where the depot says so
pub only_missing : {T U X : Type 0} (fault : DepotFault) → (IsErrOf {T = T} (Err fault) Missing → X)
    → IsErrOf {T = U} (Err (file_fault fault)) file.Missing → X
only_missing Missing f e = f refl
only_missing Failed f e = search rules
only_missing NoMemory f e = search rules

-- where a depot made no file, none was written
pub unwritten : {T U : Type 0} (a b : Option Files) (i j : ℕ) (name bytes : List ℕ) (fault : DepotFault) → b ≡ a
    → (IsErrOf {T = T} (Err fault) Missing → a ≡ None) → CountsMade {T = T} i j (Err fault)
    → WritesFile {T = U} a b i j name bytes (Err (file_fault fault))
unwritten a b i j name bytes fault same missing made = record {
  later = made.later;
  made = tt;
  failed = λ _. inl (same, made.refused);
  missing = λ e. ((same, made.refused), only_missing fault missing e);
  no_memory = λ _. (same, made.refused);
  fits = λ e. never_too_big fault e;
}
