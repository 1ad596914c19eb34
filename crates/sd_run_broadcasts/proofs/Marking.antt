-- What comes of a mark that is made before OUT.
use Rattle.std.proofs.Common.{◌≡◌, ◌+◌, ◌≤◌, ℕ, List, [], ◌∷◌, ◌++◌, Result, Ok}
use Rattle.std.proofs.Common.{Err, refl, sym, subst, inl, inr, arith}
use Rattle.std.specs.Prelude.{IsErrOf}
use Rattle.sd_base.specs.Count.{with_added}
use Rattle.sd_ports.specs.Causes.{CountsNewCalls, HasFileCause}
use Rattle.sd_ports.specs.Files.{WritesNewFile, with_bytes}
use Rattle.sd_ports.specs.Files.{IsMadeShort as IsShortFile, IsUnmade as IsNoFile}
use Rattle.sd_ports.specs.declared.file.FileFault.{FileFault}
use Rattle.sd_ports.specs.declared.file.FileFault.TheVariants as file
use Rattle.sd_ports.specs.declared.file.New.{New}
use Rattle.sd_ports.specs.declared.file.New.TheVariants as new
use Rattle.sd_command_base.specs.declared.status.Status.{Status}
use Rattle.sd_command_base.specs.declared.status.Status.TheVariants.{SiteUsed}
use Rattle.sd_command_base.specs.Outside.{DepotState}
use Rattle.sd_command_base.specs.Spec.{FileArgument}
use Rattle.sd_command_base.specs.Made.{making_told}
use Rattle.sd_command_base.specs.Reads.{IsAsked}
use Rattle.sd_run_broadcasts.specs.Marked.{with_mark_made, MarkOutcome, used, no_mark}
use Rattle.sd_run_broadcasts.specs.Marked.{stopped_first, stopped_then}

-- the answer once the mark was to be made
abbrev pub mark_answer : ℕ → Result New FileFault → Result (Unit {0}) Status
mark_answer word (Ok new.Made) = Ok tt
mark_answer word (Ok new.There) = Err SiteUsed
mark_answer word (Err fault) = making_told word (Err fault)

-- a prefix of nothing is nothing
none_short : (bytes rest : List ℕ) → bytes ++ rest ≡ [] → bytes ≡ []
none_short [] rest is = refl
none_short (byte ∷ bytes) rest is = cc

module _ (mark : FileArgument) (a b : DepotState) where
  -- the file was not made
  asked : IsNoFile a.files b.files a.made b.made → b.opened ≡ a.opened → b.calls ≤ with_added a.calls 2 → IsAsked 2 a b
  asked none ports calls = record { files = none.0; made = none.1; ports = ports; calls = omega (arith, calls) }

  -- an empty file was made
  asked_marked : IsShortFile a.files b.files a.made b.made mark.text [] → b.opened ≡ a.opened →
      b.calls ≤ with_added a.calls 2 → IsAsked (2 + 2) (with_mark_made mark a) b
  asked_marked cut ports calls = record {
    files = subst (λ (bytes : List ℕ). b.files ≡ with_bytes a.files mark.text bytes) (none_short cut.0 cut.1.0 cut.1.1)
        cut.2.0;
    made = cut.2.1;
    ports = ports;
    calls = omega (arith, calls);
  }

  -- the mark by what came of writing it
  mark_steps : (written : Result New FileFault) →
      WritesNewFile a.files b.files a.made b.made mark.text [] written →
      HasFileCause a.faults b.faults a.misses b.misses written →
      (¬ IsErrOf written file.Failed → b.stops ≡ a.stops) → b.opened ≡ a.opened →
      CountsNewCalls a.calls b.calls written → MarkOutcome mark a b (mark_answer mark.number written)
  mark_steps (Ok new.Made) file cause stops ports calls = record {
    new = (file.made refl).0;
    made = record { files = (file.made refl).1.0; made = (file.made refl).1.1 };
    faults = cause.no_fault (λ e. cc);
    stops = stops (λ e. cc);
    misses = cause.no_miss (λ e. cc);
    ports = ports;
    calls = let most = calls.most in omega (arith, most);
  }
  mark_steps (Ok new.There) file cause stops ports calls = λ out.
      used refl (file.there refl).0 (asked (file.there refl).1 ports calls.most) (cause.no_fault (λ e. cc))
      (cause.no_miss (λ e. cc))
  mark_steps (Err file.Missing) file cause stops ports calls = λ out.
      no_mark refl (file.missing refl).1 (asked (file.missing refl).0 ports calls.most) (cause.no_fault (λ e. cc))
      (cause.missing refl)
  mark_steps (Err file.TooBig) file cause stops ports calls = absurd (file.fits refl)
  mark_steps (Err file.Failed) file cause stops ports calls = λ out. elim (file.failed refl) [
    | inl none ↦ stopped_first (inr (refl, cause.failed refl)) (asked none ports calls.most) (cause.no_miss (λ e. cc))
    | inr cut ↦ stopped_then cut.0 (inr (refl, cause.failed refl)) (asked_marked cut.1 ports calls.most)
        (cause.no_miss (λ e. cc))
  ]
  mark_steps (Err file.NoMemory) file cause stops ports calls = λ out.
      stopped_first (inl (refl, cause.no_fault (λ e. cc), stops (λ e. cc)))
      (asked (file.no_memory refl) ports calls.most) (cause.no_miss (λ e. cc))

  -- the mark was made, or not, by this answer
  pub mark_comes : (written : Result New FileFault) (result : Result (Unit {0}) Status) →
      result ≡ mark_answer mark.number written → WritesNewFile a.files b.files a.made b.made mark.text [] written →
      HasFileCause a.faults b.faults a.misses b.misses written →
      (¬ IsErrOf written file.Failed → b.stops ≡ a.stops) → b.opened ≡ a.opened →
      CountsNewCalls a.calls b.calls written → MarkOutcome mark a b result
  mark_comes written result told file cause stops ports calls =
      subst (MarkOutcome mark a b) (sym told) (mark_steps written file cause stops ports calls)
