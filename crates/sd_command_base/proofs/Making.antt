-- What making a file leaves.
use Rattle.std.proofs.Common.{◌≡◌, ◌⊎◌, ℕ, ◌≤◌, List, Result, Ok, Err, refl, sym, subst, inl, inr, arith}
use Rattle.std.specs.Prelude.{IsErrOf}
use Rattle.std.proofs.KnownBytes.{Appends-nil}
use Rattle.sd_base.specs.Count.{with_added}
use Rattle.sd_ports.specs.Files.{WritesFile, IsUnmade as IsNoFile, IsMadeShort as IsShortFile}
use Rattle.sd_ports.specs.Causes.{HasFileCause}
use Rattle.sd_ports.specs.declared.file.FileFault.{FileFault}
use Rattle.sd_ports.specs.declared.file.FileFault.TheVariants as file
use Rattle.sd_command_base.specs.declared.status.Status.{Status}
use Rattle.sd_command_base.specs.Outside.{DepotState, PageState, IoState, io_state}
use Rattle.sd_command_base.specs.Spec.{FileArgument, value}
use Rattle.sd_command_base.specs.Work.{StepBound, Uncounted}
use Rattle.sd_command_base.specs.Outcome.{Progress, untouched, writing, Outcome, ended, exhausted, failed, nowhere}
use Rattle.sd_command_base.specs.Outcome.{OutcomeWithin}
use Rattle.sd_command_base.specs.Outcome.{status_of}
use Rattle.sd_command_base.proofs.Firsts.{takes_none}
use Rattle.sd_command_base.proofs.Moves.{comes_moved}
use Rattle.sd_command_base.specs.Made.{out_file, making, making_told}

stands_short : (most : StepBound) (word : FileArgument) (bytes : List ℕ) (a b : DepotState) (page : PageState)
    (steps : ℕ) →
    IsNoFile a.files b.files a.made b.made ⊎ IsShortFile a.files b.files a.made b.made word.text bytes →
    Progress (Ok (making most word bytes)) (io_state a page steps) (io_state b page steps)
stands_short most word bytes a b page steps (inl none) = untouched (record { files = none.0; made = none.1 }) refl
stands_short most word bytes a b page steps (inr cut) =
    writing (making most word bytes) refl (out_file word bytes) refl
    (record { prefix = cut.0; short = cut.1; files = cut.2.0; made = cut.2.1 }) refl

comes_made : (most : StepBound) (word : FileArgument) (bytes : List ℕ) (a b : DepotState) (page : PageState) (steps : ℕ)
    (written : Result (Unit {0}) FileFault) →
    WritesFile a.files b.files a.made b.made word.text bytes written → HasFileCause a.faults b.faults a.misses b.misses
    written →
    (¬ IsErrOf written file.Failed → b.stops ≡ a.stops) →
    Outcome (Ok (making most word bytes)) (io_state a page steps) (io_state b page steps)
    (status_of (making_told word.number written))
comes_made most word bytes a b page steps (Ok done) file cause stops =
    ended (making most word bytes) refl refl tt (record { files = file.made.0; made = file.made.1 })
    (Appends-nil page.printed)
    (record { depot = cause.no_fault (λ e. cc); print = refl }) (cause.no_miss (λ e. cc))
comes_made most word bytes a b page steps (Err file.Missing) file cause stops =
    nowhere (making most word bytes) refl (out_file word bytes) refl refl (file.missing refl).1
    (record { files = (file.missing refl).0.0; made = (file.missing refl).0.1 }) refl
    (record { depot = cause.no_fault (λ e. cc); print = refl }) (cause.missing refl)
comes_made most word bytes a b page steps (Err file.TooBig) file cause stops = absurd (file.fits refl)
comes_made most word bytes a b page steps (Err file.Failed) file cause stops =
    failed refl (stands_short most word bytes a b page steps (file.failed refl)) (cause.failed refl)
    (λ breaks. cc) refl
    (cause.no_miss (λ e. cc))
comes_made most word bytes a b page steps (Err file.NoMemory) file cause stops =
    exhausted refl (untouched (record { files = (file.no_memory refl).0; made = (file.no_memory refl).1 }) refl)
    (stops (λ e. cc)) refl (cause.no_miss (λ e. cc))

-- a file that is meant to be made was made, or a prefix of it
pub made_obeys : (most : StepBound) (word : FileArgument) (bytes : List ℕ) (a b : DepotState) (page : PageState)
    (steps : ℕ) (written : Result (Unit {0}) FileFault)
    (result : Result (Unit {0}) Status) → result ≡ making_told word.number written →
    WritesFile a.files b.files a.made b.made word.text bytes written → HasFileCause a.faults b.faults a.misses b.misses
    written →
    (¬ IsErrOf written file.Failed → b.stops ≡ a.stops) → b.opened ≡ a.opened → b.calls ≤ with_added a.calls 2 →
    OutcomeWithin (value (making most word bytes)) (io_state a page steps) (io_state b page steps) (status_of result)
made_obeys most word bytes a b page steps written result told file cause stops ports calls =
    subst (λ (r : Result (Unit {0}) Status). OutcomeWithin (value (making most word bytes)) (io_state a page steps)
    (io_state b page steps) (status_of r)) (sym told)
    (record {
      comes = comes_made most word bytes a b page steps written file cause stops;
      ports = ports;
      calls = omega arith;
      steps = takes_none (Ok (making most word bytes)) steps;
    })

-- where no number of steps is said it doesn't matter how many were taken before
pub any_steps : (word : FileArgument) (bytes : List ℕ) (a : DepotState) (page : PageState) (steps other : ℕ)
    (b : IoState) (status : Status) →
    OutcomeWithin (value (making Uncounted word bytes)) (io_state a page steps) b status →
    OutcomeWithin (value (making Uncounted word bytes)) (io_state a page other) b status
any_steps word bytes a page steps other b status h = record {
  comes = comes_moved (Ok (making Uncounted word bytes)) a page a.calls steps other b status h.comes;
  ports = h.ports;
  calls = h.calls;
  steps = tt;
}
