-- What becomes of a command that reads a file while it works.
use Rattle.std.proofs.Common.{◌≡◌, ◌≢◌, ℕ, ◌^◌, ◌<◌, ◌≤◌, List, Option, Some, None, Ok, refl, sym, subst, ◌∙◌, inl, inr}
use Rattle.std.proofs.Common.{arith}
use Rattle.sd_base.specs.Count.{with_added, IsCaused}
use Rattle.sd_command_base.specs.declared.status.Status.{Status}
use Rattle.sd_command_base.specs.declared.status.Status.TheVariants.{DepotFault}
use Rattle.sd_command_base.specs.Outside.{DepotState, PageState, io_state}
use Rattle.sd_command_base.specs.Spec.{FileArgument, IsReadingOfFile, whole_file_bytes, value, ◌>>=◌}
use Rattle.sd_command_base.specs.Work.{Out, Mark, Work}
use Rattle.sd_command_base.specs.Outcome.{IsEnding, IsOutMade, marked_by, printing, Outcome, ended, exhausted, failed}
use Rattle.sd_command_base.specs.Outcome.{cut_off}
use Rattle.sd_command_base.specs.Outcome.{OutcomeWithin, Implements}
use Rattle.sd_command_base.specs.Prints.{PrintsReading}
use Rattle.sd_command_base.proofs.Firsts.{takes_none}
use Rattle.sd_command_base.proofs.Givens.{one_given}

-- A file was opened, read and closed, and nothing else was called: where reading didn't fail no fault was counted.
pub record IsRead (a b : DepotState) (status : Status) : Type 0 where
  pub files : b.files ≡ a.files
  pub made : b.made ≡ a.made
  pub misses : b.misses ≡ a.misses
  pub ports : b.opened ≡ a.opened
  pub calls : b.calls ≤ with_added a.calls 2
  pub faults : IsCaused a.faults b.faults (status ≡ DepotFault)
  pub stops : IsCaused a.stops b.stops (status ≡ DepotFault)

-- the counts of faults of a depot that took over those of a port
pub faults_added : (before opened now from port : ℕ) (status : Status) → opened ≡ before → opened < 2 ^ 64 →
    now ≡ with_added opened port → from ≡ 0 → IsCaused from port (status ≡ DepotFault) →
    IsCaused before now (status ≡ DepotFault)
faults_added before opened now from port status same within is fresh cause = record {
  later = omega (arith, same, is, within);
  failed = λ e. let rose = cause.failed e in omega (arith, same, is, within, rose, fresh);
  calm = λ n. let still = cause.calm n in omega (arith, same, is, within, still, fresh);
}

none_made : (work : Work) (p q : DepotState) → work.out ≡ None → work.mark ≡ None → q.files ≡ p.files →
    q.made ≡ p.made → IsOutMade work.out (marked_by work.mark p) q
none_made work p q none unmarked files made =
    subst (λ (o : Option Out). IsOutMade o (marked_by work.mark p) q) (sym none)
    (subst (λ (m : Option Mark). IsOutMade None (marked_by m p) q) (sym unmarked)
    (record { files = files; made = made }))

pub is_other : (status : Status) → IsEnding status → status ≢ DepotFault
is_other status ending is = absurd (subst IsEnding is ending)

-- work that only prints and reads its file meanwhile
printed_comes : (work : Work) (p q : DepotState) (page now : PageState) (steps : ℕ) (status : Status) →
    work.out ≡ None → work.mark ≡ None →
    IsEnding work.ends →
    IsRead p q status → PrintsReading work page now status →
    Outcome (Ok work) (io_state p page steps) (io_state q now steps) status
printed_comes work p q page now steps status none unmarked ending read (inl (inl all)) =
    ended work refl all.0 (subst IsEnding (sym all.0) ending) (none_made work p q none unmarked read.files read.made)
    all.1
    (record { depot = read.faults.calm (is_other status (subst IsEnding (sym all.0) ending)); print = all.2 })
    read.misses
printed_comes work p q page now steps status none unmarked ending read (inl (inr (inl some))) =
    exhausted some.0 (printing work refl (none_made work p q none unmarked read.files read.made) some.1)
    (read.stops.calm (λ is. let x = sym some.0 ∙ is in cc)) some.2 read.misses
printed_comes work p q page now steps status none unmarked ending read (inl (inr (inr cut))) =
    cut_off work refl cut.0 (none_made work p q none unmarked read.files read.made) cut.1 cut.2
    (read.faults.calm (λ is. let x = sym cut.0 ∙ is in cc)) read.misses
printed_comes work p q page now steps status none unmarked ending read (inr broken) =
    failed broken.0 (printing work refl (none_made work p q none unmarked read.files read.made) broken.1)
    (read.faults.failed broken.0) (λ breaks. read.stops.failed broken.0) broken.2 read.misses

-- so it follows what is meant by what the file gave
pub reading_follows : (view : List ℕ →
    Work) (word : FileArgument) (bytes : List ℕ) (p q : DepotState) (page now : PageState) (steps : ℕ)
    (status : Status) →
    (view bytes).out ≡ None → (view bytes).mark ≡ None → IsEnding (view bytes).ends →
    IsReadingOfFile p.files word.text (Some bytes) → IsRead p q status →
    PrintsReading (view bytes) page now status →
    Implements (λ given. whole_file_bytes word.number (given word) >>= λ bytes. value (view bytes))
    (io_state p page steps)
    (io_state q now steps) status
reading_follows view word bytes p q page now steps status none unmarked ending got read prints =
    let g = one_given p.files word (Some bytes) got in record {
      given = g.given;
      is_given = g.is_given;
      obeyed = subst (λ (got : Option (List ℕ)). OutcomeWithin (whole_file_bytes word.number got >>=
          λ bytes. value (view bytes))
          (io_state p page steps)
          (io_state q now steps) status) (sym g.gave)
          (record {
            comes = printed_comes (view bytes) p q page now steps status none unmarked ending read prints;
            ports = read.ports;
            calls = let c = read.calls in omega arith;
            steps = takes_none (Ok (view bytes)) steps;
          });
    }
