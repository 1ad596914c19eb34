-- What making a file and then printing a text leaves.
use Rattle.std.proofs.Common.{◌≡◌, ◌⊎◌, ℕ, ◌≤◌, List, Result, Ok, Err}
use Rattle.std.proofs.Common.{refl, sym, ap, subst, inl, inr, arith}
use Rattle.std.proofs.lemmas.List.{append-nil}
use Rattle.std.specs.Prelude.{IfOk, IsErrOf}
use Rattle.std.specs.Io.KnownBytes.{Appends}
use Rattle.sd_base.specs.Count.{with_added}
use Rattle.sd_ports.specs.Bytes.{AppendsPrefix}
use Rattle.sd_ports.specs.Files.{WritesFile, IsUnmade as IsNoFile, IsMadeShort as IsShortFile}
use Rattle.sd_ports.specs.Causes.{HasFileCause}
use Rattle.sd_ports.specs.declared.file.FileFault.{FileFault}
use Rattle.sd_ports.specs.declared.file.FileFault.TheVariants as file
use Rattle.sd_command_base.specs.declared.status.Status.{Status}
use Rattle.sd_command_base.specs.Outside.{DepotState, PageState, IoState, io_state}
use Rattle.sd_command_base.specs.Spec.{Spec, FileArgument, Readings, value, ◌>>=◌}
use Rattle.sd_command_base.specs.Work.{Out, Work}
use Rattle.sd_command_base.specs.Outcome.{IsEnding, IsOutMade, Progress, untouched, writing, Outcome, ended, exhausted}
use Rattle.sd_command_base.specs.Outcome.{failed}
use Rattle.sd_command_base.specs.Outcome.{nowhere, cut_off, OutcomeWithin, Implements, status_of}
use Rattle.sd_command_base.specs.Prints.{PrintsText}
use Rattle.sd_command_base.specs.Reads.{FilesOutcome}
use Rattle.sd_command_base.proofs.Moves.{then_obeys}
use Rattle.sd_command_base.proofs.Firsts.{first_obeys}
use Rattle.sd_command_base.specs.Made.{making_told}
use Rattle.sd_run_books.specs.AccountsCommand.{making_then}

pub same_where_ok : {X Y E : Type 0} (r : Result X E) (f : X → Y) → IfOk r (λ x. f x ≡ f x)
same_where_ok (Ok x) f = refl
same_where_ok (Err e) f = tt

-- the file of a word, with these bytes
abbrev out_of : FileArgument → List ℕ → Out
out_of word bytes = record { word = word.number; name = word.text; bytes = bytes }

module _ (word : FileArgument) (bytes text : List ℕ) (a b : DepotState) (page : PageState) (steps : ℕ) where
  -- the device failed at the file
  stands_short : IsNoFile a.files b.files a.made b.made ⊎ IsShortFile a.files b.files a.made b.made word.text bytes →
      Progress (Ok (making_then word bytes text)) (io_state a page steps) (io_state b page steps)
  stands_short (inl none) = untouched (record { files = none.0; made = none.1 }) refl
  stands_short (inr cut) =
      writing (making_then word bytes text) refl (out_of word bytes) refl
      (record { prefix = cut.0; short = cut.1; files = cut.2.0; made = cut.2.1 }) refl

  -- the file was not made whole
  not_whole : (fault : FileFault) →
      WritesFile {T = Unit {0}} a.files b.files a.made b.made word.text bytes (Err fault) →
      HasFileCause {T = Unit {0}} a.faults b.faults a.misses b.misses (Err fault) →
      (¬ IsErrOf {T = Unit {0}} (Err fault) file.Failed → b.stops ≡ a.stops) →
      Outcome (Ok (making_then word bytes text)) (io_state a page steps) (io_state b page steps)
      (status_of (making_told word.number (Err fault)))
  not_whole file.Missing file cause stops =
      nowhere (making_then word bytes text) refl (out_of word bytes) refl refl (file.missing refl).1
      (record { files = (file.missing refl).0.0; made = (file.missing refl).0.1 }) refl
      (record { depot = cause.no_fault (λ e. cc); print = refl }) (cause.missing refl)
  not_whole file.TooBig file cause stops = absurd (file.fits refl)
  not_whole file.Failed file cause stops =
      failed refl (stands_short (file.failed refl)) (cause.failed refl) (λ breaks. cc) refl (cause.no_miss (λ e. cc))
  not_whole file.NoMemory file cause stops =
      exhausted refl (untouched (record { files = (file.no_memory refl).0; made = (file.no_memory refl).1 }) refl)
      (stops (λ e. cc)) refl (cause.no_miss (λ e. cc))

  -- the file was not made whole, and nothing was printed
  pub not_made : (written : Result (Unit {0}) FileFault) (status : Status) →
      Err status ≡ making_told word.number written →
      WritesFile a.files b.files a.made b.made word.text bytes written →
      HasFileCause a.faults b.faults a.misses b.misses written →
      (¬ IsErrOf written file.Failed → b.stops ≡ a.stops) → b.opened ≡ a.opened →
      b.calls ≤ with_added a.calls 2 →
      OutcomeWithin (value (making_then word bytes text)) (io_state a page steps) (io_state b page steps) status
  not_made (Ok done) status told file cause stops ports calls = absurd (let h = told in cc)
  not_made (Err fault) status told file cause stops ports calls = record {
    comes = subst (λ (s : Status). Outcome (Ok (making_then word bytes text)) (io_state a page steps)
        (io_state b page steps) s) (sym (ap status_of told)) (not_whole fault file cause stops);
    ports = ports;
    calls = omega arith;
    steps = refl;
  }

  -- the file was made, and then the text was printed, or a prefix of it
  pub made_then : (written : Result (Unit {0}) FileFault) (now : PageState) (status : Status) →
      Ok tt ≡ making_told word.number written →
      WritesFile a.files b.files a.made b.made word.text bytes written →
      HasFileCause a.faults b.faults a.misses b.misses written → b.opened ≡ a.opened →
      b.calls ≤ with_added a.calls 2 → PrintsText text page now status →
      OutcomeWithin (value (making_then word bytes text)) (io_state a page steps) (io_state b now steps) status
  made_then (Ok done) now status told file cause ports calls printed = record {
    comes = elim printed [
      | inl all ↦ ended (making_then word bytes text) refl all.0 (subst IsEnding (sym all.0) tt) made
          (subst (λ (xs : List ℕ). Appends page.printed now.printed xs) (sym (append-nil text)) all.1)
          (record { depot = cause.no_fault (λ e. cc); print = all.2 }) (cause.no_miss (λ e. cc))
      | inr cut ↦ cut_off (making_then word bytes text) refl cut.0 made
          (subst (λ (xs : List ℕ). AppendsPrefix page.printed now.printed xs) (sym (append-nil text)) cut.1)
          cut.2 (cause.no_fault (λ e. cc)) (cause.no_miss (λ e. cc))
    ];
    ports = ports;
    calls = omega arith;
    steps = refl;
  }
    where
      made : IsOutMade (making_then word bytes text).out a b
      made = record { files = file.made.0; made = file.made.1 }
  made_then (Err file.Missing) now status told file cause ports calls printed = absurd (let h = told in cc)
  made_then (Err file.TooBig) now status told file cause ports calls printed = absurd (let h = told in cc)
  made_then (Err file.Failed) now status told file cause ports calls printed = absurd (let h = told in cc)
  made_then (Err file.NoMemory) now status told file cause ports calls printed = absurd (let h = told in cc)

module _ {X Y : Type 0} (view : X → Y) (meant : Readings → Spec Y) (next : Y →
    Work) (p q : DepotState) (page : PageState) (steps : ℕ) where
  -- files that were refused, or not read
  pub not_read : (status : Status) → FilesOutcome view meant p q (Err status) →
      Implements (λ given. meant given >>= λ y. value (next y)) (io_state p page steps) (io_state q page steps) status
  not_read status h = record {
    given = h.given;
    is_given = h.is_given;
    obeyed = first_obeys (meant h.given) (λ y. value (next y)) p q page steps status h.gives;
  }

  -- files that were read, and then the work that they mean
  pub read_then : (b : IoState) (x : X) (status : Status) → FilesOutcome view meant p q (Ok x) →
      OutcomeWithin (value (next (view x))) (io_state q page steps) b status →
      Implements (λ given. meant given >>= λ y. value (next y)) (io_state p page steps) b status
  read_then b x status h obeys = record {
    given = h.given;
    is_given = h.is_given;
    obeyed = then_obeys (meant h.given) (view x) (λ y. value (next y)) p q page steps b status h.gives.0 h.gives.1
        obeys;
  }
