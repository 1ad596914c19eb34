-- What comes of work that prints a text and makes no file.
use Rattle.std.proofs.Common.{ℕ, List, append-nil, Result, Ok, Err, refl, sym, subst, inl, inr, arith}
use Rattle.std.specs.Io.KnownBytes.{Appends}
use Rattle.std.proofs.KnownBytes.{Appends-nil}
use Rattle.sd_ports.specs.Bytes.{AppendsPrefix}
use Rattle.sd_command_base.specs.declared.status.Status.{Status}
use Rattle.sd_command_base.specs.Outside.{DepotState, PageState, io_state}
use Rattle.sd_command_base.specs.Spec.{value}
use Rattle.sd_command_base.specs.Outcome.{IsEnding, untouched, ended, exhausted, cut_off, OutcomeWithin}
use Rattle.sd_command_base.specs.Prints.{PrintsText}
use Rattle.sd_command_base.specs.Printed.{MemoryOutcome, printing}

-- a text, and then its printing
pub text_printed : (text : List ℕ) (q : DepotState) (page now : PageState) (steps more : ℕ) (status : Status) →
    PrintsText text page now status →
    OutcomeWithin (value (printing (Ok text))) (io_state q page steps) (io_state q now more) status
text_printed text q page now steps more status (inl all) = record {
  comes = ended (printing (Ok text)) refl all.0 (subst IsEnding (sym all.0) tt) (record { files = refl; made = refl })
      (subst (λ (xs : List ℕ). Appends page.printed now.printed xs) (sym (append-nil text)) all.1)
      (record { depot = refl; print = all.2 }) refl;
  ports = refl;
  calls = omega arith;
  steps = tt;
}
text_printed text q page now steps more status (inr cut) = record {
  comes = cut_off (printing (Ok text)) refl cut.0 (record { files = refl; made = refl })
      (subst (λ (xs : List ℕ). AppendsPrefix page.printed now.printed xs) (sym (append-nil text)) cut.1) cut.2
      refl refl;
  ports = refl;
  calls = omega arith;
  steps = tt;
}

-- no text
pub nothing_printed : {X : Type 0} (view : X →
    List ℕ) (meant : Result (List ℕ) Status) (q : DepotState) (page : PageState)
    (steps more : ℕ) (status : Status) → MemoryOutcome view meant (Err status) →
    OutcomeWithin (value (printing meant)) (io_state q page steps) (io_state q page more) status
nothing_printed view meant q page steps more status (inl told) =
    subst (λ (r : Result (List ℕ) Status). OutcomeWithin
    (value (printing r)) (io_state q page steps) (io_state q page more) status)
    (sym told.0)
    (record {
      comes = ended (printing (Err status)) refl refl told.1 (record { files = refl; made = refl })
          (Appends-nil page.printed) (record { depot = refl; print = refl }) refl;
      ports = refl;
      calls = omega arith;
      steps = tt;
    })
nothing_printed view (Ok text) q page steps more status (inr out) = record {
  comes = exhausted out (untouched (record { files = refl; made = refl }) refl) refl refl refl;
  ports = refl;
  calls = omega arith;
  steps = tt;
}
nothing_printed view (Err other) q page steps more status (inr out) = record {
  comes = exhausted out (untouched (record { files = refl; made = refl }) refl) refl refl refl;
  ports = refl;
  calls = omega arith;
  steps = tt;
}
