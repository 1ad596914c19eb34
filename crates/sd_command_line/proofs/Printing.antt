-- What a command that prints a text, and reads nothing, comes to.
use Rattle.std.proofs.Common.{ℕ, List, append-nil, Ok, refl, sym, subst, inl, inr, arith}
use Rattle.std.specs.Io.KnownBytes.{Appends}
use Rattle.sd_ports.specs.Bytes.{AppendsPrefix}
use Rattle.sd_command_base.specs.declared.status.Status.{Status}
use Rattle.sd_command_base.specs.Outside.{DepotState, PageState, io_state}
use Rattle.sd_command_base.specs.Spec.{value}
use Rattle.sd_command_base.specs.Work.{work_of_text}
use Rattle.sd_command_base.specs.Outcome.{IsEnding, Outcome, ended, exhausted, cut_off, untouched, Implements}
use Rattle.sd_command_base.specs.Prints.{PrintsPiece}
use Rattle.sd_command_base.proofs.Givens.{any_given}

told_comes : (text : List ℕ) (place : DepotState) (a b : PageState) (steps : ℕ) (status : Status) →
    PrintsPiece text a b status →
    Outcome (Ok (work_of_text text)) (io_state place a steps) (io_state place b steps) status
told_comes text place a b steps status (inl (inl all)) =
    ended (work_of_text text) refl all.0 (subst IsEnding (sym all.0) tt) (record { files = refl; made = refl })
    (subst (λ (bytes : List ℕ). Appends a.printed b.printed bytes) (sym (append-nil text)) all.1)
    (record { depot = refl; print = all.2 }) refl
told_comes text place a b steps status (inl (inr cut)) =
    cut_off (work_of_text text) refl cut.0 (record { files = refl; made = refl })
    (subst (λ (bytes : List ℕ). AppendsPrefix a.printed b.printed bytes) (sym (append-nil text)) cut.1) cut.2 refl refl
told_comes text place a b steps status (inr none) =
    subst
    (λ (page : PageState). Outcome (Ok (work_of_text text)) (io_state place a steps) (io_state place page steps) status)
    (sym none.1)
    (exhausted none.0 (untouched (record { files = refl; made = refl }) refl) refl refl refl)

-- the text was printed, or a prefix of it, or nothing where memory was out
pub text_told : (text : List ℕ) (place : DepotState) (a b : PageState) (steps : ℕ) (status : Status) →
    PrintsPiece text a b status →
    Implements (λ given. value (work_of_text text)) (io_state place a steps) (io_state place b steps) status
text_told text place a b steps status prints =
    let given = any_given place.files in
    record {
      given = given.given;
      is_given = given.is_given;
      obeyed = record {
        comes = told_comes text place a b steps status prints;
        ports = refl;
        calls = omega arith;
        steps = refl;
      };
    }
