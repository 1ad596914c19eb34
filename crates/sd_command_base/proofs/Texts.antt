-- A text that is printed whole.
use Rattle.std.proofs.Common.{ℕ, List, append-nil, sym, subst, inl, inr}
use Rattle.std.specs.Io.KnownBytes.{Appends}
use Rattle.sd_ports.specs.Bytes.{AppendsPrefix}
use Rattle.sd_command_base.specs.declared.status.Status.{Status}
use Rattle.sd_command_base.specs.Outside.{PageState}
use Rattle.sd_command_base.specs.Work.{work_of_text}
use Rattle.sd_command_base.specs.Prints.{PrintsWork, PrintsText}

-- a text that was printed, or a prefix of it, is work that prints it
pub text_prints : (text : List ℕ) (a b : PageState) (status : Status) → PrintsText text a b status →
    PrintsWork (work_of_text text) a b status
text_prints text a b status (inl all) = inl (
  all.0,
  subst (λ (xs : List ℕ). Appends a.printed b.printed xs) (sym (append-nil text)) all.1,
  all.2,
)
text_prints text a b status (inr cut) = inr (inr (
  cut.0,
  subst (λ (xs : List ℕ). AppendsPrefix a.printed b.printed xs) (sym (append-nil text)) cut.1,
  cut.2,
))
