-- What printing one text leaves.
use Rattle.std.proofs.Common.{append-nil, ◌≡◌, ℕ, List, refl, sym, subst, inl, inr}
use Rattle.std.specs.Io.KnownBytes.{Appends}
use Rattle.std.proofs.KnownBytes.{Appends-nil}
use Rattle.sd_ports.specs.Bytes.{AppendsPrefix}
use Rattle.sd_spec.specs.Plan.{Plan}
use Rattle.sd_command_base.specs.declared.status.Status.{Status}
use Rattle.sd_command_base.specs.declared.status.Status.TheVariants.{NoMemory}
use Rattle.sd_command_base.specs.Outside.{PageState}
use Rattle.sd_command_base.specs.Prints.{PrintsWork, PrintsText}
use Rattle.sd_command_base.specs.Work.{work_of_text}
use Rattle.sd_run_books.specs.Air.{air_text, planning}

pub one_text : (plan : Plan) (m pids : ℕ) (a b : PageState) (status : Status) →
    PrintsText (air_text plan m pids) a b status → PrintsWork (planning plan m pids) a b status
one_text plan m pids a b status (inl all) =
    inl (
      all.0,
      subst (λ (xs : List ℕ). Appends a.printed b.printed xs) (sym (append-nil (air_text plan m pids))) all.1,
      all.2,
    )
one_text plan m pids a b status (inr cut) =
    inr (inr (
      cut.0,
      subst (λ (xs : List ℕ). AppendsPrefix a.printed b.printed xs) (sym (append-nil (air_text plan m pids))) cut.1,
      cut.2,
    ))

-- memory was out before anything was printed
pub no_text : (plan : Plan) (m pids : ℕ) (a : PageState) (status : Status) → status ≡ NoMemory →
    PrintsWork (planning plan m pids) a a status
no_text plan m pids a status is = inr (inl (is, (0, Appends-nil a.printed), refl))

-- memory was out for a text
pub nothing_printed : (text : List ℕ) (a : PageState) (status : Status) → status ≡ NoMemory →
    PrintsWork (work_of_text text) a a status
nothing_printed text a status is = inr (inl (is, (0, Appends-nil a.printed), refl))
