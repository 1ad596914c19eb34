-- What the commands leave that make a site of a chain.
use Rattle.std.proofs.Common.{◌≡◌, ◌≢◌, ℕ, List, [], ◌∷◌, Option, Result, Ok, Err, sym, ap, subst, ◌∙◌, inl, inr}
use Rattle.std.proofs.Common.{append-nil}
use Rattle.std.specs.Io.KnownBytes.{Appends}
use Rattle.sd_ports.specs.Bytes.{AppendsPrefix}
use Rattle.sd_command_base.specs.declared.status.Status.{Status}
use Rattle.sd_command_base.specs.declared.status.Status.TheVariants.{NoMemory}
use Rattle.sd_command_base.specs.Outside.{DepotState, PageState, IoState, io_state}
use Rattle.sd_command_base.specs.Spec.{Spec, FileArgument, Readings, of_result, ◌>>=◌}
use Rattle.sd_command_base.specs.Work.{Work}
use Rattle.sd_command_base.specs.Outcome.{Implements}
use Rattle.sd_command_base.specs.Reads.{SureOutcome, StepOutcome, FileOutcome, FilesOutcome}
use Rattle.sd_command_base.specs.Prints.{PrintsText, PrintsWork}
use Rattle.sd_command_base.specs.Made.{NewFile, NewOutcome, making_new, new_work}
use Rattle.sd_command_base.specs.Shown.{NumberArgument}
use Rattle.sd_command_base.proofs.Givens.{any_given, one_given, some_got}
use Rattle.sd_command_base.proofs.News.{IsOfOthers}
use Rattle.sd_command_base.proofs.Thirds.{judged_obeys, judged_refused, wanting_obeys}
use Rattle.sd_run_books.specs.Next.{origin_of_files}

-- what is judged before a file is read was refused
pub first_refused : {X Z : Type 0} (view : X → Z) (meant : Result Z Status) (next : Z → Readings → Spec Work)
    (p : DepotState) (page : PageState) (steps : ℕ) (status : Status) → SureOutcome view meant (Err status) →
    Implements (λ given. of_result meant >>= λ z. next z given) (io_state p page steps) (io_state p page steps) status
first_refused view meant next p page steps status h =
    let g = any_given p.files in record {
      given = g.given;
      is_given = g.is_given;
      obeyed = judged_refused view meant (λ z. next z g.given) p page steps status (inl h);
    }

-- or it gave a value, and then what is meant by the value was done
pub first_then : {Z : Type 0} (meant : Result Z Status) (z : Z) (next : Z → Readings → Spec Work) (a b : IoState)
    (status : Status) → meant ≡ Ok z → Implements (next z) a b status →
    Implements (λ given. of_result meant >>= λ z. next z given) a b status
first_then meant z next a b status is h = record {
  given = h.given;
  is_given = h.is_given;
  obeyed = judged_obeys meant z (λ z. next z h.given) a b status is h.obeyed;
}

-- memory was out before OUT was made
pub new_wanting : (made : NewFile) (out : FileArgument) (q : DepotState) (page : PageState) (steps : ℕ)
    (status : Status) → status ≡ NoMemory →
    NewOutcome made out (io_state q page steps) (io_state q page steps) status
new_wanting made out q page steps status is =
    let got = some_got q.files out.text in record {
      got = got.0;
      is_got = got.1;
      obeyed = wanting_obeys (making_new made out got.0) q page steps status is;
    }

-- printing one text is printing the one piece of a new file
pub one_piece : (bytes text : List ℕ) (out : FileArgument) (a b : PageState) (status : Status) →
    PrintsText text a b status →
    PrintsWork (new_work (record { bytes = bytes; pieces = text ∷ [] }) out) a b status
one_piece bytes text out a b status (inl all) = inl (
  all.0,
  subst (λ (xs : List ℕ). Appends a.printed b.printed xs) (sym (append-nil text)) all.1,
  all.2,
)
one_piece bytes text out a b status (inr cut) = inr (inr (
  cut.0,
  subst (λ (xs : List ℕ). AppendsPrefix a.printed b.printed xs) (sym (append-nil text)) cut.1,
  cut.2,
))

-- what a next site is made from doesn't look at OUT
pub origin_of_others : (site book out : FileArgument) (words : NumberArgument) → site.number ≢ out.number →
    book.number ≢ out.number →
    IsOfOthers out (λ given. origin_of_files site.number book.number words (given site) (given book))
origin_of_others site book out words first second given other same =
    ap (λ (got : Option (List ℕ)). origin_of_files site.number book.number words got (other book)) (same site first)
    ∙ ap (origin_of_files site.number book.number words (given site)) (same book second)

-- the file of one word was read, or not
pub file_given : {X Y : Type 0} (view : X → Y) (meant : Option (List ℕ) → Spec Y) (word : FileArgument)
    (p q : DepotState) (result : Result X Status) → FileOutcome view meant word.text p q result →
    FilesOutcome view (λ given. meant (given word)) p q result
file_given view meant word p q result h =
    let g = one_given p.files word h.got h.is_got in record {
      given = g.given;
      is_given = g.is_given;
      gives = subst (λ (got : Option (List ℕ)). StepOutcome view (meant got) p q result) (sym g.gave) h.gives;
    }

-- what one other file gives doesn't look at OUT
pub site_of_others : {Y : Type 0} (meant : Option (List ℕ) → Spec Y) (site out : FileArgument) →
    site.number ≢ out.number → IsOfOthers out (λ given. meant (given site))
site_of_others meant site out apart given other same = ap meant (same site apart)
