-- What `status` prints of good files, and `show` of a leaf's card.
use Rattle.std.proofs.Common.{◌≡◌, ℕ, ◌+◌, ◌-◌, ◌<◌, ◌≤◌, ◌^◌, ◌==◌, arith, Bool, true, false, not, cond, List, []}
use Rattle.std.proofs.Common.{◌∷◌, ◌++◌, append-nil, Some, Ok, Err, refl, sym, ap, subst, ◌∙◌, lt-ltb, inl, inr, ◌⊎◌}
use Rattle.std.specs.Prelude.{Contains, ◌||◌}
use Rattle.std.specs.FinMap.{get}
use Rattle.std.specs.List.{concat}
use Rattle.std.specs.Option.{option_and_then}
use Rattle.std.specs.Io.KnownBytes.{Appends}
use Rattle.std.proofs.lemmas.Bool.Decides.{nat_tests}
use Rattle.sd_base.specs.Types.{FileName}
use Rattle.sd_base.proofs.Ranges.{in_range}
use Rattle.sd_book.specs.Commands.{last_period}
use Rattle.sd_lsd.proofs.Filters.{from_filter}
use Rattle.sd_ports.specs.Files.{Files}
use Rattle.sd_site_cards.specs.CardFields.{card_bytes, card_of, site_card}
use Rattle.sd_site_cards.specs.Files.{check_in}
use Rattle.sd_site_cards.specs.SiteFields.{SiteFields}
use Rattle.sd_site_cards.proofs.Made.{made_is_card}
use Rattle.sd_spec.specs.Plan.{Plan}
use Rattle.sd_law_losses.specs.Confirmed.{is_revoked_in}
use Rattle.sd_command_base.specs.declared.status.Status.{Status}
use Rattle.sd_command_base.specs.declared.status.Status.TheVariants.{BadWord, Done}
use Rattle.sd_command_base.specs.Files.{book_in, site_in}
use Rattle.sd_command_base.specs.Outside.{IoState, PageState}
use Rattle.sd_command_base.specs.Results.{RunResult}
use Rattle.sd_command_base.specs.Spec.{FileArgument, Readings, contents_of, of_result, value, ◌>>=◌}
use Rattle.sd_command_base.specs.Texts.{line_of_status}
use Rattle.sd_command_base.specs.Work.{work_of_text}
use Rattle.sd_command_base.proofs.Follow.{then_is}
use Rattle.sd_command_base.proofs.RunAnswers.{done_line}
use Rattle.sd_command_line.specs.Words.{ShowOf, StatusOf, order_of}
use Rattle.sd_run_books.specs.Apart.{differ}
use Rattle.sd_run_books.specs.Told.{told_periods}
use Rattle.sd_run_books.specs.Fingerprint.{fingerprint_in, fingerprint_of}
use Rattle.sd_run_books.specs.Show.{shown_line}
use Rattle.sd_run_books.specs.Status.{change_periods, is_change, is_entitled, status_text, told_tree, tree_of_file}
use Rattle.sd_run_books.proofs.Changes.{ascending, first_is_told, same_until}
use Rattle.sd_run.specs.Meaning.{meaning}
use Rattle.sd_law_run.specs.Good.{IsGoodShow}
use Rattle.sd_law_run.specs.Headline.{IsUndisturbed, card_file_for, file_in}
use Rattle.sd_law_run.specs.Told.{AreChanges, IsGoodStatus, ShowResult, StatusResult, plan_asked}
use Rattle.sd_law_run.proofs.Fingerprints.{made_fingerprint}
use Rattle.sd_law_run.proofs.Goodness.{book_good, ordered, site_good, site_low}
use Rattle.sd_law_run.proofs.Monitors.{show_good}
use Rattle.sd_law_run.proofs.Parts.{card_same}
use Rattle.sd_law_run.proofs.Runs.{runs_work}

-- good words over good files mean the lines
pub status_good : (words : List (List ℕ)) (given : Readings) (good : IsGoodStatus words given) →
    (meaning words given).result ≡ Ok (work_of_text (status_text good.fields good.commands good.leaf.value))
status_good words given good =
    let f = good.fields in
    let leaf = good.leaf in
    ordered words given (StatusOf good.site good.book leaf) good.order
    ∙ then_is (tree_of_file good.site.number leaf (given good.site)) f
    (λ fields. book_in given fields.height good.book
    >>= λ commands. value (work_of_text (status_text fields commands leaf.value)))
    (then_is (site_in given good.site) f (λ fields. of_result (told_tree leaf fields))
    (site_good given good.site f good.good_site)
    ∙ ap (λ b. cond b (Ok f) (Err (BadWord leaf.word))) (lt-ltb leaf.value (2 ^ f.height) good.of_tree))
    ∙ then_is (book_in given f.height good.book) good.commands
    (λ commands. value (work_of_text (status_text f commands leaf.value)))
    (book_good given f.height good.book good.commands (site_low (given good.site) f good.good_site) good.good_book)

not_same : (p q : Bool) → not p ≡ not q → p ≡ q
not_same true true e = refl
not_same true false e = absurd cc
not_same false true e = absurd cc
not_same false false e = refl

-- what is printed of work that only prints, and ends well
text_alone : (a b : PageState) (text : List ℕ) (answer : Status) →
    Appends a.printed b.printed (concat (text ∷ []) ++ line_of_status answer) → answer ≡ Done →
    Appends a.printed b.printed text
text_alone a b text answer said is =
    subst (λ (l : List ℕ). Appends a.printed b.printed l)
    (ap (λ (s : Status). concat (text ∷ []) ++ line_of_status s) is
    ∙ ap (λ (l : List ℕ). concat (text ∷ []) ++ l) done_line
    ∙ append-nil (concat (text ∷ []))
    ∙ append-nil text) said

-- and no file changes
files_stay : (files : Files) (a b : IoState) → a.place.files ≡ Some files → b.place.files ≡ Some files →
    (name : FileName) → file_in b name ≡ file_in a name
files_stay files a b before after name =
    ap (option_and_then (λ (f : Files). get f name)) (after ∙ sym before)

-- a later period of the lines differs from the one before
other_side : (first q : ℕ) (before now : Bool) → first ≤ q → (q == first || differ (not before) (not now)) ≡ true →
    (q ≡ first) ⊎ ((first < q) × (before ≡ not now))
other_side first q before now low e = by_place (q == first) refl e
  where
    by_values : (before now : Bool) → differ (not before) (not now) ≡ true → before ≡ not now
    by_values true true h = absurd cc
    by_values true false h = refl
    by_values false true h = refl
    by_values false false h = absurd cc

    by_place : (here : Bool) → (q == first) ≡ here → (here || differ (not before) (not now)) ≡ true →
        (q ≡ first) ⊎ ((first < q) × (before ≡ not now))
    by_place true f h = inl (grind (arith, nat_tests, f))
    by_place false f h = inr (grind (arith, nat_tests, f, low), by_values before now h)

changed_at : (plan : Plan) (u q : ℕ) → Contains (change_periods plan.site plan.commands u) q →
    (q ≡ plan.site.first_period)
    ⊎ ((plan.site.first_period < q) × (is_revoked_in plan u (q - 1) ≡ not (is_revoked_in plan u q)))
unfolding change_periods
changed_at plan u q has =
    let first = plan.site.first_period in
    let (told, changes) = from_filter (is_change first (is_entitled plan.site.height plan.commands u))
    (told_periods plan.site plan.commands) q has in
    other_side first q (is_revoked_in plan u (q - 1)) (is_revoked_in plan u q)
    (in_range first (last_period plan.commands - first + 1) q told).0 changes

-- the periods of the lines are all changes
pub are_changes : (plan : Plan) (u : ℕ) → AreChanges plan u (change_periods plan.site plan.commands u)
are_changes plan u = record {
  ascending = ascending plan.site plan.commands u;
  first = first_is_told plan.site plan.commands u;
  changed = λ q has. changed_at plan u q has;
  between = λ p q low le none. not_same (is_revoked_in plan u q) (is_revoked_in plan u p)
      (same_until plan.site plan.commands u p q low le none);
}

pub status_part : (words : List (List ℕ)) (files : Files) (good : IsGoodStatus words (contents_of files))
    (a b : IoState) (answer : Status) → a.place.files ≡ Some files → RunResult (meaning words) a b answer →
    IsUndisturbed a b answer → StatusResult (plan_asked good) good.leaf.value a b answer
unfolding status_text
status_part words files good a b answer told answers well =
    let text = status_text good.fields good.commands good.leaf.value in
    let done = runs_work (meaning words) (work_of_text text) files a b answer
    (status_good words (contents_of files) good) told answers well in
    record {
      done = done.ends;
      periods = change_periods good.fields good.commands good.leaf.value;
      changes = are_changes (plan_asked good) good.leaf.value;
      told = text_alone a.page b.page text answer done.printed done.ends;
      others = files_stay files a b told done.left;
    }

-- the line of a leaf's card has the fingerprint of the master
pub line_made : (site : SiteFields) (u : ℕ) →
    let card = site_card site u in
    shown_line card.height card.leaf card.ca (check_in (card_bytes card)) (fingerprint_in (card_bytes card))
    ≡ shown_line site.height u site.ca (check_in (card_file_for site u)) (fingerprint_of site.master)
unfolding card_of
line_made site u =
    let bytes = card_bytes (site_card site u) in
    ap (λ (m : List ℕ). shown_line site.height u site.ca (check_in bytes) m)
    (made_fingerprint site.master site.ca site.height u)
    ∙ ap (λ (bs : List ℕ). shown_line site.height u site.ca (check_in bs) (fingerprint_of site.master))
    (card_same site u)

pub show_part : (words : List (List ℕ)) (card : FileArgument) (site : SiteFields) (u : ℕ) (files : Files)
    (a b : IoState) (answer : Status) → order_of words ≡ Ok (ShowOf card) → a.place.files ≡ Some files →
    site.ca < 2 ^ 16 → 1 ≤ site.height → site.height ≤ 20 → u < 2 ^ site.height →
    get files card.text ≡ Some (card_file_for site u) → RunResult (meaning words) a b answer →
    IsUndisturbed a b answer →
    ShowResult site u a b answer
show_part words card site u files a b answer order told system some low leaf there answers well =
    let fields = site_card site u in
    let good : IsGoodShow words (contents_of files) = record {
      card = card;
      order = order;
      fields = fields;
      is_card = made_is_card site.master site.ca site.height u system some low leaf;
      there = there ∙ ap Some (sym (card_same site u));
    } in
    let text = shown_line fields.height fields.leaf fields.ca (check_in (card_bytes fields))
    (fingerprint_in (card_bytes fields)) in
    let done = runs_work (meaning words) (work_of_text text) files a b answer
    (show_good words (contents_of files) good) told answers well in
    record {
      done = done.ends;
      told = subst (λ (l : List ℕ). Appends a.page.printed b.page.printed l) (line_made site u)
          (text_alone a.page b.page text answer done.printed done.ends);
      others = files_stay files a b told done.left;
    }
