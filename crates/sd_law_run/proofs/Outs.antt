-- What every run leaves, whatever its words.
use Rattle.std.proofs.Common.{◌≡◌, ◌≢◌, ◌⊎◌, ℕ, List, [], Option, Some, None, Result, Ok, refl, sym, ap, subst}
use Rattle.std.proofs.Common.{◌∙◌, inl, inr, IsSome, arith}
use Rattle.std.specs.FinMap.{get, insert}
use Rattle.std.specs.List.{concat}
use Rattle.std.specs.Io.KnownBytes.{Appends}
use Rattle.std.proofs.KnownBytes.{Appends-trans}
use Rattle.std.proofs.lemmas.List.{append-nil}
use Rattle.sd_base.specs.Count.{with_added}
use Rattle.sd_ports.specs.Files.{Files, with_bytes}
use Rattle.std.specs.Option.{option_and_then}
use Rattle.std.proofs.lemmas.Option.{same_Some}
use Rattle.sd_command_base.specs.declared.status.Status.{Status}
use Rattle.sd_command_base.specs.declared.status.Status.TheVariants.{Done, Missing}
use Rattle.sd_command_base.specs.Texts.{line_of_status}
use Rattle.sd_command_base.specs.Outside.{PageState, IoState}
use Rattle.sd_command_base.specs.Spec.{Spec, Readings, contents_of}
use Rattle.sd_command_base.specs.Work.{Mark, Out, Work, files_marked, files_with, made_marked, made_with}
use Rattle.sd_command_base.specs.Outcome.{Outcome, IsRefusal, IsOutMade, IsNoOutMade, marked_by}
use Rattle.sd_command_base.specs.Outcome.{refused, ended, unclosed, exhausted, failed, unmarked, nowhere, cut_off}
use Rattle.sd_command_base.specs.Outcome.{cut_short}
use Rattle.sd_command_base.specs.Results.{RunResult, PrintsStatusLine, with_page}
use Rattle.sd_command_base.proofs.RunAnswers.{own_line, done_line, told_given}
use Rattle.sd_run.specs.Meaning.{meaning}
use Rattle.sd_law_run.specs.Headline.{file_in}
use Rattle.sd_law_run.specs.Outcome.{FilesMade, IsDone, IsMarkedAlone, made_both, made_mark, made_none, made_out}
use Rattle.sd_law_run.specs.Outcome.{out_name, used_by}
use Rattle.sd_run.specs.Refusals.{RefusesFirst}
use Rattle.sd_law_run.proofs.Shelf.{others_stay}
use Rattle.sd_law_run.proofs.Parts.{of_told}
use Rattle.sd_law_run.specs.Left.{with_mark_file}
use Rattle.sd_law_run.proofs.AirOrders.{air_work, mark_is, marked_air, used_words}
use Rattle.sd_law_run.proofs.Left.{MadeMark, MadeOut, answers_leave, run_leaves}
use Rattle.sd_run.proofs.Works.{IsOrderly, AreOrderly}
use Rattle.sd_law_run.proofs.Orderly.{words_orderly}

-- nothing is printed, and nothing fails, where `Done` is told
record IsSilent (a b : PageState) : Type 0 where
  printed : Appends a.printed b.printed []
  faults : b.faults ≡ a.faults

silent : (a b : PageState) (status : Status) → PrintsStatusLine a b status Done → IsSilent a b
silent a b status tells =
    elim tells.says [
      | inl said ↦ record {
        printed = subst (λ (l : List ℕ). Appends a.printed b.printed l) (ap line_of_status (sym said.0) ∙ done_line)
            said.1;
        faults = said.2;
      }
      | inr cut ↦ absurd (let x = cut.0 in cc)
    ]

came_done : (meant : Result Work Status) (a b : IoState) (status : Status) → Outcome meant a b status → status ≡ Done →
    IsDone meant a b
came_done meant a b status (refused e r h k c m) is = absurd (subst IsRefusal is r)
came_done meant a b status (ended work e s i h k c m) is =
    record { work = work; is_meant = e; ends = sym s ∙ is; made = h; printed = k; calm = c }
came_done meant a b status (unclosed work e s i j t out f h k r o c m) is = absurd (subst IsRefusal is j)
came_done meant a b status (exhausted s h o c m) is = absurd (let x = sym s ∙ is in cc)
came_done meant a b status (failed s h r o c m) is = absurd (let x = sym s ∙ is in cc)
came_done meant a b status (unmarked work e mark marks s n h k c m) is = absurd (let x = sym s ∙ is in cc)
came_done meant a b status (nowhere work e out f s n h k c m) is = absurd (let x = sym s ∙ is in cc)
came_done meant a b status (cut_off work e s h k r c m) is = absurd (let x = sym s ∙ is in cc)
came_done meant a b status (cut_short work e live s out f h k r m) is = absurd (let x = sym s ∙ is in cc)

-- a run that answers `Done` has done the work that is meant
pub done_leaves : (meant : Readings → Spec Work) (files : Files) (a b : IoState) (answer : Status) →
    a.place.files ≡ Some files → answer ≡ Done → RunResult meant a b answer →
    IsDone (meant (contents_of files)).result a b
done_leaves meant files a b answer told is answers =
    let line : PrintsStatusLine answers.page b.page answers.status Done =
    subst (λ (s : Status). PrintsStatusLine answers.page b.page answers.status s) is answers.told in
    let own : answers.status ≡ Done =
    own_line answers.page b.page answers.status Done line (λ e. cc) (λ e. cc) in
    let quiet = silent answers.page b.page answers.status line in
    let given : answers.obeyed.given ≡ contents_of files =
    told_given a.place.files files answers.obeyed.given told answers.obeyed.is_given in
    let done = came_done (meant answers.obeyed.given).result a (with_page b answers.page) answers.status
    answers.obeyed.obeyed.comes own in
    record {
      work = done.work;
      is_meant = sym (ap (λ (g : Readings). (meant g).result) given) ∙ done.is_meant;
      ends = done.ends;
      made = done.made;
      printed = subst (λ (l : List ℕ). Appends a.page.printed b.page.printed l) (append-nil (concat done.work.pieces))
          (Appends-trans a.page.printed answers.page.printed b.page.printed (concat done.work.pieces) [] done.printed
          quiet.printed);
      calm = record { depot = done.calm.depot; print = quiet.faults ∙ done.calm.print };
    }

-- the file that a run makes is the one that its words name
pub out_is : (words : List (List ℕ)) (given : Readings) (work : Work) (out : Out) →
    (meaning words given).result ≡ Ok work → work.out ≡ Some out → out_name words ≡ Some out.name
out_is words given work out is makes =
    let orderly : IsOrderly (out_name words) (used_by words) work =
    subst (AreOrderly (out_name words) (used_by words)) is (words_orderly words given) in
    orderly.makes out makes

-- so no other file changes but the mark
pub file_stays : (words : List (List ℕ)) (files : Files) (a b : IoState) (answer : Status) →
    a.place.files ≡ Some files → RunResult (meaning words) a b answer → (name : List ℕ) →
    out_name words ≢ Some name → used_by words ≢ Some name → file_in b name ≡ get files name
file_stays words files a b answer told answers name no_out no_mark =
    elim (run_leaves words files a b answer told answers) [
      | inl as_before ↦ of_told b files name as_before.left
      | inr (inl has) ↦
          of_told b (insert files has.mark.name []) name has.left
          ∙ others_stay files has.mark.name [] name (not_mark has.work has.mark has.is_meant has.marks)
      | inr (inr has) ↦
          of_told b (insert (with_mark_file has.work.mark files) has.out.name has.prefix) name has.left
          ∙ (others_stay (with_mark_file has.work.mark files) has.out.name has.prefix name
          (λ e. no_out (out_is words (contents_of files) has.work has.out has.is_meant has.makes
          ∙ ap (λ (n : List ℕ). Some n) (sym e)))
          ∙ mark_apart has.work.mark (λ mark marks. not_mark has.work mark has.is_meant marks))
    ]
  where
    not_mark : (work : Work) (mark : Mark) → (meaning words (contents_of files)).result ≡ Ok work →
        work.mark ≡ Some mark → name ≢ mark.name
    not_mark work mark is marks e =
        no_mark (mark_is words (contents_of files) work mark is marks ∙ ap (λ (n : List ℕ). Some n) (sym e))

    mark_apart : (mark : Option Mark) → ((m : Mark) → mark ≡ Some m → name ≢ m.name) →
        get (with_mark_file mark files) name ≡ get files name
    mark_apart None apart = refl
    mark_apart (Some mark) apart = others_stay files mark.name [] name (apart mark refl)

-- if the model doesn't know the files, it doesn't know them afterwards
unknown_stay : (a b : IoState) (name : List ℕ) → a.place.files ≡ None → b.place.files ≡ None →
    file_in b name ≡ file_in a name
unknown_stay a b name before after =
    ap (λ (o : Option Files). option_and_then (λ (fs : Files). get fs name) o) (after ∙ sym before)

-- the mark alone leaves the other files
mark_alone : (words : List (List ℕ)) (given : Readings) (a b : IoState) →
    (has : MadeMark (meaning words given).result a.place b.place) → (known : Option Files) → a.place.files ≡ known →
    (name : List ℕ) → used_by words ≢ Some name → file_in b name ≡ file_in a name
mark_alone words given a b has None told name other =
    unknown_stay a b name told (has.left ∙ ap (λ (fs : Option Files). with_bytes fs has.mark.name []) told)
mark_alone words given a b has (Some files) told name other =
    of_told b (insert files has.mark.name []) name
    (has.left ∙ ap (λ (fs : Option Files). with_bytes fs has.mark.name []) told)
    ∙ (others_stay files has.mark.name [] name
    (λ e. other (mark_is words given has.work has.mark has.is_meant has.marks ∙ ap (λ (n : List ℕ). Some n) (sym e)))
    ∙ sym (of_told a files name told))

-- one more and one more are two more
two_added : (n : ℕ) → with_added (with_added n 1) 1 ≡ with_added n 2
two_added n = omega arith

-- a name is some name
is_some : (name : Option (List ℕ)) (text : List ℕ) → name ≡ Some text → IsSome name
is_some name text e = subst IsSome (sym e) refl

-- how many files are made
out_made : (words : List (List ℕ)) (given : Readings) (a b : IoState) →
    (has : MadeOut (meaning words given).result a.place b.place) → (mark : Option Mark) → has.work.mark ≡ mark →
    (name : Option (List ℕ)) → used_by words ≡ name → FilesMade words a b
out_made words given a b has (Some mark) marks name used =
    made_both (has.made ∙ (ap (λ (m : Option Mark). with_added (made_marked m a.place.made) 1) marks
    ∙ two_added a.place.made))
    (is_some (used_by words) mark.name (mark_is words given has.work mark has.is_meant marks))
out_made words given a b has None marks None used =
    made_out (has.made ∙ ap (λ (m : Option Mark). with_added (made_marked m a.place.made) 1) marks)
    (is_some (out_name words) has.out.name (out_is words given has.work has.out has.is_meant has.makes)) used
out_made words given a b has None marks (Some name) used =
    let air = air_work words (used_words words name used).0 given has.work has.is_meant in
    absurd (let e = sym marks ∙ ap (λ (w : Work). w.mark) air.found.is_work in cc)

pub files_made : (words : List (List ℕ)) (a b : IoState) (answer : Status) → RunResult (meaning words) a b answer →
    FilesMade words a b
files_made words a b answer answers =
    elim (answers_leave words a b answer answers) [
      | inl un ↦ made_none un.made
      | inr (inl has) ↦ made_mark has.made
          (is_some (used_by words) has.mark.name
          (mark_is words answers.obeyed.given has.work has.mark has.is_meant has.marks))
          (λ name other. mark_alone words answers.obeyed.given a b has a.place.files refl name other)
      | inr (inr has) ↦ out_made words answers.obeyed.given a b has has.work.mark refl (used_by words) refl
    ]

-- what refused words or files leave before the line of the refusal
record IsQuiet (words : List (List ℕ)) (a b : IoState) (status : Status) : Type 0 where
  unmade : IsNoOutMade a.place b.place ⊎ IsMarkedAlone words a.place b.place status
  printed : Appends a.page.printed b.page.printed []

none_printed : (a b : Option (List ℕ)) → b ≡ a → Appends a b []
none_printed None b e = subst (λ (l : Option (List ℕ)). Appends None l []) (sym e) tt
none_printed (Some bytes) b e =
    subst (λ (l : Option (List ℕ)). Appends (Some bytes) l []) (sym e) (sym (append-nil bytes))

nothing_made : (out : Option Out) (mark : Option Mark) (a b : IoState) → out ≡ None → mark ≡ None →
    IsOutMade out (marked_by mark a.place) b.place → IsNoOutMade a.place b.place
nothing_made out mark a b none bare made = record {
  files = made.files ∙ (ap (λ (o : Option Out). files_with o (files_marked mark a.place.files)) none
      ∙ ap (λ (m : Option Mark). files_marked m a.place.files) bare);
  made = made.made ∙ (ap (λ (o : Option Out). made_with o (made_marked mark a.place.made)) none
      ∙ ap (λ (m : Option Mark). made_marked m a.place.made) bare);
}

-- if there is no folder for OUT, nothing is made, or of `air` the mark alone
nowhere_left : (words : List (List ℕ)) (given : Readings) (work : Work) (out : Out) (a b : IoState) (status : Status) →
    (meaning words given).result ≡ Ok work → work.out ≡ Some out → status ≡ Missing out.word →
    a.place.files ≡ None → (mark : Option Mark) → work.mark ≡ mark → IsNoOutMade (marked_by mark a.place) b.place →
    IsNoOutMade a.place b.place ⊎ IsMarkedAlone words a.place b.place status
nowhere_left words given work out a b status is makes s unknown None marks un =
    inl (record { files = un.files; made = un.made })
nowhere_left words given work out a b status is makes s unknown (Some mark) marks un =
    let (are, air) = marked_air words given work mark is marks in
    let same = same_Some out _ (sym makes ∙ ap (λ (w : Work). w.out) air.found.is_work) in
    inr (record {
      airs = is_some (used_by words) mark.name (mark_is words given work mark is marks);
      unknown = unknown;
      missing = s ∙ ap (λ (o : Out). Missing o.word) same;
      files = un.files ∙ (ap (λ (fs : Option Files). with_bytes fs mark.name []) unknown ∙ sym unknown);
      made = un.made;
    })

came_quiet : (words : List (List ℕ)) (given : Readings) (a b : IoState) (status : Status) → RefusesFirst status →
    Outcome (meaning words given).result a b status → IsQuiet words a b status
came_quiet words given a b status refuses (refused e r un k c m) =
    record { unmade = inl un; printed = none_printed a.page.printed b.page.printed k }
came_quiet words given a b status refuses (ended work is s i made prints c m) =
    let own : IsOrderly (out_name words) (used_by words) work =
    subst (AreOrderly (out_name words) (used_by words)) is (words_orderly words given) in
    let keeps = own.keeps (subst RefusesFirst s refuses) in
    record {
      unmade = inl (nothing_made work.out work.mark a b keeps.0 keeps.1 made);
      printed = subst (λ (ps : List (List ℕ)). Appends a.page.printed b.page.printed (concat ps)) keeps.2 prints;
    }
came_quiet words given a b status refuses (unclosed work is s i j t made makes short k r o c m) =
    let own : IsOrderly (out_name words) (used_by words) work =
    subst (AreOrderly (out_name words) (used_by words)) is (words_orderly words given) in
    let keeps = own.keeps (subst RefusesFirst s refuses) in
    absurd (let both = sym keeps.0 ∙ makes in cc)
came_quiet words given a b status refuses (exhausted s h o c m) = absurd (subst RefusesFirst s refuses)
came_quiet words given a b status refuses (failed s h r o c m) = absurd (subst RefusesFirst s refuses)
came_quiet words given a b status refuses (unmarked work is mark marks s n un k c m) =
    record { unmade = inl un; printed = none_printed a.page.printed b.page.printed k }
came_quiet words given a b status refuses (nowhere work is out makes s n un k c m) = record {
  unmade = nowhere_left words given work out a b status is makes s n work.mark refl un;
  printed = none_printed a.page.printed b.page.printed k;
}
came_quiet words given a b status refuses (cut_off work is s made k r c m) = absurd (subst RefusesFirst s refuses)
came_quiet words given a b status refuses (cut_short work is live s made makes short k r m) =
    absurd (subst RefusesFirst s refuses)

-- the line of a refusal is its own, and was printed
line_told : (a b : PageState) (status answer : Status) → RefusesFirst answer → PrintsStatusLine a b status answer →
    (answer ≡ status) × Appends a.printed b.printed (line_of_status answer)
line_told a b status answer refuses tells =
    elim tells.says [
      | inl said ↦ (
        said.0 ∙ elim tells.of [
          | inl own ↦ own
          | inr wanting ↦ absurd (subst RefusesFirst (said.0 ∙ wanting.1) refuses)
        ],
        subst (λ (s : Status). Appends a.printed b.printed (line_of_status s)) (sym said.0) said.1,
      )
      | inr cut ↦ absurd (subst RefusesFirst cut.0 refuses)
    ]

-- refused words or files leave nothing but the line of the refusal, and of `air`, if there is no folder for OUT, the
-- mark
pub refusal_leaves : (words : List (List ℕ)) (a b : IoState) (answer : Status) → RefusesFirst answer →
    RunResult (meaning words) a b answer → (IsNoOutMade a.place b.place ⊎ IsMarkedAlone words a.place b.place answer)
    × Appends a.page.printed b.page.printed (line_of_status answer)
refusal_leaves words a b answer refuses answers =
    let told = line_told answers.page b.page answers.status answer refuses answers.told in
    let quiet = came_quiet words answers.obeyed.given a (with_page b answers.page) answers.status
    (subst RefusesFirst told.0 refuses) answers.obeyed.obeyed.comes in (
      subst (λ (s : Status). IsNoOutMade a.place b.place ⊎ IsMarkedAlone words a.place b.place s) (sym told.0)
          quiet.unmade,
      Appends-trans a.page.printed answers.page.printed b.page.printed [] (line_of_status answer) quiet.printed told.1,
    )
