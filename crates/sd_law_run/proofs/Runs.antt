-- What a run leaves where no device failed and memory was not out.
use Rattle.std.proofs.Common.{◌≡◌, ◌≢◌, ℕ, ◌++◌, List, [], Option, Some, Result, Ok, Err, sym, ap, subst, ◌∙◌, inl}
use Rattle.std.proofs.Common.{inr}
use Rattle.std.specs.List.{concat}
use Rattle.std.specs.Io.KnownBytes.{Appends}
use Rattle.std.proofs.KnownBytes.{Appends-trans}
use Rattle.sd_base.specs.Count.{HasNotRisen}
use Rattle.sd_base.proofs.Arithmetic.{still_or_rose}
use Rattle.sd_ports.specs.Files.{Files}
use Rattle.sd_command_base.specs.declared.status.Status.{Status}
use Rattle.sd_command_base.specs.declared.status.Status.TheVariants.{Done, PrintFault, NoMemory}
use Rattle.sd_command_base.specs.Texts.{line_of_status}
use Rattle.sd_command_base.specs.Outside.{PageState, IoState}
use Rattle.sd_command_base.specs.Spec.{Spec, Readings, contents_of}
use Rattle.sd_command_base.specs.Work.{Work, files_marked, files_with, IsWithinSteps, TakesSteps}
use Rattle.sd_command_base.specs.Outcome.{PrintsAll}
use Rattle.sd_command_base.specs.Outcome.{Outcome, refused, ended, unclosed, exhausted, failed, unmarked, nowhere}
use Rattle.sd_command_base.specs.Outcome.{cut_off, cut_short}
use Rattle.sd_command_base.specs.Results.{RunResult, PrintsStatusLine, with_page}
use Rattle.sd_command_base.proofs.RunAnswers.{own_line, done_line, causes, told_given}
use Rattle.sd_law_run.specs.Headline.{IsUndisturbed}

-- work that was done
pub record IsWorked (work : Work) (files : Files) (a b : IoState) (answer : Status) : Type 0 where
  pub ends : answer ≡ work.ends
  pub left : b.place.files ≡ files_with work.out (files_marked work.mark (Some files))
  pub steps : IsWithinSteps work.steps a.steps b.steps
  pub printed : Appends a.page.printed b.page.printed (concat work.pieces ++ line_of_status answer)

same_work : (meant : Result Work Status) (work other : Work) → meant ≡ Ok work → meant ≡ Ok other → other ≡ work
same_work meant work other e f = let both = sym f ∙ e in cc

-- it came to its end
ended_with : (meant : Result Work Status) (work : Work) (files : Files) (a b : IoState) (status : Status) →
    meant ≡ Ok work → a.place.files ≡ Some files → HasNotRisen a.place.faults b.place.faults → status ≢ PrintFault →
    status ≢ NoMemory → Outcome meant a b status → (status ≡ work.ends)
    × (b.place.files ≡ files_with work.out (files_marked work.mark (Some files))) × PrintsAll work a.page b.page
ended_with meant work files a b status is told depot print memory (refused e r h k c m) =
    absurd (let both = sym e ∙ is in cc)
ended_with meant work files a b status is told depot print memory (ended other e s i h k c m) =
    let same : other ≡ work = same_work meant work other is e in (
      s ∙ ap (λ (w : Work). w.ends) same,
      h.files ∙ ap (λ (w : Work). files_with w.out (files_marked w.mark a.place.files)) same
          ∙ ap (λ (fs : Option Files). files_with work.out (files_marked work.mark fs)) told,
      subst (λ (w : Work). PrintsAll w a.page b.page) same k,
    )
ended_with meant work files a b status is told depot print memory (unclosed other e s i j t out f h k r o c m) =
    absurd (still_or_rose a.place.faults b.place.faults depot r)
ended_with meant work files a b status is told depot print memory (exhausted s h o c m) = absurd (memory s)
ended_with meant work files a b status is told depot print memory (failed s h r o c m) =
    absurd (still_or_rose a.place.faults b.place.faults depot r)
ended_with meant work files a b status is told depot print memory (unmarked other e mark marks s n h k c m) =
    absurd (let both = sym told ∙ n in cc)
ended_with meant work files a b status is told depot print memory (nowhere other e out f s n h k c m) =
    absurd (let both = sym told ∙ n in cc)
ended_with meant work files a b status is told depot print memory (cut_off other e s h k r c m) = absurd (print s)
ended_with meant work files a b status is told depot print memory (cut_short other e live s out f h k r m) =
    absurd (print s)

-- what is refused is answered so
ended_refused : (meant : Result Work Status) (due : Status) (files : Files) (a b : IoState) (status : Status) →
    meant ≡ Err due → a.place.files ≡ Some files → HasNotRisen a.place.faults b.place.faults → status ≢ PrintFault →
    status ≢ NoMemory → Outcome meant a b status → status ≡ due
ended_refused meant due files a b status is told depot print memory (refused e r h k c m) = let both = sym e ∙ is in cc
ended_refused meant due files a b status is told depot print memory (ended other e s i h k c m) =
    absurd (let both = sym e ∙ is in cc)
ended_refused meant due files a b status is told depot print memory (unclosed other e s i j t out f h k r o c m) =
    absurd (let both = sym e ∙ is in cc)
ended_refused meant due files a b status is told depot print memory (exhausted s h o c m) = absurd (memory s)
ended_refused meant due files a b status is told depot print memory (failed s h r o c m) =
    absurd (still_or_rose a.place.faults b.place.faults depot r)
ended_refused meant due files a b status is told depot print memory (unmarked other e mark marks s n h k c m) =
    absurd (let both = sym e ∙ is in cc)
ended_refused meant due files a b status is told depot print memory (nowhere other e out f s n h k c m) =
    absurd (let both = sym e ∙ is in cc)
ended_refused meant due files a b status is told depot print memory (cut_off other e s h k r c m) = absurd (print s)
ended_refused meant due files a b status is told depot print memory (cut_short other e live s out f h k r m) =
    absurd (print s)

steps_of : (meant : Result Work Status) (work : Work) (before now : ℕ) → meant ≡ Ok work →
    TakesSteps meant before now → IsWithinSteps work.steps before now
steps_of meant work before now is h = subst (λ (r : Result Work Status). TakesSteps r before now) is h

-- the line of the answer was printed, if printing didn't fail
line_said : (a b : PageState) (status answer : Status) → PrintsStatusLine a b status answer → answer ≢ PrintFault →
    Appends a.printed b.printed (line_of_status answer)
line_said a b status answer tells print =
    elim tells.says [
      | inl said ↦ subst (λ (s : Status). Appends a.printed b.printed (line_of_status s)) (sym said.0) said.1
      | inr cut ↦ absurd (print cut.0)
    ]

-- work that is done has no line
pub none_said : (a b : PageState) (answer : Status) → Appends a.printed b.printed (line_of_status answer) →
    answer ≡ Done →
    Appends a.printed b.printed []
none_said a b answer said is =
    subst (λ (l : List ℕ). Appends a.printed b.printed l) (ap line_of_status is ∙ done_line) said

-- a run does the work that is meant
pub runs_work : (meant : Readings → Spec Work) (work : Work) (files : Files) (a b : IoState) (answer : Status) →
    (meant (contents_of files)).result ≡ Ok work → a.place.files ≡ Some files → RunResult meant a b answer →
    IsUndisturbed a b answer → IsWorked work files a b answer
runs_work meant work files a b answer due told answers well =
    let print : answer ≢ PrintFault =
    λ e. absurd (still_or_rose a.page.faults b.page.faults well.print ((causes meant a b answer answers).print e)) in
    let own : answers.status ≡ answer =
    own_line answers.page b.page answers.status answer answers.told well.memory print in
    let given : answers.obeyed.given ≡ contents_of files =
    told_given a.place.files files answers.obeyed.given told answers.obeyed.is_given in
    let is : (meant answers.obeyed.given).result ≡ Ok work =
    ap (λ (g : Readings). (meant g).result) given ∙ due in
    let obeys = answers.obeyed.obeyed in
    let done = ended_with (meant answers.obeyed.given).result work files a (with_page b answers.page)
    answers.status is told well.depot (λ e. print (sym own ∙ e)) (λ e. well.memory (sym own ∙ e)) obeys.comes in
    record {
      ends = sym own ∙ done.0;
      left = done.1;
      steps = steps_of (meant answers.obeyed.given).result work a.steps b.steps is obeys.steps;
      printed = Appends-trans a.page.printed answers.page.printed b.page.printed (concat work.pieces)
          (line_of_status answer)
          done.2 (line_said answers.page b.page answers.status answer answers.told print);
    }

-- a run answers what is refused
pub runs_refused : (meant : Readings → Spec Work) (due : Status) (files : Files) (a b : IoState) (answer : Status) →
    (meant (contents_of files)).result ≡ Err due → a.place.files ≡ Some files → RunResult meant a b answer →
    IsUndisturbed a b answer → answer ≡ due
runs_refused meant due files a b answer refuses told answers well =
    let print : answer ≢ PrintFault =
    λ e. absurd (still_or_rose a.page.faults b.page.faults well.print ((causes meant a b answer answers).print e)) in
    let own : answers.status ≡ answer =
    own_line answers.page b.page answers.status answer answers.told well.memory print in
    let given : answers.obeyed.given ≡ contents_of files =
    told_given a.place.files files answers.obeyed.given told answers.obeyed.is_given in
    let is : (meant answers.obeyed.given).result ≡ Err due =
    ap (λ (g : Readings). (meant g).result) given ∙ refuses in
    sym own
    ∙ ended_refused (meant answers.obeyed.given).result due files a (with_page b answers.page) answers.status is told
    well.depot (λ e. print (sym own ∙ e)) (λ e. well.memory (sym own ∙ e)) answers.obeyed.obeyed.comes
