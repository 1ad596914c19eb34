-- What a run's answer says, once the line of the status is told.
use Rattle.std.proofs.Common.{◌≡◌, ◌≢◌, ◌⊎◌, ℕ, Option, Some, List, [], Result, Ok, Err, refl, sym, ap, subst, ◌∙◌, inl}
use Rattle.std.proofs.Common.{inr, arith}
use Rattle.std.proofs.KnownBytes.{Appends-nil}
use Rattle.std.specs.Io.KnownBytes.{Appends}
use Rattle.sd_base.specs.Count.{HasRisen, HasNotRisen as IsStill}
use Rattle.sd_base.proofs.Arithmetic.{still_or_rose}
use Rattle.sd_ports.specs.Files.{Files}
use Rattle.sd_command_base.specs.declared.status.Status.{Status}
use Rattle.sd_command_base.specs.declared.status.Status.TheVariants.{Done, Usage, Missing, DepotFault, PrintFault}
use Rattle.sd_command_base.specs.declared.status.Status.TheVariants.{NoMemory}
use Rattle.sd_command_base.specs.Texts.{line_of_status}
use Rattle.sd_command_base.specs.Outside.{PageState, IoState}
use Rattle.sd_command_base.specs.Spec.{Spec, Readings, contents_of, AreReadingsOfFiles}
use Rattle.sd_command_base.specs.Work.{Work}
use Rattle.sd_command_base.specs.Outcome.{IsRefusal, IsEnding, Outcome, refused, ended, unclosed, exhausted, failed}
use Rattle.sd_command_base.specs.Outcome.{unmarked, nowhere}
use Rattle.sd_command_base.specs.Outcome.{cut_off, cut_short, Implements}
use Rattle.sd_command_base.specs.Results.{IsLineInMemory, PrintsStatusLine, with_page, RunResult, HasAnswerCause}
use Rattle.sd_command_base.specs.Results.{IsMeant}
use Rattle.sd_command_base.specs.Results.{IsToldAs}

-- work that is done has no line, and so has a failed print
pub no_line : (page : PageState) (status : Status) → line_of_status status ≡ [] →
    PrintsStatusLine page page status status
no_line page status e = record {
  line = status;
  of = inl refl;
  says = inl (
    refl,
    subst (λ (text : List ℕ). Appends page.printed page.printed text) (sym e)
        (Appends-nil page.printed),
    refl,
  );
}

-- a command that was done, or whose print failed, has no line to tell
pub done_line : line_of_status Done ≡ []
unfolding line_of_status
done_line = refl

pub cut_line : line_of_status PrintFault ≡ []
unfolding line_of_status
cut_line = refl

-- a command whose status has no line answers it
pub lineless_answers : (meant : Readings → Spec Work) (a b : IoState) (status : Status) → line_of_status status ≡ [] →
    Implements meant a b status →
    RunResult meant a b status
lineless_answers meant a b status e h =
    record { status = status; page = b.page; obeyed = h; told = no_line b.page status e }

-- a line that was told is the status's own
pub own_line : (a b : PageState) (status answer : Status) (tells : PrintsStatusLine a b status answer) →
    answer ≢ NoMemory →
    answer ≢ PrintFault → status ≡ answer
own_line a b status answer tells memory print =
    elim tells.says [
      | inl said ↦ elim tells.of [
        | inl own ↦ sym (said.0 ∙ own)
        | inr other ↦ absurd (memory (said.0 ∙ other.1))
      ]
      | inr cut ↦ absurd (print cut.0)
    ]

-- print's count rose where an answer says so, and else stands
pub print_rose : (a b : PageState) (status answer : Status) → PrintsStatusLine a b status answer → answer ≡ PrintFault →
    (status ≡ PrintFault) ⊎ HasRisen a.faults b.faults
print_rose a b status answer tells e =
    elim tells.says [
      | inl said ↦ elim tells.of [
        | inl own ↦ inl (sym (said.0 ∙ own) ∙ e)
        | inr other ↦ absurd (let h = sym e ∙ said.0 ∙ other.1 in cc)
      ]
      | inr cut ↦ inr cut.2
    ]

rose_on : (a b c : ℕ) → (b ≡ a) ⊎ HasRisen a b → HasRisen b c → HasRisen a c
rose_on a b c (inl e) h = subst (λ (n : ℕ). HasRisen n c) e h
rose_on a b c (inr r) h = omega arith

-- the count of print is as before, or rose
page_later : (meant : Result Work Status) (a b : IoState) (status : Status) → Outcome meant a b status →
    (b.page.faults ≡ a.page.faults) ⊎ HasRisen a.page.faults b.page.faults
page_later meant a b status (refused e r h k c m) = inl c.print
page_later meant a b status (ended work e s i h k c m) = inl c.print
page_later meant a b status (unclosed work e s i j t out f h k r v c m) = inl c
page_later meant a b status (exhausted s h v c m) = inl c
page_later meant a b status (failed s h r v c m) = inl c
page_later meant a b status (unmarked work e mark f s n h k c m) = inl c.print
page_later meant a b status (nowhere work e out f s n h k c m) = inl c.print
page_later meant a b status (cut_off work e s h k r c m) = inr r
page_later meant a b status (cut_short work e l s out f h k r m) = inr r

-- it is as before where printing didn't fail
page_calm : (meant : Result Work Status) (a b : IoState) (status : Status) → Outcome meant a b status →
    status ≢ PrintFault → b.page.faults ≡ a.page.faults
page_calm meant a b status (refused e r h k c m) n = c.print
page_calm meant a b status (ended work e s i h k c m) n = c.print
page_calm meant a b status (unclosed work e s i j t out f h k r v c m) n = c
page_calm meant a b status (exhausted s h v c m) n = c
page_calm meant a b status (failed s h r v c m) n = c
page_calm meant a b status (unmarked work e mark f s v h k c m) n = c.print
page_calm meant a b status (nowhere work e out f s v h k c m) n = c.print
page_calm meant a b status (cut_off work e s h k r c m) n = absurd (n s)
page_calm meant a b status (cut_short work e l s out f h k r m) n = absurd (n s)

-- a print fault of the command itself
print_failed : (meant : Result Work Status) (a b : IoState) (status : Status) → Outcome meant a b status →
    status ≡ PrintFault → HasRisen a.page.faults b.page.faults
print_failed meant a b status (refused e r h k c m) is = absurd (subst IsRefusal is r)
print_failed meant a b status (ended work e s i h k c m) is = absurd (subst IsEnding is i)
print_failed meant a b status (unclosed work e s i j t out f h k r v c m) is = absurd (subst IsEnding is i)
print_failed meant a b status (exhausted s h v c m) is = absurd (let x = sym s ∙ is in cc)
print_failed meant a b status (failed s h r v c m) is = absurd (let x = sym s ∙ is in cc)
print_failed meant a b status (unmarked work e mark f s n h k c m) is = absurd (let x = sym s ∙ is in cc)
print_failed meant a b status (nowhere work e out f s n h k c m) is = absurd (let x = sym s ∙ is in cc)
print_failed meant a b status (cut_off work e s h k r c m) is = r
print_failed meant a b status (cut_short work e l s out f h k r m) is = r

depot_failed : (meant : Result Work Status) (a b : IoState) (status : Status) → Outcome meant a b status →
    status ≡ DepotFault → HasRisen a.place.faults b.place.faults
depot_failed meant a b status (refused e r h k c m) is = absurd (subst IsRefusal is r)
depot_failed meant a b status (ended work e s i h k c m) is = absurd (subst IsEnding is i)
depot_failed meant a b status (unclosed work e s i j t out f h k r v c m) is = absurd (subst IsEnding is i)
depot_failed meant a b status (exhausted s h v c m) is = absurd (let x = sym s ∙ is in cc)
depot_failed meant a b status (failed s h r v c m) is = r
depot_failed meant a b status (unmarked work e mark f s n h k c m) is = absurd (let x = sym s ∙ is in cc)
depot_failed meant a b status (nowhere work e out f s n h k c m) is = absurd (let x = sym s ∙ is in cc)
depot_failed meant a b status (cut_off work e s h k r c m) is = absurd (let x = sym s ∙ is in cc)
depot_failed meant a b status (cut_short work e l s out f h k r m) is = absurd (let x = sym s ∙ is in cc)

was_missing : (meant : Result Work Status) (a b : IoState) (status : Status) (word : ℕ) → Outcome meant a b status →
    status ≡ Missing word → HasRisen a.place.misses b.place.misses
was_missing meant a b status word (refused e r h k c m) is = m.missing word is
was_missing meant a b status word (ended work e s i h k c m) is = absurd (subst IsEnding is i)
was_missing meant a b status word (unclosed work e s i j t out f h k r v c m) is = absurd (subst IsEnding is i)
was_missing meant a b status word (exhausted s h v c m) is = absurd (let x = sym s ∙ is in cc)
was_missing meant a b status word (failed s h r v c m) is = absurd (let x = sym s ∙ is in cc)
was_missing meant a b status word (unmarked work e mark f s n h k c m) is = m
was_missing meant a b status word (nowhere work e out f s n h k c m) is = m
was_missing meant a b status word (cut_off work e s h k r c m) is = absurd (let x = sym s ∙ is in cc)
was_missing meant a b status word (cut_short work e l s out f h k r m) is = absurd (let x = sym s ∙ is in cc)

was_done : (meant : Result Work Status) (a b : IoState) (status : Status) → Outcome meant a b status → status ≡ Done →
    b.place.faults ≡ a.place.faults
was_done meant a b status (refused e r h k c m) is = absurd (subst IsRefusal is r)
was_done meant a b status (ended work e s i h k c m) is = c.depot
was_done meant a b status (unclosed work e s i j t out f h k r v c m) is = absurd (subst IsRefusal is j)
was_done meant a b status (exhausted s h v c m) is = absurd (let x = sym s ∙ is in cc)
was_done meant a b status (failed s h r v c m) is = absurd (let x = sym s ∙ is in cc)
was_done meant a b status (unmarked work e mark f s n h k c m) is = absurd (let x = sym s ∙ is in cc)
was_done meant a b status (nowhere work e out f s n h k c m) is = absurd (let x = sym s ∙ is in cc)
was_done meant a b status (cut_off work e s h k r c m) is = absurd (let x = sym s ∙ is in cc)
was_done meant a b status (cut_short work e l s out f h k r m) is = absurd (let x = sym s ∙ is in cc)

whole_line : (meant : Result Work Status) (a b : IoState) (status line answer : Status) → Outcome meant a b status →
    (line ≡ status) ⊎ (IsLineInMemory status × (line ≡ NoMemory)) → answer ≡ line → answer ≢ PrintFault → b.page.faults
    ≡ a.page.faults
whole_line meant a b status line answer comes (inl own) e n = page_calm meant a b status comes (λ is. n (e ∙ own ∙ is))
whole_line meant a b status line answer comes (inr other) e n =
    page_calm meant a b status comes (λ is. subst IsLineInMemory is other.0)

-- an answer has its cause
pub causes : (meant : Readings → Spec Work) (a b : IoState) (answer : Status) → RunResult meant a b answer →
    HasAnswerCause a b answer
causes meant a b answer h =
    let comes = h.obeyed.obeyed.comes in
    let status = h.status in
    let mid = with_page b h.page in
    let result = (meant h.obeyed.given).result in
    record {
      missing = λ word is.
          was_missing result a mid status word comes (own_line h.page b.page status answer h.told
          (λ e. let x = sym is ∙ e in cc) (λ e. let x = sym is ∙ e in cc) ∙ is);
      depot = λ is.
          depot_failed result a mid status comes (own_line h.page b.page status answer h.told
          (λ e. let x = sym is ∙ e in cc) (λ e. let x = sym is ∙ e in cc) ∙ is);
      print = λ is. elim h.told.says [
        | inl said ↦ elim (print_rose h.page b.page status answer h.told is) [
          | inl own ↦ subst (λ (n : ℕ). HasRisen a.page.faults n) (sym said.2)
              (print_failed result a mid status comes own)
          | inr rose ↦ rose_on a.page.faults h.page.faults b.page.faults (page_later result a mid status comes) rose
        ]
        | inr cut ↦ rose_on a.page.faults h.page.faults b.page.faults (page_later result a mid status comes) cut.2
      ];
      print_calm = λ n. elim h.told.says [
        | inl said ↦ said.2 ∙ whole_line result a mid status h.told.line answer comes h.told.of said.0 n
        | inr cut ↦ absurd (n cut.0)
      ];
      done = λ is.
          was_done result a mid status comes (own_line h.page b.page status answer h.told
          (λ e. let x = sym is ∙ e in cc) (λ e. let x = sym is ∙ e in cc) ∙ is);
    }

out_of_memory : (meant : Result Work Status) (answer : Status) → answer ≡ NoMemory → IsMeant meant answer
out_of_memory (Ok work) answer e = inr e
out_of_memory (Err status) answer e = inr e

-- the status of a command is the one that is meant where no device failed
own_meant : (meant : Result Work Status) (files : Files) (a b : IoState) (status answer : Status) → a.place.files
    ≡ Some files →
    IsStill a.place.faults b.place.faults → (HasRisen a.page.faults b.page.faults → ⊥) → Outcome meant a b status →
    answer ≡ status → IsMeant meant answer
own_meant meant files a b status answer told depot print (refused e r h k c m) is = subst
    (λ (r : Result Work Status). IsMeant r answer) (sym e) (inl is)
own_meant meant files a b status answer told depot print (ended work e s i h k c m) is = subst
    (λ (r : Result Work Status). IsMeant r answer) (sym e) (inl (is ∙ s))
own_meant meant files a b status answer told depot print (unclosed work e s i j t out f h k r v c m) is = absurd
    (still_or_rose _ _ depot r)
own_meant meant files a b status answer told depot print (exhausted s h v c m) is = out_of_memory meant answer (is ∙ s)
own_meant meant files a b status answer told depot print (failed s h r v c m) is = absurd (still_or_rose _ _ depot r)
own_meant meant files a b status answer told depot print (unmarked work e mark f s n h k c m) is = absurd
    (let x = sym told ∙ n in cc)
own_meant meant files a b status answer told depot print (nowhere work e out f s n h k c m) is = absurd
    (let x = sym told ∙ n in cc)
own_meant meant files a b status answer told depot print (cut_off work e s h k r c m) is = absurd (print r)
own_meant meant files a b status answer told depot print (cut_short work e l s out f h k r m) is = absurd (print r)

answered : (meant : Result Work Status) (files : Files) (a b : IoState) (page : PageState) (status answer : Status) →
    a.place.files ≡ Some files →
    IsStill a.place.faults b.place.faults → IsStill a.page.faults b.page.faults → Outcome meant a (with_page b page)
    status →
    PrintsStatusLine page b.page status answer → IsMeant meant answer
answered meant files a b page status answer told depot print comes tells =
    elim tells.says [
      | inl said ↦ elim tells.of [
        | inl own ↦ own_meant meant files a (with_page b page) status answer told depot
            (λ rose. still_or_rose _ _ print (subst (λ (n : ℕ). HasRisen a.page.faults n) (sym said.2) rose)) comes
            (said.0 ∙ own)
        | inr other ↦ out_of_memory meant answer (said.0 ∙ other.1)
      ]
      | inr cut ↦ absurd (still_or_rose _ _ print
          (rose_on a.page.faults page.faults b.page.faults (page_later meant a (with_page b page) status comes) cut.2))
    ]

pub told_given : (files : Option Files) (told : Files) (given : Readings) → files ≡ Some told →
    AreReadingsOfFiles files given →
    given ≡ contents_of told
told_given files told given e h = subst (λ (o : Option Files). AreReadingsOfFiles o given) e h

-- what is meant is answered where files are told and no device failed
pub completes : (meant : Readings → Spec Work) (files : Files) (a b : IoState) (answer : Status) →
    RunResult meant a b answer →
    a.place.files ≡ Some files → IsStill a.place.faults b.place.faults → IsStill a.page.faults b.page.faults →
    IsMeant (meant (contents_of files)).result answer
completes meant files a b answer h told depot print =
    subst (λ (given : Readings). IsMeant (meant given).result answer)
    (told_given a.place.files files h.obeyed.given told h.obeyed.is_given)
    (answered (meant h.obeyed.given).result files a b h.page h.status answer told depot print h.obeyed.obeyed.comes
    h.told)

refused_usage : (meant : Result Work Status) (a b : IoState) (status : Status) → Outcome meant a b status →
    status ≡ Usage → meant ≡ Err Usage
refused_usage meant a b status (refused e r h k c m) is = e ∙ ap Err is
refused_usage meant a b status (ended work e s i h k c m) is = absurd (subst IsEnding is i)
refused_usage meant a b status (unclosed work e s i j t out f h k r v c m) is = absurd (subst IsEnding is i)
refused_usage meant a b status (exhausted s h v c m) is = absurd (let x = sym s ∙ is in cc)
refused_usage meant a b status (failed s h r v c m) is = absurd (let x = sym s ∙ is in cc)
refused_usage meant a b status (unmarked work e mark f s n h k c m) is = absurd (let x = sym s ∙ is in cc)
refused_usage meant a b status (nowhere work e out f s n h k c m) is = absurd (let x = sym s ∙ is in cc)
refused_usage meant a b status (cut_off work e s h k r c m) is = absurd (let x = sym s ∙ is in cc)
refused_usage meant a b status (cut_short work e l s out f h k r m) is = absurd (let x = sym s ∙ is in cc)

-- what `Usage` is answered to is meant so
pub usage_meant : (meant : Readings → Spec Work) (a b : IoState) (answer : Status) → RunResult meant a b answer →
    answer ≡ Usage →
    (given : Readings) × ((meant given).result ≡ Err Usage)
usage_meant meant a b answer h is =
    let own = own_line h.page b.page h.status answer h.told (λ e. let x = sym is ∙ e in cc)
    (λ e. let x = sym is ∙ e in cc) ∙ is in (
      h.obeyed.given,
      refused_usage (meant h.obeyed.given).result a (with_page b h.page) h.status h.obeyed.obeyed.comes
          own,
    )

-- a status whose line is told
pub told_as : (a b : PageState) (status answer : Status) → PrintsStatusLine a b status answer → IsToldAs status answer
told_as a b status answer tells =
    elim tells.says [
      | inl said ↦ elim tells.of [
        | inl own ↦ inl (said.0 ∙ own)
        | inr other ↦ inr (inr (other.0, said.0 ∙ other.1))
      ]
      | inr cut ↦ inr (inl cut.0)
    ]
