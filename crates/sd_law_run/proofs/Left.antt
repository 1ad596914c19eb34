-- What a run leaves in the files.
use Rattle.std.proofs.Common.{◌≡◌, ◌⊎◌, ℕ, List, [], Option, None, Some, Result, Ok, refl, ap, subst, ◌∙◌}
use Rattle.std.proofs.Common.{inl, inr, append-nil}
use Rattle.sd_base.specs.Count.{with_added}
use Rattle.sd_ports.specs.Files.{Files, with_bytes}
use Rattle.sd_ports.specs.Bytes.{IsPrefix}
use Rattle.sd_command_base.specs.declared.status.Status.{Status}
use Rattle.sd_command_base.specs.Outside.{DepotState, IoState}
use Rattle.sd_command_base.specs.Spec.{Readings, contents_of}
use Rattle.sd_command_base.specs.Work.{Mark, Out, Work, files_marked, made_marked, files_with, made_with}
use Rattle.sd_command_base.specs.Outcome.{IsNoOutMade, IsOutMade, IsOutMadeShort, marked_by}
use Rattle.sd_command_base.specs.Outcome.{Progress, untouched, marking, writing, telling, printing}
use Rattle.sd_command_base.specs.Outcome.{Outcome, refused, ended, unclosed, exhausted, failed, unmarked, nowhere}
use Rattle.sd_command_base.specs.Outcome.{cut_off, cut_short}
use Rattle.sd_command_base.specs.Results.{RunResult, with_page}
use Rattle.sd_command_base.proofs.RunAnswers.{told_given}
use Rattle.sd_law_run.specs.Left.{IsAsBefore, HasMark, HasOut, with_mark_file}
use Rattle.sd_law_run.proofs.AirOrders.{mark_new}
use Rattle.sd_run.specs.Meaning.{meaning}

-- the mark of the work that is meant was made, and nothing else
pub record MadeMark (meant : Result Work Status) (a b : DepotState) : Type 0 where
  pub work : Work
  pub is_meant : meant ≡ Ok work
  pub mark : Mark
  pub marks : work.mark ≡ Some mark
  pub left : b.files ≡ with_bytes a.files mark.name []
  pub made : b.made ≡ with_added a.made 1

-- OUT of the work that is meant was made, with a prefix of what it must hold, and before it the mark, if there is one
pub record MadeOut (meant : Result Work Status) (a b : DepotState) : Type 0 where
  pub work : Work
  pub is_meant : meant ≡ Ok work
  pub out : Out
  pub makes : work.out ≡ Some out
  pub prefix : List ℕ
  pub is_prefix : IsPrefix prefix out.bytes
  pub left : b.files ≡ with_bytes (files_marked work.mark a.files) out.name prefix
  pub made : b.made ≡ with_added (made_marked work.mark a.made) 1

abbrev pub IsLeft : Result Work Status → DepotState → DepotState → Type 0
IsLeft meant a b = IsNoOutMade a b ⊎ (MadeMark meant a b ⊎ MadeOut meant a b)

-- the mark is made, if there is one
mark_made : (meant : Result Work Status) (work : Work) (mark : Option Mark) (a b : DepotState) → meant ≡ Ok work →
    work.mark ≡ mark → b.files ≡ files_marked mark a.files → b.made ≡ made_marked mark a.made → IsLeft meant a b
mark_made meant work None a b is marks left count = inl (record { files = left; made = count })
mark_made meant work (Some mark) a b is marks left count = inr (inl (record {
  work = work;
  is_meant = is;
  mark = mark;
  marks = marks;
  left = left;
  made = count;
}))

none_more : (meant : Result Work Status) (work : Work) (a b : DepotState) → meant ≡ Ok work →
    IsNoOutMade (marked_by work.mark a) b → IsLeft meant a b
none_more meant work a b is un = mark_made meant work work.mark a b is refl un.files un.made

-- OUT has a prefix
short_made : (meant : Result Work Status) (work : Work) (out : Out) (a b : DepotState) → meant ≡ Ok work →
    work.out ≡ Some out → IsOutMadeShort out (marked_by work.mark a) b → IsLeft meant a b
short_made meant work out a b is makes short = inr (inr (record {
  work = work;
  is_meant = is;
  out = out;
  makes = makes;
  prefix = short.prefix;
  is_prefix = short.short;
  left = short.files;
  made = short.made;
}))

-- OUT is whole, if there is one
all_made : (meant : Result Work Status) (work : Work) (made : Option Out) (a b : DepotState) → meant ≡ Ok work →
    work.out ≡ made → b.files ≡ files_with made (files_marked work.mark a.files) →
    b.made ≡ made_with made (made_marked work.mark a.made) → IsLeft meant a b
all_made meant work None a b is makes left count = mark_made meant work work.mark a b is refl left count
all_made meant work (Some out) a b is makes left count = inr (inr (record {
  work = work;
  is_meant = is;
  out = out;
  makes = makes;
  prefix = out.bytes;
  is_prefix = ([], append-nil out.bytes);
  left = left;
  made = count;
}))

whole_made : (meant : Result Work Status) (work : Work) (a b : DepotState) → meant ≡ Ok work →
    IsOutMade work.out (marked_by work.mark a) b → IsLeft meant a b
whole_made meant work a b is made = all_made meant work work.out a b is refl made.files made.made

-- however far it came
stood : (meant : Result Work Status) (a b : IoState) → Progress meant a b → IsLeft meant a.place b.place
stood meant a b (untouched un k) = inl un
stood meant a b (marking work is un k) = none_more meant work a.place b.place is un
stood meant a b (writing work is out makes short k) = short_made meant work out a.place b.place is makes short
stood meant a b (telling work is live out makes short k) = short_made meant work out a.place b.place is makes short
stood meant a b (printing work is made k) = whole_made meant work a.place b.place is made

came : (meant : Result Work Status) (a b : IoState) (status : Status) → Outcome meant a b status →
    IsLeft meant a.place b.place
came meant a b status (refused e r un k c m) = inl un
came meant a b status (ended work is s i made k c m) = whole_made meant work a.place b.place is made
came meant a b status (unclosed work is s i j t out makes short k r o c m) =
    short_made meant work out a.place b.place is makes short
came meant a b status (exhausted s h o c m) = stood meant a b h
came meant a b status (failed s h r o c m) = stood meant a b h
came meant a b status (unmarked work is mark marks s n un k c m) = inl un
came meant a b status (nowhere work is out f s n un k c m) = none_more meant work a.place b.place is un
came meant a b status (cut_off work is s made k r c m) = whole_made meant work a.place b.place is made
came meant a b status (cut_short work is live s out makes short k r m) =
    short_made meant work out a.place b.place is makes short

-- by what the files gave
pub answers_leave : (words : List (List ℕ)) (a b : IoState) (answer : Status) →
    (answers : RunResult (meaning words) a b answer) →
    IsLeft (meaning words answers.obeyed.given).result a.place b.place
answers_leave words a b answer answers =
    came (meaning words answers.obeyed.given).result a (with_page b answers.page) answers.status
    answers.obeyed.obeyed.comes

-- the files that the model knows, once the mark is made
pub known_marked : (mark : Option Mark) (files : Files) → files_marked mark (Some files)
    ≡ Some (with_mark_file mark files)
known_marked None files = refl
known_marked (Some mark) files = refl

-- a run leaves all files as they were; or the mark, new and empty, beside them; or OUT with a prefix too
pub run_leaves : (words : List (List ℕ)) (files : Files) (a b : IoState) (answer : Status) →
    a.place.files ≡ Some files → RunResult (meaning words) a b answer →
    IsAsBefore files a.place b.place
    ⊎ (HasMark files (meaning words (contents_of files)).result a.place b.place
    ⊎ HasOut files (meaning words (contents_of files)).result a.place b.place)
run_leaves words files a b answer told answers =
    let given : answers.obeyed.given ≡ contents_of files =
    told_given a.place.files files answers.obeyed.given told answers.obeyed.is_given in
    let left : IsLeft (meaning words (contents_of files)).result a.place b.place =
    subst (λ (g : Readings). IsLeft (meaning words g).result a.place b.place) given
    (answers_leave words a b answer answers) in
    elim left [
      | inl un ↦ inl (record { left = un.files ∙ told; made = un.made })
      | inr (inl mark) ↦ inr (inl (record {
        work = mark.work;
        is_meant = mark.is_meant;
        mark = mark.mark;
        marks = mark.marks;
        new = mark_new words (contents_of files) mark.work mark.mark mark.is_meant mark.marks;
        left = mark.left ∙ ap (λ (fs : Option Files). with_bytes fs mark.mark.name []) told;
        made = mark.made;
      }))
      | inr (inr out) ↦ inr (inr (record {
        work = out.work;
        is_meant = out.is_meant;
        out = out.out;
        makes = out.makes;
        prefix = out.prefix;
        is_prefix = out.is_prefix;
        new = λ mark marks. mark_new words (contents_of files) out.work mark out.is_meant marks;
        left = out.left
            ∙ ap (λ (fs : Option Files). with_bytes fs out.out.name out.prefix)
            (ap (files_marked out.work.mark) told ∙ known_marked out.work.mark files);
        made = out.made;
      }))
    ]
