-- A site is used once.
use Rattle.std.proofs.Common.{◌≡◌, ◌≢◌, ◌⊎◌, List, [], Option, Some, None, Ok, refl, sym, ap, subst, ◌∙◌}
use Rattle.std.proofs.Common.{inl, inr, IsSome}
use Rattle.std.specs.FinMap.{get, insert}
use Rattle.std.specs.Option.{option_and_then}
use Rattle.std.proofs.lemmas.Option.{same_Some}
use Rattle.sd_base.specs.Types.{Bytes, FileName}
use Rattle.sd_ports.specs.Files.{Files}
use Rattle.sd_command_base.specs.declared.status.Status.{Status}
use Rattle.sd_command_base.specs.declared.status.Status.TheVariants.{Done}
use Rattle.sd_command_base.specs.Outcome.{IsNoOutMade}
use Rattle.sd_command_base.specs.Outside.{IoState}
use Rattle.sd_command_base.specs.Results.{RunResult}
use Rattle.sd_command_base.specs.Spec.{contents_of}
use Rattle.sd_command_base.specs.Work.{Mark, Work}
use Rattle.sd_run.specs.Meaning.{meaning}
use Rattle.sd_law_run.specs.Aired.{LeavesOutFile}
use Rattle.sd_law_run.specs.Headline.{file_in}
use Rattle.sd_law_run.specs.Left.{HasMark, HasOut, with_mark_file}
use Rattle.sd_law_run.specs.Outcome.{used_by}
use Rattle.sd_law_run.proofs.AirOrders.{air_work, mark_is, out_apart, used_words}
use Rattle.sd_law_run.proofs.Left.{run_leaves}
use Rattle.sd_law_run.proofs.Outs.{done_leaves, out_is}
use Rattle.sd_law_run.proofs.Parts.{of_told}
use Rattle.sd_law_run.proofs.Shelf.{made_there, others_stay}

-- if the mark is there, the arguments mean no work
none_meant : (words : List Bytes) (files : Files) (mark : FileName) (work : Work) → used_by words ≡ Some mark →
    IsSome (get files mark) → (meaning words (contents_of files)).result ≡ Ok work → ⊥
none_meant words files mark work used there is =
    let (are, at) = used_words words mark used in
    let new = (air_work words are (contents_of files) work is).found.new in
    let none : get files mark ≡ None = ap (get files) at ∙ new in
    let some : IsSome {T = Bytes} None = subst IsSome none there in
    cc

-- so nothing is made
pub used_refused : (words : List Bytes) (files : Files) (mark : FileName) (a b : IoState) (answer : Status) →
    a.place.files ≡ Some files → RunResult (meaning words) a b answer → used_by words ≡ Some mark →
    IsSome (get files mark) → IsNoOutMade a.place b.place × (answer ≢ Done)
used_refused words files mark a b answer told answers used there = (
  elim (run_leaves words files a b answer told answers) [
    | inl before ↦ record { files = before.left ∙ sym told; made = before.made }
    | inr (inl has) ↦ absurd (none_meant words files mark has.work used there has.is_meant)
    | inr (inr has) ↦ absurd (none_meant words files mark has.work used there has.is_meant)
  ],
  λ is.
      let done = done_leaves (meaning words) files a b answer told is answers in
      none_meant words files mark done.work used there done.is_meant,
)

-- a mark that was made is that of the arguments
same_mark : (words : List Bytes) (files : Files) (mark : FileName) (work : Work) (made : Mark) →
    used_by words ≡ Some mark → (meaning words (contents_of files)).result ≡ Ok work → work.mark ≡ Some made →
    made.name ≡ mark
same_mark words files mark work made used is marks =
    same_Some made.name mark (sym (mark_is words (contents_of files) work made is marks) ∙ used)

-- after the mark alone was made, it is there
mark_stands : (words : List Bytes) (files : Files) (mark : FileName) (a b : IoState) → used_by words ≡ Some mark →
    (has : HasMark files (meaning words (contents_of files)).result a.place b.place) → file_in b mark ≡ Some []
mark_stands words files mark a b used has =
    ap (file_in b) (sym (same_mark words files mark has.work has.mark used has.is_meant has.marks))
    ∙ (of_told b (insert files has.mark.name []) has.mark.name has.left ∙ made_there files has.mark.name [])

-- the work of `air` has the mark of the arguments
own_mark : (words : List Bytes) (files : Files) (mark : FileName) (work : Work) → used_by words ≡ Some mark →
    (meaning words (contents_of files)).result ≡ Ok work →
    (work.mark ≡ Some (record { word = 1; name = mark })) × (get files mark ≡ None)
own_mark words files mark work used is =
    let (are, at) = used_words words mark used in
    let found = (air_work words are (contents_of files) work is).found in (
      ap (λ (w : Work). w.mark) found.is_work ∙ ap (λ (n : FileName). Some (record { word = 1; name = n })) (sym at),
      ap (get files) at ∙ found.new,
    )

-- and so it is there after OUT was made
mark_first : (words : List Bytes) (files : Files) (mark : FileName) (a b : IoState) → used_by words ≡ Some mark →
    (has : HasOut files (meaning words (contents_of files)).result a.place b.place) → file_in b mark ≡ Some []
mark_first words files mark a b used has =
    let own = own_mark words files mark has.work used has.is_meant in
    let apart = out_apart words (contents_of files) has.work mark has.out.name has.is_meant used
    (out_is words (contents_of files) has.work has.out has.is_meant has.makes) in
    of_told b (insert (with_mark_file has.work.mark files) has.out.name has.prefix) mark has.left
    ∙ (others_stay (with_mark_file has.work.mark files) has.out.name has.prefix mark (λ e. apart (sym e))
    ∙ (ap (λ (m : Option Mark). get (with_mark_file m files) mark) own.0 ∙ made_there files mark []))

-- if OUT has changed, the mark is there
pub changed_marked : (words : List Bytes) (files : Files) (mark out : FileName) (a b : IoState) (answer : Status) →
    a.place.files ≡ Some files → RunResult (meaning words) a b answer → used_by words ≡ Some mark →
    file_in b out ≢ get files out → file_in b mark ≡ Some []
changed_marked words files mark out a b answer told answers used changed =
    elim (run_leaves words files a b answer told answers) [
      | inl before ↦ absurd (changed (of_told b files out before.left))
      | inr (inl has) ↦ mark_stands words files mark a b used has
      | inr (inr has) ↦ mark_first words files mark a b used has
    ]

-- the mark is as it was, or new and empty
pub mark_left : (words : List Bytes) (files : Files) (mark : FileName) (a b : IoState) (answer : Status) →
    a.place.files ≡ Some files → RunResult (meaning words) a b answer → used_by words ≡ Some mark →
    (file_in b mark ≡ get files mark) ⊎ ((get files mark ≡ None) × (file_in b mark ≡ Some []))
mark_left words files mark a b answer told answers used =
    elim (run_leaves words files a b answer told answers) [
      | inl before ↦ inl (of_told b files mark before.left)
      | inr (inl has) ↦ inr (
        (own_mark words files mark has.work used has.is_meant).1,
        mark_stands words files mark a b used has,
      )
      | inr (inr has) ↦ inr (
        (own_mark words files mark has.work used has.is_meant).1,
        mark_first words files mark a b used has,
      )
    ]

-- where all files are as they were, OUT is
unmade_leaves : (words : List Bytes) (a b : IoState) → b.place.files ≡ a.place.files → LeavesOutFile words a b
unmade_leaves words a b same out named =
    ap (λ (o : Option Files). option_and_then (λ (fs : Files). get fs out) o) same

-- of two runs with one mark not both change their OUT
pub sent_once : (first second : List Bytes) (mark : FileName) (files later : Files) (a b c d : IoState)
    (one two : Status) → used_by first ≡ Some mark → used_by second ≡ Some mark → a.place.files ≡ Some files →
    c.place.files ≡ Some later → get later mark ≡ file_in b mark → RunResult (meaning first) a b one →
    RunResult (meaning second) c d two → LeavesOutFile first a b ⊎ LeavesOutFile second c d
sent_once first second mark files later a b c d one two used again told known same ran then =
    elim (run_leaves first files a b one told ran) [
      | inl before ↦ inl (unmade_leaves first a b (before.left ∙ sym told))
      | inr (inl has) ↦ inl (λ out named.
          let apart = out_apart first (contents_of files) has.work has.mark.name out has.is_meant
          (mark_is first (contents_of files) has.work has.mark has.is_meant has.marks) named in
          of_told b (insert files has.mark.name []) out has.left
          ∙ (others_stay files has.mark.name [] out apart ∙ sym (of_told a files out told)))
      | inr (inr has) ↦
          let there : IsSome (get later mark) =
          subst IsSome (sym (same ∙ mark_first first files mark a b used has)) refl in
          let none = used_refused second later mark c d two known then again there in
          inr (unmade_leaves second c d none.0.files)
    ]
