use Rattle.std.proofs.Common.{ℕ, List, Bool, true, false, take, drop, replicate, ◌≡◌, ◌+◌, ◌-◌, ◌*◌, ◌^◌, ◌<◌, length}
use Rattle.std.proofs.Common.{inl, inr, refl, sym, ap, subst, ◌∙◌, arith, length-append, length-drop}
use Rattle.std.specs.Prelude.{All}
use Rattle.std.proofs.lemmas.Bool.{eqb-true, eqb-false}
use Rattle.std.proofs.lemmas.List.{length-take-le, length-replicate}
use Rattle.sd_tree_keys.specs.SetNames.{IsOfHeight}
use Rattle.sd_tree_keys.specs.declared.set.SetName.TheVariants.{Whole}
use Rattle.sd_cover_tracing.specs.Search.{opens_some, right_from, IsLastOpen}
use Rattle.sd_cover_tracing.proofs.Narrowed.{cuts_few}
use Rattle.sd_cover_tracing.proofs.Searches.{few_probes}
use Rattle.sd_cover_tracing.proofs.Opening.{first_probe, tells_none, tells_last}
use Rattle.sd_cover_tracing.proofs.tracing.find.Goals.{then-not-opened-via-then-not-opened}
use Rattle.sd_cover_tracing.proofs.tracing.find.Goals.{then-not-opened-via-else-not-opened+then-is_empty}
use Rattle.sd_cover_tracing.proofs.tracing.find.Goals as goal

pub returns-then-not-opened-clause-told : goal.returns-then-not-opened-clause-told
returns-then-not-opened-clause-told g c coalition told =
    let sets = c.args.sets.now in
    let right : List Bool = take (length c.args.marks.now - length sets) (drop (length sets) c.args.marks.now) in
    let is = first_probe c.args.h coalition sets c.args.marks.now c.probe-opened.result c.requires.marks
    (c.probe-opened.ensures.answer coalition told ∙ ap (λ (d : ℕ). opens_some d coalition sets right) c.requires.height)
    in
    elim c.then-not-opened.branch [
      | then-not-opened-via-then-not-opened w ↦ tells_none c.args.h coalition sets c.probe-opened.result is
          (inl w.if-not-opened.true)
      | then-not-opened-via-else-not-opened+then-is_empty w ↦ tells_none c.args.h coalition sets c.probe-opened.result
          is (inr (eqb-true _ _ (sym w.is_empty.ensures ∙ w.if-is_empty.true)))
    ]

pub returns-clause-told : goal.returns-clause-told
returns-clause-told g c coalition told =
    let sets = c.args.sets.now in
    let right : List Bool = take (length c.args.marks.now - length sets) (drop (length sets) c.args.marks.now) in
    let is = first_probe c.args.h coalition sets c.args.marks.now c.probe-opened.result c.requires.marks
    (c.probe-opened.ensures.answer coalition told ∙ ap (λ (d : ℕ). opens_some d coalition sets right) c.requires.height)
    in
    tells_last c.args.h coalition sets c.last_open-place.result.0 c.last_open-place.result.1 _
    (sym is ∙ c.if-not-opened.false)
    (λ z at. c.last_open-place.ensures.told coalition z (c.probe-opened.ensures.coalition ∙ told)
    (subst (λ (d : ℕ). IsLastOpen d coalition sets z) (sym (c.probe-opened.ensures.height ∙ c.requires.height)) at))
    (c.narrow-leaf.ensures.told coalition c.args.h
    (c.last_open-place.ensures.coalition ∙ (c.probe-opened.ensures.coalition ∙ told))
    (cuts_few c.args.h _ (c.requires.names c.last_open-place.result.0 Whole c.last_open-place.ensures.within)))
    refl

pub overflow_add-result : goal.overflow_add-result
overflow_add-result g c =
    let turns = few_probes c.last_open-place.result.1 (length c.args.sets.now) c.requires.few
    c.last_open-place.ensures.turns in
    omega (arith, turns)

pub overflow_add-result-2 : goal.overflow_add-result-2
overflow_add-result-2 g c =
    let turns = few_probes c.last_open-place.result.1 (length c.args.sets.now) c.requires.few
    c.last_open-place.ensures.turns in
    omega (arith, turns, c.narrow-leaf.ensures.few)

-- twice as many marks as sets
marks_long : (marks : List Bool) (n : ℕ) → marks ≡ right_from n n → length marks ≡ n + n
marks_long marks n is = ap length is ∙ (length-append (replicate n false) (replicate n true)
    ∙ rw (length-replicate n false, length-replicate n true) refl)

pub slice_bounds-probe-count : goal.slice_bounds-probe-count
slice_bounds-probe-count g c =
    let long = marks_long c.args.marks.now (length c.args.sets.now) c.requires.marks in omega (arith, long)

pub probe-opened-requires-clause-lengths : goal.probe-opened-requires-clause-lengths
probe-opened-requires-clause-lengths g c =
    let n : ℕ = length c.args.sets.now in
    let marks : List Bool = c.args.marks.now in
    let long = marks_long marks n c.requires.marks in
    let rest = length-drop n marks in
    let taken = length-take-le (length marks - n) (drop n marks) (omega (arith, rest)) in
    omega (arith, long, taken)

pub probe-opened-requires-clause-names : goal.probe-opened-requires-clause-names
probe-opened-requires-clause-names g c =
    subst (λ (d : ℕ). All (IsOfHeight d) c.args.sets.now) (sym c.requires.height) c.requires.names

pub returns-then-not-opened-clause-later : goal.returns-then-not-opened-clause-later
returns-then-not-opened-clause-later g c = omega (arith, c.probe-opened.ensures.asked)

pub last_open-place-requires-clause-some : goal.last_open-place-requires-clause-some
last_open-place-requires-clause-some g c =
    let some = eqb-false _ _ (sym c.is_empty.ensures ∙ c.if-is_empty.false) in omega (arith, some)

pub last_open-place-requires-clause-names : goal.last_open-place-requires-clause-names
last_open-place-requires-clause-names g c =
    subst (λ (d : ℕ). All (IsOfHeight d) c.args.sets.now) (sym (c.probe-opened.ensures.height ∙ c.requires.height))
    c.requires.names

pub last_open-place-requires-clause-room : goal.last_open-place-requires-clause-room
last_open-place-requires-clause-room g c = omega (arith, c.requires.room, c.probe-opened.ensures.asked)

pub narrow-leaf-requires-clause-name : goal.narrow-leaf-requires-clause-name
narrow-leaf-requires-clause-name g c =
    c.requires.names c.last_open-place.result.0 Whole c.last_open-place.ensures.within

pub narrow-leaf-requires-clause-height : goal.narrow-leaf-requires-clause-height
narrow-leaf-requires-clause-height g c =
    c.last_open-place.ensures.height ∙ (c.probe-opened.ensures.height ∙ c.requires.height)

pub narrow-leaf-requires-clause-room : goal.narrow-leaf-requires-clause-room
narrow-leaf-requires-clause-room g c =
    let turns = few_probes c.last_open-place.result.1 (length c.args.sets.now) c.requires.few
    c.last_open-place.ensures.turns in
    let cuts = cuts_few c.args.h _ (c.requires.names c.last_open-place.result.0 Whole c.last_open-place.ensures.within)
    in
    omega (arith, turns, cuts, c.requires.room, c.probe-opened.ensures.asked, c.last_open-place.ensures.asked)

pub returns-clause-value : goal.returns-clause-value
returns-clause-value g c =
    let sets = c.args.sets.now in
    let turns : ℕ = c.last_open-place.result.1 in
    let splits : ℕ = c.narrow-leaf.result.1 in
    let cuts = cuts_few c.args.h _ (c.requires.names c.last_open-place.result.0 Whole c.last_open-place.ensures.within)
    in
    let same : turns ≡ 1 + turns + splits - splits - 1 = omega arith in (
      record {
        place = c.last_open-place.result.0;
        within = c.last_open-place.ensures.within;
        leaf = c.narrow-leaf.ensures.leaf;
        member = c.narrow-leaf.ensures.member;
        splits = omega (arith, cuts, c.narrow-leaf.ensures.cuts);
        trials = omega arith;
        turns = subst (λ (t : ℕ). 2 ^ t < 2 * length sets) same c.last_open-place.ensures.turns;
      },
      omega (
        arith,
        c.narrow-leaf.ensures.asked,
        c.last_open-place.ensures.asked,
        c.probe-opened.ensures.asked,
      ),
    )

pub returns-clause-height : goal.returns-clause-height
returns-clause-height g c =
    c.narrow-leaf.ensures.height ∙ (c.last_open-place.ensures.height ∙ c.probe-opened.ensures.height)

pub returns-clause-coalition : goal.returns-clause-coalition
returns-clause-coalition g c =
    c.narrow-leaf.ensures.coalition ∙ (c.last_open-place.ensures.coalition ∙ c.probe-opened.ensures.coalition)

pub returns-clause-later : goal.returns-clause-later
returns-clause-later g c =
    omega (
      arith,
      c.narrow-leaf.ensures.asked,
      c.last_open-place.ensures.asked,
      c.probe-opened.ensures.asked,
    )
