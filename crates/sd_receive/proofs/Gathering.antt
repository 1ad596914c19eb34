-- Parts one after the other.
use Rattle.std.proofs.Common.{◌≡◌, inl, inr, ℕ, zero, suc, ◌+◌, ◌-◌, ◌^◌, ◌<◌, ◌≤◌, List, [], ◌∷◌, ◌++◌, length}
use Rattle.std.proofs.Common.{get_or, length-append, length-take, refl, sym, ap, subst, ◌∙◌, arith, true, false, Bool}
use Rattle.std.specs.Prelude.{All, Option, Some, None, flat_map, reverse, not, nat_le, nat_lt, if◌then◌else◌}
use Rattle.std.specs.List.{list_any}
use Rattle.std.proofs.lemmas.Grind.{flat_map-append}
use Rattle.std.proofs.lemmas.List.{reverse-append, append-nil, length-take-le, get_or_default, nil_from_length}
use Rattle.std.proofs.lemmas.List.Elements.{All-nil, All-cons, All-append, All-head, All-weaker}
use Rattle.std.proofs.lemmas.List.Folds.{list_any_none, list_any_at}
use Rattle.std.proofs.lemmas.Bool.{cases_lt, false≢true, lt-leb, le-leb, le-ltb, lt-ltb, or_parts, not-false}
use Rattle.std.proofs.lemmas.Bool.{false_from_ne_true, eq-eqb, ne_eqb}
use Rattle.sd_message.specs.EcmSpelled.{listed_places}
use Rattle.sd_message.specs.EcmForm.{IsPositioned, ArePidsAscending, IsEcm, ArePlaces}
use Rattle.sd_message.specs.EcmParts.{SaySame}
use Rattle.sd_message.specs.declared.ecm_part.Place.{Place}
use Rattle.sd_message.specs.declared.ecm_part.EcmPart.{EcmPart}
use Rattle.sd_message.specs.declared.ecm_fault.EcmFault.TheVariants.{Count, Order, Mixed}
use Rattle.sd_message.proofs.Versions.{few_positions, some_positions}
use Rattle.sd_spec.specs.Stretches.{message_parts_with}
use Rattle.sd_spec.specs.Offered.{same_header, is_after, part_fault}
use Rattle.sd_receive.specs.PartialEcm.{part_positions, newest_ecm_part, next_run, IsPart, IsNextPart, AreOfOneMessage}
use Rattle.sd_receive.specs.PartialEcm.{IsPartialEcm}
use Rattle.sd_receive.specs.PartialEcm.{IsGathered}
use Rattle.sd_receive.proofs.Pairs.{pairs_append, after_all}
use Rattle.sd_receive.proofs.Alike.{headers_told, all_same}

-- no position is a list that a message may have
pub no_places : ArePlaces []
no_places = record {
  few = omega arith;
  positioned = All-nil IsPositioned;
  ascending = λ i j d below within. absurd (omega arith);
  short = All-nil (λ place. place.position < 2 ^ 48);
}

-- no part
pub none_gathered : IsGathered [] None []
unfolding part_positions
none_gathered = record {
  part = refl;
  places = refl;
  good = record { form = All-nil IsPart; alike = tt; places = no_places };
}

-- the positions of one part more stand after those of the others
pub one_more : (part : EcmPart) (run : List EcmPart) → part_positions (part ∷ run) ≡ part_positions run
    ++ listed_places part
unfolding part_positions
one_more part run =
    ap (flat_map listed_places) (reverse-append (part ∷ []) run)
    ∙ (flat_map-append listed_places (reverse run) (part ∷ [])
    ∙ ap (λ (l : List Place). flat_map listed_places (reverse run) ++ l) (append-nil (listed_places part)))

-- they are as many, in whatever order the parts stand
pub as_many : (run : List EcmPart) → length (flat_map listed_places run) ≡ length (part_positions run)
unfolding part_positions
as_many [] = refl
as_many (part ∷ run) =
    let rest = as_many run in
    let more = ap (λ (l : List Place). length l) (one_more part run) in
    omega (
      arith,
      rest,
      more,
      length-append (listed_places part) (flat_map listed_places run),
      length-append (part_positions run) (listed_places part),
    )

-- a part has no more positions than a part may have
pub few : (part : EcmPart) → IsEcm part → part.count ≤ 13
few part form = omega (arith, form.counted.few, few_positions part.version)

-- nor does it list more
pub few_listed : (part : EcmPart) → IsEcm part → length (listed_places part) ≤ 13
few_listed part form = omega (arith, few part form, length-take part.count part.positions)

-- a part lists as many positions as it counts
pub long_as_counted : (part : EcmPart) → IsPart part → length (listed_places part) ≡ part.count
long_as_counted part is =
    length-take-le part.count part.positions (omega (arith, is.long, is.form.counted.few, few_positions part.version))

-- a part before another of its message lists some
pub lists_some : (before part : EcmPart) → IsPart before → IsEcm part → SaySame before part →
    before.part + 1 ≡ part.part → 0 < length (listed_places before)
lists_some before part is form same next =
    let last = same.1 in
    let long = long_as_counted before is in
    let most = some_positions before.version in
    elim is.form.counted.full [
      | inl e ↦ absurd (omega (arith, e, last, next, form.numbered))
      | inr e ↦ omega (arith, e, long, most)
    ]

-- the test of the order of two parts, by each two positions
pub in_order : (before part : EcmPart) → is_after part (before ∷ []) ≡ true →
    (i j : ℕ) (d : Place) → i < length (listed_places before) → j < length (listed_places part) →
    (get_or (listed_places before) i d).pid < (get_or (listed_places part) j d).pid
in_order before part after i j d within below =
    let old = λ (place : Place). list_any (λ (o : Place). nat_le place.pid o.pid) (listed_places before) in
    elim (cases_lt (get_or (listed_places before) i d).pid (get_or (listed_places part) j d).pid) [
      | inl h ↦ h
      | inr h ↦
          let here : old (get_or (listed_places part) j d) ≡ true =
          list_any_at (λ (o : Place). nat_le (get_or (listed_places part) j d).pid o.pid) (listed_places before) i d
          within (le-leb _ _ h) in
          let there : list_any old (listed_places part) ≡ true = list_any_at old (listed_places part) j d below here in
          absurd (false≢true (sym (ap not there) ∙ after))
    ]

-- the positions of a run with one part more
pub placed_more : (part : EcmPart) (run : List EcmPart) → IsPartialEcm run → IsPart part →
    length (part_positions run) + length (listed_places part) ≤ 256 →
    ((i j : ℕ) (d : Place) → i < length (part_positions run) → j < length (listed_places part) →
    (get_or (part_positions run) i d).pid < (get_or (listed_places part) j d).pid) →
    ArePlaces (part_positions (part ∷ run))
placed_more part run good is few cross =
    subst ArePlaces (sym (one_more part run)) (record {
      few = omega (arith, few, length-append (part_positions run) (listed_places part));
      positioned = All-append IsPositioned (part_positions run) (listed_places part) good.places.positioned
          is.form.places;
      ascending = pairs_append (λ (a b : Place).
          a.pid < b.pid) (part_positions run) (listed_places part) good.places.ascending is.form.ascending cross;
      short = All-append (λ (place : Place).
          place.position < 2 ^ 48) (part_positions run) (listed_places part) good.places.short is.form.positions;
    })

-- no list is below none
none_below : (part : EcmPart) (i j : ℕ) (d : Place) → i < length (part_positions []) → j < length (listed_places part) →
    (get_or (part_positions []) i d).pid < (get_or (listed_places part) j d).pid
unfolding part_positions
none_below part i j d within below = absurd (omega arith)

-- nothing is wrong where no test tells a fault
no_fault : (a b c : Bool) → (if a then Some Mixed else if b then Some Order else if c then Some Count else None) ≡
    None →
    (a ≡ false) × ((b ≡ false) × (c ≡ false))
no_fault true b c e = absurd cc
no_fault false true c e = absurd cc
no_fault false false true e = absurd cc
no_fault false false false e = (refl, (refl, refl))

-- a part before says otherwise
abbrev pub is_mixed_with : EcmPart → List EcmPart → Bool
is_mixed_with part run = list_any (λ (other : EcmPart). not (same_header other part)) run

-- what the tests of a part tell where nothing is wrong with it
pub told_good : (part before : EcmPart) (run : List EcmPart) → part_fault (part ∷ before ∷ run) ≡ None →
    (same_header before part ≡ true) × (is_after part (before ∷ []) ≡ true)
unfolding part_fault
told_good part before run none =
    let tests = no_fault (is_mixed_with part (before ∷ run)) (not (is_after part (before ∷ run)))
    (nat_lt 256 (length (flat_map listed_places (part ∷ before ∷ run)))) none in
    let first = or_parts (not (same_header before part)) (is_mixed_with part run) tests.0 in
    (not-false (same_header before part) first.0, not-false (is_after part (before ∷ run)) tests.1.0)

-- the tests of a part that goes on with a run
pub mixed : (part before : EcmPart) (run : List EcmPart) → newest_ecm_part run ≡ Some before →
    same_header before part ≡ false →
    part_fault (part ∷ run) ≡ Some Mixed
unfolding part_fault
mixed part before [] is other = absurd cc
mixed part before (newest ∷ run) is other =
    let e : newest ≡ before = cc in
    rw (e, other) refl

alike_not_mixed : (part : EcmPart) (run : List EcmPart) → All (λ other. SaySame other part) run →
    is_mixed_with part run ≡ false
alike_not_mixed part run same =
    list_any_none (λ (other : EcmPart). not (same_header other part)) run
    (λ k d within. ap not ((headers_told (get_or run k d) part).1 (same k d within)))

-- none before says otherwise where the newest doesn't
pub not_mixed : (part before : EcmPart) (run : List EcmPart) → newest_ecm_part run ≡ Some before → AreOfOneMessage run →
    SaySame before part → is_mixed_with part run ≡ false
not_mixed part before [] is alike same = refl
not_mixed part before (newest ∷ run) is alike same =
    let e : newest ≡ before = cc in
    let first : SaySame newest part = subst (λ (other : EcmPart). SaySame other part) (sym e) same in
    alike_not_mixed part (newest ∷ run) (All-cons (λ (other : EcmPart).
    SaySame other part) newest run first
    (All-weaker (λ (other : EcmPart). SaySame other newest)
    (λ (other : EcmPart). SaySame other part)
    (λ other h. all_same other newest part h first) run alike))

pub after_newest : (part before : EcmPart) (run : List EcmPart) → newest_ecm_part run ≡ Some before →
    is_after part run ≡ is_after part (before ∷ [])
after_newest part before [] is = absurd cc
after_newest part before (newest ∷ run) is = let e : newest ≡ before = cc in rw e refl

pub out_of_order : (part : EcmPart) (run : List EcmPart) → is_mixed_with part run ≡ false → is_after part run ≡ false →
    part_fault (part ∷ run) ≡ Some Order
unfolding part_fault
out_of_order part run same out = rw (same, out) refl

pub too_many : (part : EcmPart) (run : List EcmPart) → is_mixed_with part run ≡ false → is_after part run ≡ true →
    256 < length (part_positions run) + length (listed_places part) → part_fault (part ∷ run) ≡ Some Count
unfolding part_fault
too_many part run same after more =
    let many : nat_lt 256 (length (flat_map listed_places (part ∷ run))) ≡ true =
    lt-ltb 256 (length (flat_map listed_places (part ∷ run)))
    (omega (arith, more, length-append (listed_places part) (flat_map listed_places run), as_many run)) in
    rw (same, after, many) refl

pub none_wrong : (part : EcmPart) (run : List EcmPart) → is_mixed_with part run ≡ false → is_after part run ≡ true →
    length (part_positions run) + length (listed_places part) ≤ 256 → part_fault (part ∷ run) ≡ None
unfolding part_fault
none_wrong part run same after few =
    let not_many : nat_lt 256 (length (flat_map listed_places (part ∷ run))) ≡ false =
    le-ltb 256 (length (flat_map listed_places (part ∷ run)))
    (omega (arith, few, length-append (listed_places part) (flat_map listed_places run), as_many run)) in
    rw (same, after, not_many) refl

-- of ascending places none is above the last, and none below the first
below_last : (all : List Place) → ArePidsAscending all → (k : ℕ) (d : Place) → k < length all →
    (get_or all k d).pid ≤ (get_or all (length all - 1) d).pid
below_last all up k d within =
    elim (cases_lt k (length all - 1)) [
      | inl h ↦ let r = up k (length all - 1) d h (omega arith) in omega (arith, r)
      | inr h ↦ let e : k ≡ length all - 1 = omega arith in rw e (omega arith)
    ]

above_first : (all : List Place) → ArePidsAscending all → (k : ℕ) (d : Place) → k < length all →
    (get_or all 0 d).pid ≤ (get_or all k d).pid
above_first all up zero d within = omega arith
above_first all up (suc k) d within = let r = up 0 (suc k) d (omega arith) within in omega (arith, r)

-- the test of the order of two parts looks at the last place of the one and the first of the other
pub told_by_ends : (before part : EcmPart) (run : List EcmPart) (last first : Place) → IsEcm before → IsEcm part →
    0 < length (listed_places before) → 0 < length (listed_places part) →
    last ≡ get_or (listed_places before) (length (listed_places before) - 1) last →
    first ≡ get_or (listed_places part) 0 first → nat_lt last.pid first.pid ≡ is_after part (before ∷ run)
told_by_ends before part run last first old form some any is_last is_first =
    let under = λ (place : Place). list_any (λ (o : Place). nat_le place.pid o.pid) (listed_places before) in
    let at_end = λ (d : Place). get_or_default (listed_places before) (length (listed_places before) - 1) last d
    (omega arith) in
    let at_start = λ (d : Place). get_or_default (listed_places part) 0 first d any in
    elim (cases_lt last.pid first.pid) [
      | inl h ↦
          let apart : list_any under (listed_places part) ≡ false = list_any_none under (listed_places part) (
          λ k d within. list_any_none (λ (o : Place).
          nat_le (get_or (listed_places part) k d).pid o.pid) (listed_places before) (
          λ i e inside.
          let low = below_last (listed_places before) old.ascending i e inside in
          let high = above_first (listed_places part) form.ascending k d within in
          let is_low : last.pid ≡ (get_or (listed_places before) (length (listed_places before) - 1) e).pid =
          ap (λ (p : Place). p.pid) (is_last ∙ at_end e) in
          let is_high : first.pid ≡ (get_or (listed_places part) 0 d).pid =
          ap (λ (p : Place). p.pid) (is_first ∙ at_start d) in
          lt-leb (get_or (listed_places part) k d).pid (get_or (listed_places before) i e).pid
          (omega (arith, low, high, is_low, is_high, h)))) in
          lt-ltb last.pid first.pid h ∙ sym (ap not apart)
      | inr h ↦
          let is_low : last.pid ≡ (get_or (listed_places before) (length (listed_places before) - 1) last).pid =
          ap (λ (p : Place). p.pid) is_last in
          let is_high : first.pid ≡ (get_or (listed_places part) 0 first).pid = ap (λ (p : Place). p.pid) is_first in
          let here : under (get_or (listed_places part) 0 first) ≡ true =
          list_any_at (λ (o : Place). nat_le (get_or (listed_places part) 0 first).pid o.pid) (listed_places before)
          (length (listed_places before) - 1) last (omega arith)
          (le-leb (get_or (listed_places part) 0 first).pid
          (get_or (listed_places before) (length (listed_places before) - 1) last).pid
          (omega (arith, is_low, is_high, h))) in
          let there : list_any under (listed_places part) ≡ true =
          list_any_at under (listed_places part) 0 first any here in
          le-ltb last.pid first.pid h ∙ sym (ap not there)
    ]

pub tells_by_ends : (before part : EcmPart) (run : List EcmPart) (xs ys : List Place) (last first : Place) →
    IsEcm before →
    IsEcm part → xs ≡ listed_places before → ys ≡ listed_places part → 0 < length xs → 0 < length ys →
    last ≡ get_or xs (length xs - 1) last → first ≡ get_or ys 0 first →
    nat_lt last.pid first.pid ≡ is_after part (before ∷ run)
tells_by_ends before part run xs ys last first old form are these some any is_last is_first =
    told_by_ends before part run last first old form
    (subst (λ (l : List Place). 0 < length l) are some)
    (subst (λ (l : List Place). 0 < length l) these any)
    (subst (λ (l : List Place). last ≡ get_or l (length l - 1) last) are is_last)
    (subst (λ (l : List Place). first ≡ get_or l 0 first) these is_first)

-- and a part without a place is after any, and any after it
pub none_before : (before part : EcmPart) (run : List EcmPart) → length (listed_places before) ≡ 0 →
    is_after part (before ∷ run) ≡ true
none_before before part run none =
    let empty = nil_from_length (listed_places before) none in
    ap not (list_any_none (λ (place : Place). list_any (λ (o : Place). nat_le place.pid o.pid) (listed_places before))
    (listed_places part)
    (λ k d within. ap (λ (l : List Place).
    list_any (λ (o : Place). nat_le (get_or (listed_places part) k d).pid o.pid) l) empty))

pub none_in : (before part : EcmPart) (run : List EcmPart) → length (listed_places part) ≡ 0 →
    is_after part (before ∷ run) ≡ true
none_in before part run none =
    ap (λ (l : List Place). not (list_any (λ (place : Place). list_any (λ (o : Place). nat_le place.pid o.pid)
    (listed_places before)) l))
    (nil_from_length (listed_places part) none)

-- one good part more goes on with a good run
pub grows : (part : EcmPart) (run : List EcmPart) → IsPartialEcm run → IsPart part → IsNextPart run part →
    length (part_positions run) + length (listed_places part) ≤ 256 → part_fault (part ∷ run) ≡ None →
    IsPartialEcm (part ∷ run)
grows part [] good is next few none = record {
  form = All-cons IsPart part [] is (All-nil IsPart);
  alike = All-nil (λ (other : EcmPart). SaySame other part);
  places = placed_more part [] good is few (none_below part);
}
grows part (before ∷ run) good is next few none =
    let told = told_good part before run none in
    let same : SaySame before part = (headers_told before part).0 told.0 in
    let some = lists_some before part (All-head IsPart before run good.form) is.form same next in
    record {
      form = All-cons IsPart part (before ∷ run) is good.form;
      alike = All-cons (λ (other : EcmPart). SaySame other part) before run same
          (All-weaker (λ (other : EcmPart). SaySame other before)
          (λ (other : EcmPart). SaySame other part) (λ other h. all_same other before part h same) run good.alike);
      places = placed_more part (before ∷ run) good is few (
          λ i j d within below. subst (λ (all : List Place).
          (get_or all i d).pid < (get_or (listed_places part) j d).pid) (sym (one_more before run))
          (after_all (part_positions run) (listed_places before) (listed_places part)
          (subst ArePidsAscending (one_more before run) good.places.ascending) some (in_order before part told.1) i j d
          (subst (λ (all : List Place). i < length all) (one_more before run) within) below));
    }

-- the newest part is one of them, or there is none
pub newest_is_part : (run : List EcmPart) (before : EcmPart) → newest_ecm_part run ≡ Some before → All IsPart run →
    IsPart before
newest_is_part [] before is all = absurd cc
newest_is_part (newest ∷ run) before is all = let e : newest ≡ before =
    cc in subst IsPart e (All-head IsPart newest run all)

pub none_newest : (run : List EcmPart) → newest_ecm_part run ≡ None → run ≡ []
none_newest [] none = refl
none_newest (newest ∷ run) none = absurd cc

-- a part goes with the newest one, which is kept: nothing before says otherwise, and it stands after all
pub record GoesWith (before part : EcmPart) : Type 0 where
  pub same : SaySame before part
  pub after : IsEcm before → is_after part (before ∷ []) ≡ true

pub goes_with_newest : (part before : EcmPart) (run : List EcmPart) (all : List Place) →
    IsGathered run (Some before) all →
    GoesWith before part → (is_mixed_with part run ≡ false) × (is_after part run ≡ true)
goes_with_newest part before run all gathered goes = (
  not_mixed part before run (sym gathered.part) gathered.good.alike goes.same,
  after_newest part before run (sym gathered.part)
      ∙ goes.after (newest_is_part run before (sym gathered.part) gathered.good.form).form,
)

pub goes_with_none : (part : EcmPart) (run : List EcmPart) (all : List Place) → IsGathered run None all →
    (is_mixed_with part run ≡ false) × (is_after part run ≡ true)
goes_with_none part run all gathered =
    let e = none_newest run (sym gathered.part) in
    (ap (λ (r : List EcmPart). is_mixed_with part r) e, ap (λ (r : List EcmPart). is_after part r) e)

-- a part that says otherwise than the newest, or doesn't stand after it
pub is_mixed_part : (part before : EcmPart) (run : List EcmPart) (all : List Place) → IsGathered run (Some before) all →
    (SaySame before part → ⊥) → Some Mixed ≡ part_fault (part ∷ run)
is_mixed_part part before run all gathered other =
    sym (mixed part before run (sym gathered.part)
    (false_from_ne_true (same_header before part) (λ e. other ((headers_told before part).0 e))))

pub is_unordered_part : (part before : EcmPart) (run : List EcmPart) (all : List Place) →
    IsGathered run (Some before) all →
    SaySame before part → (IsEcm before → is_after part (before ∷ []) ≡ false) →
    Some Order ≡ part_fault (part ∷ run)
is_unordered_part part before run all gathered same out =
    sym (out_of_order part run (not_mixed part before run (sym gathered.part) gathered.good.alike same)
    (after_newest part before run (sym gathered.part)
    ∙ out (newest_is_part run before (sym gathered.part) gathered.good.form).form))

-- what is kept of a run with one good part more
pub gathers_more : (part : EcmPart) (run : List EcmPart) (kept : Option EcmPart) (all more : List Place) →
    IsGathered run kept all →
    IsPart part → IsNextPart run part → more ≡ all ++ listed_places part → length all + length (listed_places part)
    ≤ 256 →
    part_fault (part ∷ run) ≡ None → IsGathered (part ∷ run) (Some part) more
gathers_more part run kept all more gathered is next joined few none =
    let same = ap (λ (l : List Place). length l) gathered.places in
    record {
      part = refl;
      places = joined ∙ (ap (λ (l : List Place). l ++ listed_places part) gathered.places ∙ sym (one_more part run));
      good = grows part run gathered.good is next (omega (arith, few, same)) none;
    }

-- what a part with too many positions comes to, and one with not too many
pub too_many_part : (part : EcmPart) (run : List EcmPart) (kept : Option EcmPart) (all : List Place) →
    IsGathered run kept all →
    (is_mixed_with part run ≡ false) × (is_after part run ≡ true) → 256 < length all + length (listed_places part) →
    Some Count ≡ part_fault (part ∷ run)
too_many_part part run kept all gathered good more =
    let same = ap (λ (l : List Place). length l) gathered.places in
    sym (too_many part run good.0 good.1 (omega (arith, same, more)))

pub none_wrong_part : (part : EcmPart) (run : List EcmPart) (kept : Option EcmPart) (all : List Place) →
    IsGathered run kept all →
    (is_mixed_with part run ≡ false) × (is_after part run ≡ true) → length all + length (listed_places part) ≤ 256 →
    None ≡ part_fault (part ∷ run)
none_wrong_part part run kept all gathered good few =
    let same = ap (λ (l : List Place). length l) gathered.places in
    sym (none_wrong part run good.0 good.1 (omega (arith, same, few)))

-- a part that begins a message, goes on with its parts, or ends them
pub begins : (part : EcmPart) (run : List EcmPart) → part.part ≡ 0 → next_run run part ≡ part ∷ []
unfolding next_run
begins part run first = rw (eq-eqb part.part 0 first) refl

-- nothing is wrong with a part that begins a message
pub begun : (part : EcmPart) (run : List EcmPart) (kept : Option EcmPart) (all : List Place) → part.part ≡ 0 →
    IsEcm part → (part_fault (part ∷ []) ≡ None → IsGathered (part ∷ []) kept all) →
    (part_fault (next_run run part) ≡ None) × IsGathered (next_run run part) kept all
unfolding part_positions
begun part run kept all first form gathered =
    let good = none_wrong part [] refl refl (omega (arith, few_listed part form)) in
    subst (λ (more : List EcmPart). (part_fault more ≡ None) × IsGathered more kept all)
    (sym (begins part run first)) (good, gathered good)

pub goes_on : (part : EcmPart) (run more : List EcmPart) → (part.part ≡ 0 → ⊥) → message_parts_with part run ≡ more →
    next_run run part ≡ more
unfolding next_run
goes_on part run more later is = rw (ne_eqb part.part 0 later) is

pub ends_run : (part : EcmPart) (run : List EcmPart) (kept : Option EcmPart) (all : List Place) →
    next_run run part ≡ [] →
    IsGathered [] kept all → (part_fault (next_run run part) ≡ None) × IsGathered (next_run run part) kept all
unfolding part_fault
ends_run part run kept all none gathered =
    (ap part_fault none, subst (λ (more : List EcmPart). IsGathered more kept all) (sym none) gathered)
