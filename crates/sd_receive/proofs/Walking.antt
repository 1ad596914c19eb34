-- A walk over the positions of a message that met those of the one before it in turn.
use Rattle.std.proofs.Common.{◌≡◌, inl, inr, ℕ, zero, suc, ◌+◌, ◌<◌, ◌≤◌, List, [], ◌∷◌, length, take, get_or, refl}
use Rattle.std.proofs.Common.{sym, ap, subst, ◌∙◌, true, false, Bool, arith}
use Rattle.std.specs.Prelude.{Some, None, option_map, find, nat_lt, ◌==◌}
use Rattle.std.specs.List.{list_any}
use Rattle.std.specs.Option.{option_map_or}
use Rattle.std.proofs.lemmas.Bool.{cases_lt, eq-eqb, ne_eqb, le-ltb, lt-ltb}
use Rattle.std.proofs.lemmas.List.{take_all, get_or_default}
use Rattle.std.proofs.lemmas.List.Folds.{list_any_at, list_any_more}
use Rattle.sd_message.specs.EcmForm.{ArePidsAscending}
use Rattle.sd_message.specs.declared.ecm_part.Place.{Place}
use Rattle.sd_spec.specs.Confirmed.{position_in}

-- the place's PID has no position among these, or a lower one
abbrev pub lacks : List Place → Place → Bool
lacks coming place = option_map_or (λ position. nat_lt position place.position) (position_in coming place.pid) true

-- So far: none of the places that were met lacks, and the next was not seen.
pub record IsWalked (coming places : List Place) (met seen : ℕ) : Type 0 where
  pub kept : list_any (lacks coming) (take met places) ≡ false
  pub next : met < length places → (k : ℕ) (d : Place) → k < seen →
      (get_or coming k d).pid ≡ (get_or places met d).pid → ⊥

-- the first of those that pass a test
find_first : (test : Place → Bool) (all : List Place) (i : ℕ) (d : Place) → i < length all →
    test (get_or all i d) ≡ true →
    ((k : ℕ) → k < i → test (get_or all k d) ≡ false) → find test all ≡ Some (get_or all i d)
find_first test [] i d within here before = absurd (omega arith)
find_first test (x ∷ all) zero d within here before = rw here refl
find_first test (x ∷ all) (suc i) d within here before =
    rw (before 0 (omega arith)) (find_first test all i d (omega arith) here (λ k below. before (suc k) (omega arith)))

find_none : (test : Place → Bool) (all : List Place) → ((k : ℕ) (d : Place) → k < length all →
    test (get_or all k d) ≡ false) →
    find test all ≡ None
find_none test [] none = refl
find_none test (x ∷ all) none =
    rw (none 0 x (omega arith)) (find_none test all (λ k d within. none (suc k) d (omega arith)))

-- where a PID is first seen its position is that of the place there
position_there : (coming : List Place) (pid i : ℕ) (d : Place) → i < length coming → (get_or coming i d).pid ≡ pid →
    ((k : ℕ) → k < i → (get_or coming k d).pid ≡ pid → ⊥) → position_in coming pid ≡ Some (get_or coming i d).position
unfolding position_in
position_there coming pid i d within same before =
    ap (option_map (λ (p : Place). p.position))
    (find_first (λ (p : Place). p.pid == pid) coming i d within (eq-eqb (get_or coming i d).pid pid same)
    (λ k below. ne_eqb (get_or coming k d).pid pid (before k below)))

position_nowhere : (coming : List Place) (pid : ℕ) → ((k : ℕ) (d : Place) → k < length coming →
    (get_or coming k d).pid ≡ pid → ⊥) →
    position_in coming pid ≡ None
unfolding position_in
position_nowhere coming pid none =
    ap (option_map (λ (p : Place). p.position))
    (find_none (λ (p : Place). p.pid == pid) coming (λ k d within. ne_eqb (get_or coming k d).pid pid
    (none k d within)))

-- a place that was met lacks where its position is lower now
lacks_there : (coming : List Place) (place : Place) (position : ℕ) → position_in coming place.pid ≡ Some position →
    lacks coming place ≡ nat_lt position place.position
lacks_there coming place position is = rw is refl

pub lower : (coming places : List Place) (met i : ℕ) (d : Place) → IsWalked coming places met i → met < length places →
    i < length coming → (get_or coming i d).pid ≡ (get_or places met d).pid →
    (get_or coming i d).position < (get_or places met d).position → true ≡ list_any (lacks coming) places
lower coming places met i d walked some within same below =
    let is = position_there coming (get_or places met d).pid i d within same (λ k before. walked.next some k d before)
    in
    let here : lacks coming (get_or places met d) ≡ true =
    lacks_there coming (get_or places met d) (get_or coming i d).position is
    ∙ lt-ltb (get_or coming i d).position (get_or places met d).position below in
    sym (list_any_at (lacks coming) places met d some here)

-- one place more was seen, which is the next that is to be met
pub met_more : (coming places : List Place) (met i : ℕ) (d : Place) → ArePidsAscending coming →
    ArePidsAscending places →
    IsWalked coming places met i → met < length places → i < length coming →
    (get_or coming i d).pid ≡ (get_or places met d).pid → (get_or places met d).position ≤
    (get_or coming i d).position →
    IsWalked coming places (met + 1) (i + 1)
met_more coming places met i d up rises walked some within same high =
    let is = position_there coming (get_or places met d).pid i d within same (λ k before. walked.next some k d before)
    in
    let here : lacks coming (get_or places met d) ≡ false =
    lacks_there coming (get_or places met d) (get_or coming i d).position is
    ∙ le-ltb (get_or coming i d).position (get_or places met d).position high in
    record {
      kept = list_any_more (lacks coming) places met d some ∙ rw (walked.kept, here) refl;
      next = λ more k e below equal.
          let above = rises met (met + 1) e (omega arith) more in
          let here' : (get_or coming i e).pid ≡ (get_or places met e).pid =
          ap (λ (p : Place). p.pid) (get_or_default coming i e d within) ∙
          (same ∙ ap (λ (p : Place). p.pid) (get_or_default places met d e some)) in
          elim (cases_lt k i) [
            | inl h ↦ let less = up k i e h within in absurd (omega (arith, less, above, here', equal))
            | inr h ↦ let at : k ≡ i = omega arith in
                let equal' = subst (λ n. (get_or coming n e).pid ≡ (get_or places (met + 1) e).pid) at equal in
                absurd (omega (arith, above, here', equal'))
          ];
    }

-- one place more was seen, which isn't
pub passed_more : (coming places : List Place) (met i : ℕ) (d : Place) → IsWalked coming places met i →
    i < length coming →
    (met < length places → (get_or coming i d).pid ≡ (get_or places met d).pid → ⊥) → IsWalked coming places met (i + 1)
passed_more coming places met i d walked within other = record {
  kept = walked.kept;
  next = λ some k e below same. elim (cases_lt k i) [
    | inl h ↦ walked.next some k e h same
    | inr h ↦
        let at : k ≡ i = omega arith in
        let same' = subst (λ n. (get_or coming n e).pid ≡ (get_or places met e).pid) at same in
        other some (ap (λ (p : Place). p.pid) (get_or_default coming i d e within)
        ∙ (same' ∙ ap (λ (p : Place). p.pid) (get_or_default places met e d some)))
  ];
}

-- the next to be met lacks where all were seen
missing : (coming places : List Place) (met seen : ℕ) → length coming ≤ seen → IsWalked coming places met seen →
    met < length places → true ≡ list_any (lacks coming) places
missing coming [] met seen past walked h = absurd (omega arith)
missing coming (first ∷ places) met seen past walked h =
    let place = get_or (first ∷ places) met first in
    let is : position_in coming place.pid ≡ None = position_nowhere coming place.pid (
    λ k d within same. walked.next h k d (omega arith)
    (same ∙ ap (λ (p : Place). p.pid) (get_or_default (first ∷ places) met first d h))) in
    let here : lacks coming place ≡ true = rw is refl in
    sym (list_any_at (lacks coming) (first ∷ places) met first h here)

-- all were seen
pub all_seen : (coming places : List Place) (met seen : ℕ) → met ≤ length places → length coming ≤ seen →
    IsWalked coming places met seen → nat_lt met (length places) ≡ list_any (lacks coming) places
all_seen coming places met seen few past walked =
    elim (cases_lt met (length places)) [
      | inl h ↦ lt-ltb met (length places) h ∙ missing coming places met seen past walked h
      | inr h ↦ le-ltb met (length places) h
          ∙ sym (ap (list_any (lacks coming)) (sym (take_all met places h)) ∙ walked.kept)
    ]
