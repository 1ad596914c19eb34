-- What is confirmed was offered, and later packets in later times.
use Rattle.std.proofs.Common.{◌≡◌, refl, ℕ, zero, ◌<◌, ◌==◌, Bool, true, false, List, [], ◌∷◌, map, filter}
use Rattle.std.proofs.Common.{length, get_or, arith, ap, inl, inr, ◌⊎◌}
use Rattle.std.specs.Prelude.{Contains}
use Rattle.std.specs.List.{list_any, range_with_len}
use Rattle.std.proofs.lemmas.Bool.{cases_Bool, and_parts, or_right}
use Rattle.std.proofs.lemmas.Bool.Decides.{nat_tests}
use Rattle.std.proofs.lemmas.List.Elements.{All-contains, Contains-append_right, filter_passes}
use Rattle.sd_spec.specs.Plan.{Plan}
use Rattle.sd_spec.specs.Sent.{Item, Cat, Entitles, Controls, Carries, sent}
use Rattle.sd_law_losses.specs.Kept.{after_cat, is_carried, is_kept}
use Rattle.sd_law_losses.specs.Confirmed.{is_confirmed_at}
use Rattle.sd_spec.specs.Watch.{at_places}
use Rattle.sd_law_field.specs.Times.{kept_at, confirmed_places_in}
use Rattle.sd_law_field.proofs.Numbers.{sent_rises}

-- what is kept after the CAT is kept
after_is_kept : (j : ℕ) (items : List Item) → list_any (is_carried j) (after_cat items) ≡ true →
    list_any (is_carried j) items ≡ true
unfolding after_cat
after_is_kept j [] is = is
after_is_kept j (Cat ∷ items) is = is
after_is_kept j (Entitles emm ∷ items) is = after_is_kept j items is
after_is_kept j (Controls part ∷ items) is = after_is_kept j items is
after_is_kept j (Carries k packet ∷ items) is =
    or_right (k == j) (list_any (is_carried j) items) (after_is_kept j items is)

-- one of what is at some places passes a test: it is at one of the places
one_passes : {A : Type 0} (p : A → Bool) (f : ℕ → A) (places : List ℕ) → list_any p (map f places) ≡ true →
    (i : ℕ) × Contains places i × (p (f i) ≡ true)
one_passes p f [] is = absurd (cc is)
one_passes p f (x ∷ places) is = by_test (cases_Bool (p (f x))) (λ rest. one_passes p f places rest)
  where
    by_test : (p (f x) ≡ true) ⊎ (p (f x) ≡ false) →
        (list_any p (map f places) ≡ true → (i : ℕ) × Contains places i × (p (f i) ≡ true)) →
        (i : ℕ) × Contains (x ∷ places) i × (p (f i) ≡ true)
    by_test (inl passes) rest = (x, (zero, omega arith, refl), passes)
    by_test (inr fails) rest =
        let (i, there, passes) = rest (rw fails at is) in
        (i, Contains-append_right (x ∷ []) places i there, passes)

-- the thing is the clear packet
carried_is : (j : ℕ) (item : Item) → is_carried j item ≡ true → (packet : List ℕ) × (item ≡ Carries j packet)
carried_is j Cat is = absurd (cc is)
carried_is j (Entitles emm) is = absurd (cc is)
carried_is j (Controls part) is = absurd (cc is)
carried_is j (Carries k packet) is =
    let same : k ≡ j = grind (arith, nat_tests, is) in
    (packet, ap (λ (n : ℕ). Carries n packet) same)

-- a clear packet that is confirmed is at one of the places
pub confirmed_are_kept : (plan : Plan) (clear : List (List ℕ)) (u j : ℕ) (places : List ℕ) →
    Contains (confirmed_places_in plan u clear places) j →
    (i : ℕ) × (packet : List ℕ) × Contains places i × (get_or (sent plan clear) i Cat ≡ Carries j packet)
unfolding confirmed_places_in is_confirmed_at at_places
confirmed_are_kept plan clear u j places there =
    let test : ℕ → Bool = is_confirmed_at plan u clear (kept_at plan clear places) in
    let told : test j ≡ true =
    All-contains (λ x. test x ≡ true) (filter test (range_with_len 0 (length clear))) j
    (filter_passes test (range_with_len 0 (length clear))) there in
    let kept : is_kept (kept_at plan clear places) j ≡ true =
    (and_parts (is_kept (kept_at plan clear places) j) _ told).0 in
    let (i, at, passes) = one_passes (is_carried j) (λ i. get_or (sent plan clear) i Cat) places
    (after_is_kept j (at_places Cat (sent plan clear) places) kept) in
    let (packet, is) = carried_is j (get_or (sent plan clear) i Cat) passes in
    (i, packet, at, is)

-- so of later places later packets are
pub kept_apart : (plan : Plan) (clear : List (List ℕ)) (u j l : ℕ) (places later : List ℕ) →
    ((i k : ℕ) → Contains places i → Contains later k → i < k) →
    Contains (confirmed_places_in plan u clear places) j → Contains (confirmed_places_in plan u clear later) l → j < l
kept_apart plan clear u j l places later before first last =
    let (i, packet, at, is) = confirmed_are_kept plan clear u j places first in
    let (k, other, there, same) = confirmed_are_kept plan clear u l later last in
    sent_rises plan clear i k j l packet other (before i k at there) is same
