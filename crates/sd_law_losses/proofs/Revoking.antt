-- A receiver that ends revoked in a period is revoked in it, whatever was lost.
use Rattle.std.proofs.Common.{◌≡◌, refl, ℕ, zero, suc, ◌+◌, ◌-◌, ◌<◌, ◌≤◌, ◌==◌, ◌^◌, ◌&&◌, ◌||◌, Bool, true, false}
use Rattle.std.proofs.Common.{not, nat_lt}
use Rattle.std.proofs.Common.{List, [], ◌∷◌, ◌++◌, length, Option, Some, None, if◌then◌else◌}
use Rattle.std.proofs.Common.{arith, sym, ap, ◌∙◌, inl, inr, ◌⊎◌, subst}
use Rattle.std.specs.Prelude.{All, Contains}
use Rattle.std.specs.List.{list_any, list_all, range_with_len, find}
use Rattle.std.proofs.lemmas.Option.{get_or_from_slice_get, slice_get-get_or}
use Rattle.std.proofs.lemmas.Bool.{cases_Bool, cases_eq, and_parts, or_cases, both_ways}
use Rattle.std.proofs.lemmas.Bool.Decides.{nat_tests}
use Rattle.std.proofs.lemmas.List.Elements.{All-head, All-tail}
use Rattle.sd_message.specs.EmmForm.{sections_for}
use Rattle.sd_message.specs.Period.{emms_of, emm_at}
use Rattle.sd_message.specs.declared.emm.Emm.{Emm}
use Rattle.sd_message.proofs.EmmSharing.{as_many, stands_at, index_is}
use Rattle.sd_spec.specs.Plan.{Plan, IsPlan, sets_at, closing_number}
use Rattle.sd_spec.specs.Messages.{period_at}
use Rattle.sd_spec.specs.Sent.{Item, Cat, Entitles, Controls, Carries, sent, closing_of, is_cat_item}
use Rattle.sd_spec.specs.Items.{IsOfBroadcast, entitlement}
use Rattle.sd_spec.proofs.Items.{all_are_of_broadcast}
use Rattle.sd_law_broadcast.proofs.Fitting.{period_count}
use Rattle.sd_spec.specs.Ending.{ending_with}
use Rattle.sd_spec.specs.declared.ending.Ending.TheVariants.{Opened, Gaps, Revoked, NoCat, Unclosed}
use Rattle.sd_law_losses.specs.Chosen.{chosen}
use Rattle.sd_law_losses.specs.Kept.{after_cat, has_arrived, entitles, is_section_item}
use Rattle.sd_law_losses.specs.Confirmed.{confirmed, is_revoked_in}
use Rattle.sd_law_losses.specs.Endings.{periods_arrived, is_untold, has_all, closed_told, next_number, ending_told}
use Rattle.sd_law_losses.proofs.Later.{chosen_all_of}
use Rattle.sd_law_losses.proofs.Entitled.{has_set, sections_have, any_of_map, named_period}
use Rattle.sd_law_losses.proofs.Opened.{after_all}

-- what is found passes
found_passes : (f : ℕ → Bool) (xs : List ℕ) (x : ℕ) → find f xs ≡ Some x → f x ≡ true
found_passes f [] x found = absurd (cc found)
found_passes f (y ∷ ys) x found = by_test (cases_Bool (f y)) (λ rest. found_passes f ys x rest)
  where
    by_test : (f y ≡ true) ⊎ (f y ≡ false) → (find f ys ≡ Some x → f x ≡ true) → f x ≡ true
    by_test (inl is) rest = let same : y ≡ x = cc (rw is at found) in ap f (sym same) ∙ is
    by_test (inr is) rest = rest (rw is at found)

-- a number of a range that passes
abbrev SomeOf : (ℕ → Bool) → ℕ → ℕ → Type 0
SomeOf p s n = (x : ℕ) × (s ≤ x) × (x < s + n) × (p x ≡ true)

some_of_range : (p : ℕ → Bool) (s n : ℕ) → list_any p (range_with_len s n) ≡ true → SomeOf p s n
some_of_range p s zero some = absurd (cc some)
some_of_range p s (suc n) some = by_test (cases_Bool (p s)) (λ rest. some_of_range p (s + 1) n rest)
  where
    by_test : (p s ≡ true) ⊎ (p s ≡ false) → (list_any p (range_with_len (s + 1) n) ≡ true → SomeOf p (s + 1) n) →
        SomeOf p s (suc n)
    by_test (inl is) rest = (s, omega arith, omega arith, is)
    by_test (inr is) rest =
        let (x, low, high, passes) = rest (rw is at some) in (x, omega (arith, low), omega (arith, high), passes)

-- each number of a range passes where all do
one_of_range : (p : ℕ → Bool) (s n x : ℕ) → list_all p (range_with_len s n) ≡ true → s ≤ x → x < s + n → p x ≡ true
one_of_range p s zero x all low high = absurd (omega (arith, low, high))
one_of_range p s (suc n) x all low high =
    let parts = and_parts (p s) (list_all p (range_with_len (s + 1) n)) all in
    by_place (cases_eq s x) parts.0 (λ later. one_of_range p (s + 1) n x parts.1 later (omega (arith, high)))
  where
    by_place : (s ≡ x) ⊎ (s ≡ x → ⊥) → p s ≡ true → (s + 1 ≤ x → p x ≡ true) → p x ≡ true
    by_place (inl here) first rest = ap p (sym here) ∙ first
    by_place (inr later) first rest = rest (omega (arith, low, later))

-- the section of a period with an index
same_section : (plan : Plan) (q : ℕ) (emm : Emm) → Contains (emms_of (period_at plan q)) emm →
    emm ≡ emm_at (period_at plan q) emm.index
same_section plan q emm (k, within, is) =
    let emms = emms_of (period_at plan q) in
    let here = slice_get-get_or emms k emm within ∙ ap Some is in
    let index : emm.index ≡ k = index_is (period_at plan q) k emm here in
    let made = stands_at (period_at plan q) k (omega (arith, within, as_many (period_at plan q))) in
    sym (get_or_from_slice_get emms k emm emm here)
    ∙ (get_or_from_slice_get emms k (emm_at (period_at plan q) k) emm made ∙ ap (emm_at (period_at plan q)) (sym index))

-- a section that is kept entitles where the period's one of its index does
section_entitles : (plan : Plan) (clear : List (List ℕ)) (u q x : ℕ) (item : Item) → IsOfBroadcast plan clear item →
    has_set plan u (emm_at (period_at plan q) x) ≡ true → is_section_item q x item ≡ true →
    entitles plan.site.height u q item ≡ true
section_entitles plan clear u q x (Entitles emm) (entitlement k within there) has is =
    let parts = and_parts (emm.period == q) (emm.index == x) is in
    let period = named_period plan k q emm there parts.0 in
    let index : emm.index ≡ x = grind (arith, nat_tests, parts.1) in
    let same = same_section plan q emm (subst (λ (p : ℕ). Contains (emms_of (period_at plan p)) emm) period there) in
    rw (parts.0) (ap (has_set plan u) (same ∙ ap (emm_at (period_at plan q)) index) ∙ has)
section_entitles plan clear u q x Cat of has is = absurd (cc is)
section_entitles plan clear u q x (Controls one) of has is = absurd (cc is)
section_entitles plan clear u q x (Carries k packet) of has is = absurd (cc is)

kept_entitles : (plan : Plan) (clear : List (List ℕ)) (u q x : ℕ) (items : List Item) → All
    (IsOfBroadcast plan clear) items →
    has_set plan u (emm_at (period_at plan q) x) ≡ true → list_any (is_section_item q x) items ≡ true →
    list_any (entitles plan.site.height u q) items ≡ true
kept_entitles plan clear u q x [] all has is = absurd (cc is)
kept_entitles plan clear u q x (item ∷ items) all has is =
    by_place (or_cases (is_section_item q x item) (list_any (is_section_item q x) items) is)
    (λ later. kept_entitles plan clear u q x items (All-tail (IsOfBroadcast plan clear) item items all) has later)
  where
    or_true : (b : Bool) → (b || true) ≡ true
    or_true true = refl
    or_true false = refl

    by_place : (is_section_item q x item ≡ true) ⊎ (list_any (is_section_item q x) items ≡ true) →
        (list_any (is_section_item q x) items ≡ true → list_any (entitles plan.site.height u q) items ≡ true) →
        list_any (entitles plan.site.height u q) (item ∷ items) ≡ true
    by_place (inl here) rest =
        rw (section_entitles plan clear u q x item (All-head (IsOfBroadcast plan clear) item items all) has here) refl
    by_place (inr later) rest = rw (rest later) (or_true (entitles plan.site.height u q item))

-- where all sections of a period are kept and none tells the leaf's key, the leaf is revoked in it
all_and_none : (plan : Plan) (clear : List (List ℕ)) (u q : ℕ) (kept : List Item) → IsPlan plan →
    u < 2 ^ plan.site.height →
    All (IsOfBroadcast plan clear) kept → is_untold plan u kept q ≡ true → has_all plan kept q ≡ true →
    is_revoked_in plan u q ≡ true
unfolding has_all emms_of
all_and_none plan clear u q kept is leaf all untold whole = by_revoked (cases_Bool (is_revoked_in plan u q))
  where
    n : ℕ
    n = sections_for (length (period_at plan q).entries)

    by_revoked : (is_revoked_in plan u q ≡ true) ⊎ (is_revoked_in plan u q ≡ false) → is_revoked_in plan u q ≡ true
    by_revoked (inl revoked) = revoked
    by_revoked (inr free) =
        let (x, low, high, has) = some_of_range (λ x. has_set plan u (emm_at (period_at plan q) x)) 0 n
        (sym (any_of_map (has_set plan u) (emm_at (period_at plan q)) (range_with_len 0 n))
        ∙ (sections_have plan q u is leaf ∙ ap not free)) in
        let there = one_of_range (λ x. list_any (is_section_item q x) kept) 0 (sections_for (length
        (sets_at plan q))) x whole low
        (omega (arith, high, ap sections_for (period_count plan q))) in
        absurd (both_ways (is_untold plan u kept q) (ap not (kept_entitles plan clear u q x kept all has there)) untold)

-- so an ending that names a period is true
pub revoked_truly : (plan : Plan) (clear : List (List ℕ)) (u q : ℕ) (flags : List Bool) → IsPlan plan →
    u < 2 ^ plan.site.height → ending_told plan u clear (chosen flags (sent plan clear ++ closing_of plan clear)) ≡
    Revoked q →
    is_revoked_in plan u q ≡ true
unfolding ending_told closed_told
revoked_truly plan clear u q flags is leaf ends =
    by_cat (list_any is_cat_item items) (has_arrived kept (closing_number plan.site (length clear))) ends
  where
    items : List Item
    items = chosen flags (sent plan clear ++ closing_of plan clear)

    kept : List Item
    kept = after_cat items

    all : All (IsOfBroadcast plan clear) kept
    all = after_all (IsOfBroadcast plan clear) items
        (chosen_all_of (IsOfBroadcast plan clear) flags (sent plan clear ++ closing_of plan clear)
        (all_are_of_broadcast plan clear))

    test : ℕ → Bool
    test p = is_untold plan u kept p && has_all plan kept p

    neither : (b : Bool) (gaps : ℕ) → (if b then Gaps gaps else Opened) ≡ Revoked q → ⊥
    neither true gaps same = absurd (cc same)
    neither false gaps same = absurd (cc same)

    by_found : (o other : Option ℕ) (gaps : ℕ) → find test (periods_arrived plan clear kept) ≡ o →
        ending_with o other gaps ≡ Revoked q → is_revoked_in plan u q ≡ true
    by_found (Some p) other gaps found same =
        let here : p ≡ q = cc same in
        let parts = and_parts (is_untold plan u kept p) (has_all plan kept p) (found_passes test
        (periods_arrived plan clear kept) p found) in
        subst (λ (p : ℕ). is_revoked_in plan u p ≡ true) here (all_and_none plan clear u p kept is leaf all parts.0
        parts.1)
    by_found None (Some p) gaps found same = absurd (cc same)
    by_found None None gaps found same = absurd (neither (nat_lt 0 gaps) gaps same)

    by_cat : (b c : Bool) → (if b then (if c then ending_with (find test (periods_arrived plan clear kept))
        (find (is_untold plan u kept) (periods_arrived plan clear kept)) (length clear - length
        (confirmed plan u clear items))
        else Unclosed (next_number plan clear kept)) else NoCat) ≡ Revoked q → is_revoked_in plan u q ≡ true
    by_cat true true same = by_found (find test (periods_arrived plan clear kept))
        (find (is_untold plan u kept) (periods_arrived plan clear kept)) (length clear - length
        (confirmed plan u clear items)) refl same
    by_cat true false same = absurd (cc same)
    by_cat false c same = absurd (cc same)
