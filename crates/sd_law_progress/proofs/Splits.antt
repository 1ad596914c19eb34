-- How the things of a broadcast are cut at a packet, and what stands after the first CAT.
use Rattle.std.proofs.Common.{◌≡◌, refl, ℕ, zero, suc, ◌+◌, ◌<◌, ◌≤◌, Bool, true, false, List, [], ◌∷◌, ◌++◌}
use Rattle.std.proofs.Common.{length, arith, sym, ap, ◌∙◌, inl, inr, append_assoc}
use Rattle.std.specs.List.{list_any}
use Rattle.std.proofs.lemmas.Bool.{cases_eq, or_parts}
use Rattle.std.proofs.lemmas.List.Folds.{list_any-append}
use Rattle.sd_site_cards.specs.SiteFields.{AreInRange}
use Rattle.sd_spec.specs.Sent.{Item, Cat, Entitles, Controls, Carries, is_cat_item}
use Rattle.sd_law_losses.specs.Kept.{after_cat}
use Rattle.sd_law_losses.proofs.Setting.{Setting}
use Rattle.sd_law_losses.proofs.Remaining.{group_at, rest_at, rest_more}
use Rattle.sd_law_losses.proofs.Standing.{any_first, any_second}

-- n groups from packet k on
unfoldable pub mid_at : Setting → ℕ → ℕ → List Item
mid_at s k zero = []
mid_at s k (suc n) = mid_at s k n ++ group_at s (k + n)

-- what is sent from packet k on
pub rest_later : (s : Setting) (k n : ℕ) → AreInRange s.plan.site → k + n ≤ length s.clear →
    rest_at s k ≡ mid_at s k n ++ rest_at s (k + n)
unfolding mid_at
rest_later s k zero range within = let same : k + 0 ≡ k = omega arith in ap (rest_at s) (sym same)
rest_later s k (suc n) range within =
    let more : (k + n) + 1 ≡ k + suc n = omega arith in
    rest_later s k n range (omega (arith, within))
    ∙ (ap (λ (xs : List Item). mid_at s k n ++ xs) (rest_more s (k + n) range (omega (arith, within))
    ∙ ap (λ (i : ℕ). group_at s (k + n) ++ rest_at s i) more)
    ∙ sym (append_assoc (mid_at s k n) (group_at s (k + n)) (rest_at s (k + suc n))))

-- what passes in a group passes in some groups with it
pub mid_any : (s : Setting) (p : Item → Bool) (k n j : ℕ) → k ≤ j → j < k + n → list_any p (group_at s j) ≡ true →
    list_any p (mid_at s k n) ≡ true
unfolding mid_at
mid_any s p k zero j from below there = absurd (omega (arith, from, below))
mid_any s p k (suc n) j from below there = elim (cases_eq j (k + n)) [
  | inl here ↦ any_second p (mid_at s k n) (group_at s (k + n))
      (ap (λ (i : ℕ). list_any p (group_at s i)) (sym here) ∙ there)
  | inr other ↦ any_first p (mid_at s k n) (group_at s (k + n))
      (mid_any s p k n j from (omega (arith, below, other)) there)
]

-- what fails on two lists fails on each
pub fails_both : {A : Type 0} (p : A → Bool) (xs ys : List A) → list_any p (xs ++ ys) ≡ false →
    (list_any p xs ≡ false) × (list_any p ys ≡ false)
fails_both p xs ys none = or_parts (list_any p xs) (list_any p ys) (sym (list_any-append p xs ys) ∙ none)

pub fails_joined : {A : Type 0} (p : A → Bool) (xs ys : List A) → list_any p xs ≡ false → list_any p ys ≡ false →
    list_any p (xs ++ ys) ≡ false
fails_joined p xs ys first rest = list_any-append p xs ys ∙ rw first (rw rest refl)

-- behind the first CAT stands all that is behind any other
pub any_after : (p : Item → Bool) (xs ys : List Item) → list_any p ys ≡ true →
    list_any p (after_cat (xs ++ Cat ∷ ys)) ≡ true
unfolding after_cat
any_after p [] ys there = there
any_after p (Cat ∷ xs) ys there = any_second p xs (Cat ∷ ys) (any_second p (Cat ∷ []) ys there)
any_after p (Entitles emm ∷ xs) ys there = any_after p xs ys there
any_after p (Controls part ∷ xs) ys there = any_after p xs ys there
any_after p (Carries k packet ∷ xs) ys there = any_after p xs ys there

-- after a list with a CAT all stands
pub after_some : (xs ys : List Item) → list_any is_cat_item xs ≡ true → after_cat (xs ++ ys) ≡ after_cat xs ++ ys
unfolding after_cat
after_some [] ys some = absurd (cc some)
after_some (Cat ∷ xs) ys some = refl
after_some (Entitles emm ∷ xs) ys some = after_some xs ys some
after_some (Controls part ∷ xs) ys some = after_some xs ys some
after_some (Carries k packet ∷ xs) ys some = after_some xs ys some

-- what fails on all fails after the CAT
pub after_fails : (p : Item → Bool) (xs : List Item) → list_any p xs ≡ false → list_any p (after_cat xs) ≡ false
unfolding after_cat
after_fails p [] none = refl
after_fails p (Cat ∷ xs) none = (or_parts (p Cat) (list_any p xs) none).1
after_fails p (Entitles emm ∷ xs) none = after_fails p xs (or_parts (p (Entitles emm)) (list_any p xs) none).1
after_fails p (Controls part ∷ xs) none = after_fails p xs (or_parts (p (Controls part)) (list_any p xs) none).1
after_fails p (Carries k packet ∷ xs) none = after_fails p xs (or_parts (p (Carries k packet)) (list_any p xs) none).1
