-- What is sent later: no part of an earlier message and no earlier packet.
use Rattle.std.proofs.Common.{◌≡◌, refl, ℕ, zero, suc, ◌+◌, ◌/◌, ◌%◌, ◌<◌, ◌==◌, Bool, true, false}
use Rattle.std.proofs.Common.{List, [], ◌∷◌, ◌++◌, map, length, take, drop, if◌then◌else◌}
use Rattle.std.proofs.Common.{arith, ap, ◌∙◌, inl, inr, ◌⊎◌}
use Rattle.std.specs.Prelude.{All}
use Rattle.std.specs.List.{list_any}
use Rattle.std.proofs.lemmas.List.Folds.{list_any-append}
use Rattle.std.proofs.lemmas.List.Elements.{All-nil, All-cons, All-head, All-tail}
use Rattle.std.proofs.lemmas.Bool.{cases_Bool, or_parts}
use Rattle.std.proofs.lemmas.Bool.Decides.{nat_tests}
use Rattle.sd_message.specs.Period.{emms_of}
use Rattle.sd_message.specs.declared.emm.Emm.{Emm}
use Rattle.sd_message.specs.EcmParts.{Message, parts_of}
use Rattle.sd_message.specs.declared.ecm_part.EcmPart.{EcmPart}
use Rattle.sd_spec.specs.Plan.{crypto_length, period_of, closing_number}
use Rattle.sd_spec.specs.Messages.{period_at}
use Rattle.sd_spec.specs.Sent.{Item, Cat, Entitles, Controls, tables_at, tables_before}
use Rattle.sd_law_losses.specs.Chosen.{chosen}
use Rattle.sd_law_losses.specs.Kept.{is_carried}
use Rattle.sd_law_losses.proofs.Coming.{AreParts}
use Rattle.sd_law_losses.proofs.Arriving.{is_of}
use Rattle.sd_law_losses.proofs.Setting.{Setting, AreLaws, final, told_by}
use Rattle.sd_law_losses.proofs.Pairs.{number_is}
use Rattle.sd_law_losses.proofs.Carrying.{carrying}
use Rattle.sd_law_losses.proofs.Remaining.{parts_before, group_at, rest_at, rest_more, rest_none, closing_items}
use Rattle.sd_law_losses.proofs.Remaining.{number_within, due_number, number_rises}
use Rattle.sd_law_losses.proofs.Completing.{none_carried}

-- a choice of two lists is one of each
pub chosen_append : {A : Type 0} (fs : List Bool) (xs ys : List A) →
    chosen fs (xs ++ ys) ≡ chosen (take (length xs) fs) xs ++ chosen (drop (length xs) fs) ys
unfolding chosen
chosen_append fs [] ys = refl
chosen_append [] (x ∷ xs) ys = refl
chosen_append (true ∷ fs) (x ∷ xs) ys = ap (λ (zs : List _). x ∷ zs) (chosen_append fs xs ys)
chosen_append (false ∷ fs) (x ∷ xs) ys = chosen_append fs xs ys

pub chosen_map : {A B : Type 0} (f : A → B) (fs : List Bool) (xs : List A) → chosen fs (map f xs) ≡ map f (chosen fs xs)
unfolding chosen
chosen_map f [] xs = refl
chosen_map f (g ∷ fs) [] = refl
chosen_map f (true ∷ fs) (x ∷ xs) = ap (λ (ys : List _). f x ∷ ys) (chosen_map f fs xs)
chosen_map f (false ∷ fs) (x ∷ xs) = chosen_map f fs xs

-- what fails on all fails on a choice
pub chosen_fails : {A : Type 0} (p : A → Bool) (fs : List Bool) (xs : List A) → list_any p xs ≡ false →
    list_any p (chosen fs xs) ≡ false
unfolding chosen
chosen_fails p [] xs none = refl
chosen_fails p (f ∷ fs) [] none = refl
chosen_fails p (true ∷ fs) (x ∷ xs) none =
    let parts = or_parts (p x) (list_any p xs) none in
    rw (parts.0) (chosen_fails p fs xs parts.1)
chosen_fails p (false ∷ fs) (x ∷ xs) none = chosen_fails p fs xs (or_parts (p x) (list_any p xs) none).1

-- and what holds of all holds of a choice
pub chosen_all_of : {A : Type 0} (P : A → Type 0) (fs : List Bool) (xs : List A) → All P xs → All P (chosen fs xs)
unfolding chosen
chosen_all_of P [] xs all = All-nil P
chosen_all_of P (f ∷ fs) [] all = All-nil P
chosen_all_of P (true ∷ fs) (x ∷ xs) all =
    All-cons P x (chosen fs xs) (All-head P x xs all) (chosen_all_of P fs xs (All-tail P x xs all))
chosen_all_of P (false ∷ fs) (x ∷ xs) all = chosen_all_of P fs xs (All-tail P x xs all)

both_fail : {A : Type 0} (p : A → Bool) (xs ys : List A) → list_any p xs ≡ false → list_any p ys ≡ false →
    list_any p (xs ++ ys) ≡ false
both_fail p xs ys a b = list_any-append p xs ys ∙ rw a (rw b refl)

-- no section is a part, and none a packet
pub no_section_part : (b : ℕ) (emms : List Emm) → list_any (is_of b) (map Entitles emms) ≡ false
no_section_part b [] = refl
no_section_part b (emm ∷ emms) = no_section_part b emms

no_section_packet : (j : ℕ) (emms : List Emm) → list_any (is_carried j) (map Entitles emms) ≡ false
no_section_packet j [] = refl
no_section_packet j (emm ∷ emms) = no_section_packet j emms

pub no_other_part : (message : Message) (b : ℕ) (rest prior : List EcmPart) → AreParts message prior rest →
    (message.number == b) ≡ false → list_any (is_of b) (map Controls rest) ≡ false
no_other_part message b [] prior are other = refl
no_other_part message b (part ∷ rest) prior are other =
    let here : (part.number == b) ≡ false = ap (λ (n : ℕ). n == b) are.0.number ∙ other in
    rw here (no_other_part message b rest (part ∷ prior) are.1 other)

-- a test that no table passes
tables_fail : (s : Setting) (p : Item → Bool) → p Cat ≡ false → ((emms : List Emm) → list_any p
    (map Entitles emms) ≡ false) →
    (k : ℕ) → list_any p (tables_at s.plan k) ≡ false
unfolding tables_at
tables_fail s p cat sections k = rw cat (sections (emms_of (period_at s.plan (period_of s.plan k))))

pub tables_before_fail : (s : Setting) (p : Item → Bool) → p Cat ≡ false →
    ((emms : List Emm) → list_any p (map Entitles emms) ≡ false) → (k : ℕ) → list_any p (tables_before s.plan k) ≡ false
tables_before_fail s p cat sections k = by_test (k % crypto_length s.plan.site == 0)
  where
    by_test : (b : Bool) → list_any p (if b then tables_at s.plan k else []) ≡ false
    by_test true = tables_fail s p cat sections k
    by_test false = refl

-- the parts before packet k are of no message but its own
pub parts_of_one : (s : Setting) (laws : AreLaws s) (k b : ℕ) → k < length s.clear →
    ((k % s.plan.site.every == 0) ≡ true → ((told_by s (k / s.plan.site.every)).number == b) ≡ false) →
    list_any (is_of b) (parts_before s k) ≡ false
parts_of_one s laws k b within other = by_test (cases_Bool (k % s.plan.site.every == 0))
  where
    by_test : ((k % s.plan.site.every == 0) ≡ true) ⊎ ((k % s.plan.site.every == 0) ≡ false) →
        list_any (is_of b) (parts_before s k) ≡ false
    by_test (inl due) = rw due
        (no_other_part (told_by s (k / s.plan.site.every)) b (parts_of (told_by s (k / s.plan.site.every))) []
        (laws.parts (k / s.plan.site.every) (omega (arith, number_within s k laws.range within))) (other due))
    by_test (inr not_due) = rw not_due refl

-- so they are of no earlier message
parts_later : (s : Setting) (laws : AreLaws s) (k b : ℕ) → k < length s.clear → b < closing_number s.plan.site k →
    list_any (is_of b) (parts_before s k) ≡ false
parts_later s laws k b within below = parts_of_one s laws k b within (λ due. grind (
  arith,
  nat_tests,
  number_is s (k / s.plan.site.every),
  (due_number s.plan.site k laws.range due).0,
  below,
))

pub parts_carry_none : (s : Setting) (k j : ℕ) → list_any (is_carried j) (parts_before s k) ≡ false
parts_carry_none s k j = by_test (k % s.plan.site.every == 0)
  where
    by_test : (b : Bool) → list_any (is_carried j)
        (if b then map Controls (parts_of (told_by s (k / s.plan.site.every))) else []) ≡ false
    by_test true = none_carried j (parts_of (told_by s (k / s.plan.site.every)))
    by_test false = refl

group_later : (s : Setting) (laws : AreLaws s) (k b : ℕ) → k < length s.clear → b < closing_number s.plan.site k →
    list_any (is_of b) (group_at s k) ≡ false
group_later s laws k b within below =
    both_fail (is_of b) (tables_before s.plan k) (parts_before s k ++ carrying s k ∷ [])
    (tables_before_fail s (is_of b) refl (no_section_part b) k)
    (both_fail (is_of b) (parts_before s k) (carrying s k ∷ []) (parts_later s laws k b within below) refl)

group_carries : (s : Setting) (k j : ℕ) → j < k → list_any (is_carried j) (group_at s k) ≡ false
group_carries s k j below =
    let other : (k == j) ≡ false = grind (arith, nat_tests, below) in
    both_fail (is_carried j) (tables_before s.plan k) (parts_before s k ++ carrying s k ∷ [])
    (tables_before_fail s (is_carried j) refl (no_section_packet j) k)
    (both_fail (is_carried j) (parts_before s k) (carrying s k ∷ []) (parts_carry_none s k j) (rw other refl))

closing_tables : (s : Setting) (p : Item → Bool) → p Cat ≡ false → ((emms : List Emm) → list_any p
    (map Entitles emms) ≡ false) →
    list_any p (if length s.clear == 0 then tables_at s.plan 0 else []) ≡ false
closing_tables s p cat sections = by_test (length s.clear == 0)
  where
    by_test : (b : Bool) → list_any p (if b then tables_at s.plan 0 else []) ≡ false
    by_test true = tables_fail s p cat sections 0
    by_test false = refl

-- from packet k on no part of a message comes that would stand before it
pub numbers_later : (s : Setting) (laws : AreLaws s) (n k b : ℕ) → k + n ≡ length s.clear →
    b < closing_number s.plan.site k → list_any (is_of b) (rest_at s k) ≡ false
numbers_later s laws zero k b all below =
    ap (λ (j : ℕ). list_any (is_of b) (rest_at s j)) (omega (arith, all))
    ∙ (ap (list_any (is_of b)) (rest_none s ∙ closing_items s)
    ∙ both_fail (is_of b) (if length s.clear == 0 then tables_at s.plan 0 else []) (map Controls (parts_of (told_by s
    (final s))))
    (closing_tables s (is_of b) refl (no_section_part b))
    (no_other_part (told_by s (final s)) b (parts_of (told_by s (final s))) [] (laws.parts (final s) (omega arith))
    (grind (
      arith,
      nat_tests,
      number_is s (final s),
      below,
      number_rises s.plan.site k (length s.clear) laws.range
          (omega (arith, all)),
    ))))
numbers_later s laws (suc n) k b all below =
    ap (list_any (is_of b)) (rest_more s k laws.range (omega (arith, all)))
    ∙ both_fail (is_of b) (group_at s k) (rest_at s (k + 1)) (group_later s laws k b (omega (arith, all)) below)
    (numbers_later s laws n (k + 1) b (omega (arith, all))
    (omega (arith, below, number_rises s.plan.site k (k + 1) laws.range (omega arith))))

-- and no packet before it
pub packets_later : (s : Setting) (laws : AreLaws s) (n k j : ℕ) → k + n ≡ length s.clear → j < k →
    list_any (is_carried j) (rest_at s k) ≡ false
packets_later s laws zero k j all below =
    ap (λ (i : ℕ). list_any (is_carried j) (rest_at s i)) (omega (arith, all))
    ∙ (ap (list_any (is_carried j)) (rest_none s ∙ closing_items s)
    ∙ both_fail (is_carried j) (if length s.clear == 0 then tables_at s.plan 0 else []) (map Controls (parts_of
    (told_by s (final s))))
    (closing_tables s (is_carried j) refl (no_section_packet j))
    (none_carried j (parts_of (told_by s (final s)))))
packets_later s laws (suc n) k j all below =
    ap (list_any (is_carried j)) (rest_more s k laws.range (omega (arith, all)))
    ∙ both_fail (is_carried j) (group_at s k) (rest_at s (k + 1)) (group_carries s k j below)
    (packets_later s laws n (k + 1) j (omega (arith, all)) (omega (arith, below)))
