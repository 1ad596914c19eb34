-- Where the things of a whole broadcast stand.
use Rattle.std.proofs.Common.{◌≡◌, refl, ℕ, zero, suc, ◌+◌, ◌/◌, ◌%◌, ◌<◌, ◌≤◌, ◌==◌, ◌||◌, Bool, true, false}
use Rattle.std.proofs.Common.{List, [], ◌∷◌, ◌++◌, map, length, if◌then◌else◌}
use Rattle.std.proofs.Common.{arith, sym, ap, ◌∙◌, inl, inr, append_assoc, append-nil}
use Rattle.std.specs.List.{list_any, list_all, range_with_len}
use Rattle.std.proofs.lemmas.Bool.{cases_eq}
use Rattle.std.proofs.lemmas.Bool.Decides.{nat_tests}
use Rattle.std.proofs.lemmas.List.Folds.{list_any-append}
use Rattle.std.proofs.Math.Nat.{mul-mod_left, mul-div_cancel}
use Rattle.sd_base.proofs.Bools.{or_true}
use Rattle.sd_site_cards.specs.SiteFields.{AreInRange}
use Rattle.sd_message.specs.EcmParts.{parts_of}
use Rattle.sd_message.specs.declared.ecm_part.EcmPart.{EcmPart}
use Rattle.sd_spec.specs.Plan.{closing_number}
use Rattle.sd_spec.specs.Sent.{Item, Controls, tables_at, tables_before}
use Rattle.sd_spec.proofs.Schedule.{closing_needed}
use Rattle.sd_law_losses.specs.Kept.{is_carried, is_part, has_parts, has_arrived}
use Rattle.sd_law_losses.proofs.Tests.{all_range}
use Rattle.sd_law_losses.proofs.Coming.{AreParts, is_nil}
use Rattle.sd_law_losses.proofs.Arriving.{is_of, all_there}
use Rattle.sd_law_losses.proofs.Setting.{Setting, AreLaws, final, told_by}
use Rattle.sd_law_losses.proofs.Pairs.{start_of, number_is}
use Rattle.sd_law_losses.proofs.Carrying.{carrying}
use Rattle.sd_law_losses.proofs.Remaining.{parts_before, group_at, rest_at, rest_more, rest_none, closing_items}
use Rattle.sd_law_losses.proofs.Remaining.{number_rises, due_number}
use Rattle.sd_law_losses.proofs.Later.{tables_before_fail, no_section_part, parts_of_one}

-- what is sent before packet k
pub pre_at : Setting → ℕ → List Item
pre_at s zero = []
pre_at s (suc k) = pre_at s k ++ group_at s k

-- all that is sent, in two parts
pub sent_split : (s : Setting) (k : ℕ) → AreInRange s.plan.site → k ≤ length s.clear →
    rest_at s 0 ≡ pre_at s k ++ rest_at s k
unfolding pre_at
sent_split s zero range within = refl
sent_split s (suc k) range within =
    let more : k + 1 ≡ suc k = omega arith in
    sent_split s k range (omega (arith, within))
    ∙ (ap (λ (xs : List Item). pre_at s k ++ xs) (rest_more s k range (omega (arith, within))
    ∙ ap (λ (n : ℕ). group_at s k ++ rest_at s n) more)
    ∙ sym (append_assoc (pre_at s k) (group_at s k) (rest_at s (suc k))))

any_or : {A : Type 0} (p : A → Bool) (xs ys : List A) (b c : Bool) → list_any p xs ≡ b → list_any p ys ≡ c →
    list_any p (xs ++ ys) ≡ (b || c)
any_or p xs ys b c first rest = list_any-append p xs ys ∙ rw first (rw rest refl)

pub any_second : {A : Type 0} (p : A → Bool) (xs ys : List A) → list_any p ys ≡ true → list_any p (xs ++ ys) ≡ true
any_second p xs ys there = any_or p xs ys (list_any p xs) true refl there ∙ or_true (list_any p xs)

pub any_first : {A : Type 0} (p : A → Bool) (xs ys : List A) → list_any p xs ≡ true → list_any p (xs ++ ys) ≡ true
any_first p xs ys there = any_or p xs ys true (list_any p ys) there refl

-- what passes in a group passes before each later packet
pub pre_any : (s : Setting) (p : Item → Bool) (j k : ℕ) → j < k → list_any p (group_at s j) ≡ true → list_any p
    (pre_at s k) ≡ true
unfolding pre_at
pre_any s p j zero below there = absurd (omega (arith, below))
pre_any s p j (suc k) below there = elim (cases_eq j k) [
  | inl here ↦ any_second p (pre_at s k) (group_at s k) (ap (λ (n : ℕ). list_any p (group_at s n)) (sym here) ∙ there)
  | inr other ↦ any_first p (pre_at s k) (group_at s k) (pre_any s p j k (omega (arith, below, other)) there)
]

-- clear packet j is sent
pub packet_stands : (s : Setting) (j : ℕ) → AreInRange s.plan.site → j < length s.clear →
    list_any (is_carried j) (rest_at s 0) ≡ true
packet_stands s j range within =
    ap (list_any (is_carried j)) (sent_split s j range (omega (arith, within))
    ∙ ap (λ (xs : List Item). pre_at s j ++ xs) (rest_more s j range within))
    ∙ any_second (is_carried j) (pre_at s j) (group_at s j ++ rest_at s (j + 1))
    (any_first (is_carried j) (group_at s j) (rest_at s (j + 1))
    (any_second (is_carried j) (tables_before s.plan j) (parts_before s j ++ carrying s j ∷ [])
    (any_second (is_carried j) (parts_before s j) (carrying s j ∷ []) (rw (itself j) refl))))
  where
    itself : (j : ℕ) → (j == j) ≡ true
    itself j = grind (arith, nat_tests)

-- before packet k no part of message that stands before it or later was sent
pub pre_numbers : (s : Setting) (laws : AreLaws s) (k b : ℕ) → k ≤ length s.clear → closing_number s.plan.site k ≤ b →
    list_any (is_of b) (pre_at s k) ≡ false
unfolding pre_at
pre_numbers s laws zero b within above = refl
pre_numbers s laws (suc k) b within above =
    let more : k + 1 ≡ suc k = omega arith in
    let bound : closing_number s.plan.site (k + 1) ≤ b = omega (arith, above, ap (closing_number s.plan.site) more) in
    any_or (is_of b) (pre_at s k) (group_at s k) false false
    (pre_numbers s laws k b (omega (arith, within)) (omega (
      arith,
      bound,
      number_rises s.plan.site k
          (k + 1) laws.range (omega arith),
    )))
    (any_or (is_of b) (tables_before s.plan k) (parts_before s k ++ carrying s k ∷ []) false false
    (tables_before_fail s (is_of b) refl (no_section_part b) k)
    (any_or (is_of b) (parts_before s k) (carrying s k ∷ []) false false
    (earlier_parts bound) refl))
  where
    earlier_parts : closing_number s.plan.site (k + 1) ≤ b → list_any (is_of b) (parts_before s k) ≡ false
    earlier_parts bound = parts_of_one s laws k b (omega (arith, within)) (λ due. grind (
      arith,
      nat_tests,
      number_is s (k / s.plan.site.every),
      (due_number s.plan.site k laws.range due).1,
      bound,
    ))

-- the message before packet k, and what stands before and after its parts
pub message_stands : (s : Setting) (a : ℕ) → AreInRange s.plan.site → a < final s →
    rest_at s 0 ≡ (pre_at s (start_of s a) ++ tables_before s.plan (start_of s a))
    ++ (map Controls (parts_of (told_by s a)) ++ ((carrying s (start_of s a) ∷ []) ++ rest_at s (start_of s a + 1)))
message_stands s a range below =
    let inside = closing_needed s.plan.site (length s.clear) a range below in
    sent_split s k range (omega (arith, inside))
    ∙ (ap (λ (xs : List Item). pre_at s k ++ xs) (rest_more s k range inside
    ∙ (ap (λ (ps : List Item). (tables_before s.plan k ++ (ps ++ carrying s k ∷ [])) ++ rest_at s (k + 1)) parts
    ∙ (append_assoc (tables_before s.plan k) (map Controls (parts_of (told_by s a)) ++ carrying s k ∷ []) (rest_at s
    (k + 1))
    ∙ ap (λ (xs : List Item). tables_before s.plan k ++ xs)
    (append_assoc (map Controls (parts_of (told_by s a))) (carrying s k ∷ []) (rest_at s (k + 1))))))
    ∙ sym (append_assoc (pre_at s k) (tables_before s.plan k) (map Controls (parts_of (told_by s a)) ++
    ((carrying s k ∷ []) ++ rest_at s (k + 1)))))
  where
    k : ℕ
    k = start_of s a

    some : 0 < s.plan.site.every
    some = omega (arith, range.every.0)

    due : (k % s.plan.site.every == 0) ≡ true
    due = grind (arith, nat_tests, mul-mod_left a s.plan.site.every)

    parts : parts_before s k ≡ map Controls (parts_of (told_by s a))
    parts = ap (λ (b : Bool). if b then map Controls (parts_of (told_by s (k / s.plan.site.every))) else []) due
        ∙ ap (λ (n : ℕ). map Controls (parts_of (told_by s n))) (mul-div_cancel a some)

-- where all parts of a message stand, it has arrived
pub whole_arrived : (s : Setting) (laws : AreLaws s) (a : ℕ) (pre post : List Item) → a ≤ final s →
    has_arrived (pre ++ (map Controls (parts_of (told_by s a)) ++ post)) a ≡ true
unfolding has_arrived
whole_arrived s laws a pre post within =
    any_second (has_parts all a) pre (map Controls ps ++ post)
    (any_first (has_parts all a) (map Controls ps) post (first_has ps (laws.parts a within) (laws.some a within) refl))
  where
    ps : List EcmPart
    ps = parts_of (told_by s a)

    all : List Item
    all = pre ++ (map Controls ps ++ post)

    there : (x : ℕ) → list_any (is_part a x) (map Controls ps) ≡ true → list_any (is_part a x) all ≡ true
    there x is = any_second (is_part a x) pre (map Controls ps ++ post) (any_first (is_part a x)
        (map Controls ps) post is)

    first_has : (qs : List EcmPart) → AreParts (told_by s a) [] qs → is_nil qs ≡ false → qs ≡ ps →
        list_any (has_parts all a) (map Controls qs) ≡ true
    first_has [] are some same = absurd (cc some)
    first_has (part ∷ rest) are some same =
        let number : (part.number == a) ≡ true = grind (arith, nat_tests, are.0.number, number_is s a) in
        let every : list_all (λ x. list_any (is_part a x) all) (range_with_len 0 (part.last_part + 1)) ≡ true =
        all_range (λ x. list_any (is_part a x) all) 0 (part.last_part + 1)
        (λ x low high. there x (ap (λ (xs : List EcmPart). list_any (is_part a x) (map Controls xs)) (sym same)
        ∙ (ap (λ (n : ℕ). list_any (is_part n x) (map Controls (part ∷ rest))) (sym (number_is s a))
        ∙ all_there (told_by s a) (part ∷ rest) [] x are (omega arith) (omega (arith, high, are.0.count))))) in
        rw number (rw every refl)

-- so each message of the broadcast has arrived
pub all_arrived : (s : Setting) (laws : AreLaws s) (a : ℕ) → a ≤ final s → has_arrived (rest_at s 0) a ≡ true
all_arrived s laws a within = elim (cases_eq a (final s)) [
  | inl last ↦ ap (λ (xs : List Item). has_arrived xs a)
      (sent_split s (length s.clear) laws.range (omega arith) ∙ (ap (λ (xs : List Item). pre_at s
      (length s.clear) ++ xs)
      (rest_none s ∙ closing_items s)
      ∙ sym (append_assoc (pre_at s (length s.clear)) ends (map Controls (parts_of (told_by s (final s)))))))
      ∙ (ap (λ (xs : List Item). has_arrived ((pre_at s (length s.clear) ++ ends) ++ xs) a)
      (ap (λ (n : ℕ). map Controls (parts_of (told_by s n))) (sym last) ∙ sym (append-nil (map Controls (parts_of
      (told_by s a)))))
      ∙ whole_arrived s laws a (pre_at s (length s.clear) ++ ends) [] within)
  | inr other ↦ ap (λ (xs : List Item). has_arrived xs a) (message_stands s a laws.range (omega (arith, within, other)))
      ∙ whole_arrived s laws a (pre_at s (start_of s a) ++ tables_before s.plan (start_of s a))
      ((carrying s (start_of s a) ∷ []) ++ rest_at s (start_of s a + 1)) within
]
  where
    ends : List Item
    ends = if length s.clear == 0 then tables_at s.plan 0 else []
