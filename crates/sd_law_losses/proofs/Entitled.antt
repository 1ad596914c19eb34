-- Which leaves the sections of a period entitle.
use Rattle.std.proofs.Common.{◌≡◌, refl, ℕ, ◌<◌, ◌≤◌, ◌==◌, ◌^◌, ◌&&◌, ◌||◌, Bool, true, false, not, nat_lt}
use Rattle.std.proofs.Common.{List, [], ◌∷◌, map, arith, sym, ap, ◌∙◌, inl, inr, ◌⊎◌, subst}
use Rattle.std.specs.Prelude.{if◌then◌else◌, count_by, flat_map, All, Contains}
use Rattle.std.specs.List.{list_any}
use Rattle.std.proofs.lemmas.Bool.{cases_Bool, or_cases, and_parts}
use Rattle.std.proofs.lemmas.Bool.Decides.{nat_tests}
use Rattle.std.proofs.lemmas.List.Sums.{sum_by-cons}
use Rattle.std.proofs.lemmas.List.Folds.{list_any-append}
use Rattle.std.proofs.lemmas.List.Elements.{All-head, All-tail}
use Rattle.sd_base.proofs.Lists.{any_there}
use Rattle.sd_tree_keys.specs.Leaves.{is_member}
use Rattle.sd_book.specs.Commands.{revoked}
use Rattle.sd_cover_tracing.proofs.Partitions.{among_unrevoked}
use Rattle.sd_message.specs.EmmSpelled.{listed_entries}
use Rattle.sd_message.specs.Period.{emms_of}
use Rattle.sd_message.specs.declared.emm.Emm.{Emm}
use Rattle.sd_message.proofs.EmmSharing.{joined_are_all}
use Rattle.sd_spec.specs.Plan.{Plan, IsPlan, sets_at, period_in, period_of}
use Rattle.sd_spec.specs.Messages.{period_at, entry_of}
use Rattle.sd_spec.specs.Sent.{Item, Cat, Entitles, Controls, Carries}
use Rattle.sd_spec.specs.Items.{IsOfBroadcast, entitlement}
use Rattle.sd_spec.proofs.Periods.{section_number}
use Rattle.sd_law_broadcast.proofs.Covering.{sets_partition}
use Rattle.sd_law_losses.specs.Kept.{entitles, is_last_part, is_entitled_before}
use Rattle.sd_law_losses.specs.Confirmed.{is_revoked_in}

-- some are counted exactly where one passes
any_counted : {A : Type 0} (p : A → Bool) (xs : List A) → list_any p xs ≡ nat_lt 0 (count_by p xs)
any_counted p [] = refl
any_counted p (x ∷ xs) = by_test (cases_Bool (p x)) (any_counted p xs)
  where
    by_test : (p x ≡ true) ⊎ (p x ≡ false) → list_any p xs ≡ nat_lt 0 (count_by p xs) →
        list_any p (x ∷ xs) ≡ nat_lt 0 (count_by p (x ∷ xs))
    by_test (inl is) rest = rw (sum_by-cons (λ z. if p z then 1 else 0) x xs) (rw is (grind (arith, nat_tests)))
    by_test (inr is) rest = rw (sum_by-cons (λ z. if p z then 1 else 0) x xs) (rw is (rest ∙ ap (nat_lt 0)
        (omega arith)))

any_of_lists : {A B : Type 0} (p : B → Bool) (f : A → List B) (xs : List A) →
    list_any (λ x. list_any p (f x)) xs ≡ list_any p (flat_map f xs)
any_of_lists p f [] = refl
any_of_lists p f (x ∷ xs) =
    ap (λ (b : Bool). list_any p (f x) || b) (any_of_lists p f xs) ∙ sym (list_any-append p (f x) (flat_map f xs))

pub any_of_map : {A B : Type 0} (p : B → Bool) (f : A → B) (xs : List A) → list_any p (map f xs) ≡ list_any (λ x. p
    (f x)) xs
any_of_map p f [] = refl
any_of_map p f (x ∷ xs) = ap (λ (b : Bool). p (f x) || b) (any_of_map p f xs)

-- the section has a set with leaf u
abbrev pub has_set : Plan → ℕ → Emm → Bool
has_set plan u emm = list_any (λ entry. is_member plan.site.height entry.name u) (listed_entries emm)

-- the sets of a period have the leaves that are not revoked in it
sets_have : (plan : Plan) (q u : ℕ) → IsPlan plan → u < 2 ^ plan.site.height →
    list_any (λ name. is_member plan.site.height name u) (sets_at plan q) ≡ not (is_revoked_in plan u q)
sets_have plan q u is leaf =
    any_counted (λ name. is_member plan.site.height name u) (sets_at plan q)
    ∙ (ap (nat_lt 0) (sets_partition plan q is u leaf
    ∙ ap (λ (b : Bool). if b then 1 else 0) (among_unrevoked plan.site.height
    (revoked plan.site.height plan.commands q) u leaf))
    ∙ by_test (is_revoked_in plan u q))
  where
    by_test : (b : Bool) → nat_lt 0 (if not b then 1 else 0) ≡ not b
    by_test true = refl
    by_test false = refl

-- and so have its sections
pub sections_have : (plan : Plan) (q u : ℕ) → IsPlan plan → u < 2 ^ plan.site.height →
    list_any (has_set plan u) (emms_of (period_at plan q)) ≡ not (is_revoked_in plan u q)
unfolding period_at entry_of
sections_have plan q u is leaf =
    any_of_lists (λ entry. is_member plan.site.height entry.name u) listed_entries (emms_of (period_at plan q))
    ∙ (ap (list_any (λ entry. is_member plan.site.height entry.name u)) (joined_are_all (period_at plan q))
    ∙ (any_of_map (λ entry. is_member plan.site.height entry.name u) (entry_of plan.site q) (sets_at plan q)
    ∙ sets_have plan q u is leaf))

-- what entitles before a message entitles
pub entitles_at_all : (h u q a : ℕ) (kept : List Item) → is_entitled_before h u q a kept ≡ true →
    list_any (entitles h u q) kept ≡ true
unfolding is_entitled_before
entitles_at_all h u q a [] is = absurd (cc is)
entitles_at_all h u q a (item ∷ kept) is = by_last (cases_Bool (is_last_part a item))
    (λ rest. entitles_at_all h u q a kept rest)
  where
    by_entitled : (b : Bool) → entitles h u q item ≡ b →
        ((b && list_any (is_last_part a) kept) || is_entitled_before h u q a kept) ≡ true →
        (is_entitled_before h u q a kept ≡ true → list_any (entitles h u q) kept ≡ true) →
        (b || list_any (entitles h u q) kept) ≡ true
    by_entitled true same is rest = refl
    by_entitled false same is rest = rest is

    by_last : (is_last_part a item ≡ true) ⊎ (is_last_part a item ≡ false) →
        (is_entitled_before h u q a kept ≡ true → list_any (entitles h u q) kept ≡ true) →
        list_any (entitles h u q) (item ∷ kept) ≡ true
    by_last (inl last) rest = absurd (cc (rw last at is))
    by_last (inr other) rest = by_entitled (entitles h u q item) refl (rw other at is) rest

-- no packet is of a period before the first
pub period_above : (plan : Plan) (k : ℕ) → plan.site.first_period ≤ period_of plan k
unfolding period_of period_in
period_above plan k = omega arith

-- no thing of the broadcast entitles in a period before the first
none_before_first : (plan : Plan) (clear : List (List ℕ)) (q u : ℕ) (item : Item) → q < plan.site.first_period →
    IsOfBroadcast plan clear item → entitles plan.site.height u q item ≡ false
none_before_first plan clear q u (Entitles emm) low (entitlement k within there) =
    let is = section_number plan (period_of plan k) emm there in
    let from = period_above plan k in
    let other : (emm.period == q) ≡ false = grind (arith, nat_tests, low, is, from) in
    rw other refl
none_before_first plan clear q u Cat low of = refl
none_before_first plan clear q u (Controls one) low of = refl
none_before_first plan clear q u (Carries k packet) low of = refl

pub none_before : (plan : Plan) (clear : List (List ℕ)) (q u : ℕ) (items : List Item) → q < plan.site.first_period →
    All (IsOfBroadcast plan clear) items → list_any (entitles plan.site.height u q) items ≡ false
none_before plan clear q u [] low all = refl
none_before plan clear q u (item ∷ items) low all =
    rw (none_before_first plan clear q u item low (All-head (IsOfBroadcast plan clear) item items all))
    (none_before plan clear q u items low (All-tail (IsOfBroadcast plan clear) item items all))

-- a section of a packet's period that names a period names that one
pub named_period : (plan : Plan) (k q : ℕ) (emm : Emm) → Contains (emms_of (period_at plan (period_of plan k))) emm →
    (emm.period == q) ≡ true → period_of plan k ≡ q
named_period plan k q emm there is = grind (arith, nat_tests, is, section_number plan (period_of plan k) emm there)

-- a leaf that a thing of the broadcast entitles is not revoked in the period
entitled_one : (plan : Plan) (clear : List (List ℕ)) (q u : ℕ) (item : Item) → IsPlan plan → u < 2 ^ plan.site.height →
    IsOfBroadcast plan clear item → entitles plan.site.height u q item ≡ true → is_revoked_in plan u q ≡ false
entitled_one plan clear q u (Entitles emm) is leaf (entitlement k within there) told =
    let parts = and_parts (emm.period == q) (has_set plan u emm) told in
    let period = named_period plan k q emm there parts.0 in
    no_not (sym (sections_have plan q u is leaf)
    ∙ any_there (has_set plan u) (emms_of (period_at plan q)) emm
    (subst (λ (p : ℕ). Contains (emms_of (period_at plan p)) emm) period there) parts.1)
  where
    no_not : {b : Bool} → not b ≡ true → b ≡ false
    no_not {b} h = grind (arith, h)
entitled_one plan clear q u Cat is leaf of told = absurd (cc told)
entitled_one plan clear q u (Controls one) is leaf of told = absurd (cc told)
entitled_one plan clear q u (Carries k packet) is leaf of told = absurd (cc told)

pub entitled_ones : (plan : Plan) (clear : List (List ℕ)) (q u : ℕ) (items : List Item) → IsPlan plan →
    u < 2 ^ plan.site.height → All (IsOfBroadcast plan clear) items → list_any
    (entitles plan.site.height u q) items ≡ true →
    is_revoked_in plan u q ≡ false
entitled_ones plan clear q u [] is leaf all told = absurd (cc told)
entitled_ones plan clear q u (item ∷ items) is leaf all told =
    elim (or_cases (entitles plan.site.height u q item) (list_any (entitles plan.site.height u q) items) told) [
      | inl here ↦ entitled_one plan clear q u item is leaf (All-head (IsOfBroadcast plan clear) item items all) here
      | inr later ↦ entitled_ones plan clear q u items is leaf (All-tail
          (IsOfBroadcast plan clear) item items all) later
    ]
