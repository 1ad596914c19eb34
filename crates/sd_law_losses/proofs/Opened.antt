-- What is confirmed is a part of what the leaf is entitled to.
use Rattle.std.proofs.Common.{◌≡◌, refl, ℕ, ◌*◌, ◌/◌, ◌<◌, ◌≤◌, ◌^◌, ◌&&◌, Bool, true, false, not, nat_lt, nat_le}
use Rattle.std.proofs.Common.{List, [], ◌∷◌, ◌++◌, map, filter, length, Option, Some, None, arith, sym, ap, ◌∙◌, inl}
use Rattle.std.proofs.Common.{inr, ◌⊎◌}
use Rattle.std.specs.Prelude.{if◌then◌else◌, All}
use Rattle.std.specs.List.{list_any, range_with_len}
use Rattle.std.proofs.lemmas.Bool.{cases_Bool, and_parts}
use Rattle.std.proofs.lemmas.Bool.Decides.{nat_tests}
use Rattle.std.proofs.lemmas.List.Elements.{All-nil, All-tail}
use Rattle.std.proofs.Math.Nat.{div-lt_iff_lt-mul, le-div_iff_mul-le}
use Rattle.sd_site_cards.specs.SiteFields.{AreInRange}
use Rattle.sd_spec.specs.Plan.{Plan, IsPlan, period_in, period_of, since_of, closing_number}
use Rattle.sd_spec.specs.Sent.{Item, Cat, Entitles, Controls, Carries, sent, closing_of}
use Rattle.sd_spec.specs.Items.{IsOfBroadcast}
use Rattle.sd_spec.proofs.Schedule.{same_crypto}
use Rattle.sd_spec.proofs.Items.{all_are_of_broadcast}
use Rattle.sd_law_losses.specs.Chosen.{chosen}
use Rattle.sd_law_losses.specs.Kept.{is_kept, arrived, greatest_at_most, least_above, is_entitled_before, after_cat}
use Rattle.sd_law_losses.specs.Confirmed.{packet_at, packets_at, kept_between, is_open, is_written_between, between}
use Rattle.sd_law_losses.specs.Confirmed.{is_confirmed_at, confirmed}
use Rattle.sd_law_losses.specs.Confirmed.{is_revoked_in, opened_by}
use Rattle.sd_law_losses.proofs.Later.{chosen_map, chosen_all_of}
use Rattle.sd_law_losses.proofs.Entitled.{entitles_at_all, entitled_ones}

-- the greatest at most n is at most n, and the least above it is above it
greatest_within : (n a : ℕ) (numbers : List ℕ) → greatest_at_most n numbers ≡ Some a → a ≤ n
unfolding greatest_at_most
greatest_within n a [] is = absurd (cc is)
greatest_within n a (b ∷ numbers) is = by_test (cases_Bool (nat_lt n b)) (λ rest. greatest_within n a numbers rest)
  where
    by_more : (c : Bool) → (if c then greatest_at_most n numbers else Some b) ≡ Some a → b ≤ n →
        (greatest_at_most n numbers ≡ Some a → a ≤ n) → a ≤ n
    by_more true is below rest = rest is
    by_more false is below rest = let same : b ≡ a = cc is in omega (arith, same, below)

    by_test : (nat_lt n b ≡ true) ⊎ (nat_lt n b ≡ false) → (greatest_at_most n numbers ≡ Some a → a ≤ n) → a ≤ n
    by_test (inl above) rest = absurd (cc (rw above at is))
    by_test (inr within) rest = by_more (list_any (λ b. nat_le b n) numbers) (rw within at is) (grind
        (arith, nat_tests, within)) rest

least_beyond : (n b : ℕ) (numbers : List ℕ) → least_above n numbers ≡ Some b → n < b
unfolding least_above
least_beyond n b [] is = absurd (cc is)
least_beyond n b (c ∷ numbers) is = by_test (cases_Bool (nat_lt n c)) (λ rest. least_beyond n b numbers rest)
  where
    by_test : (nat_lt n c ≡ true) ⊎ (nat_lt n c ≡ false) → (least_above n numbers ≡ Some b → n < b) → n < b
    by_test (inl above) rest = let same : c ≡ b = cc (rw above at is) in grind (arith, nat_tests, above, same)
    by_test (inr within) rest = rest (rw within at is)

-- what stands after the CAT is of the broadcast
pub after_all : (P : Item → Type 0) (items : List Item) → All P items → All P (after_cat items)
unfolding after_cat
after_all P [] all = All-nil P
after_all P (Cat ∷ items) all = All-tail P Cat items all
after_all P (Entitles emm ∷ items) all = after_all P items (All-tail P (Entitles emm) items all)
after_all P (Controls part ∷ items) all = after_all P items (All-tail P (Controls part) items all)
after_all P (Carries k packet ∷ items) all = after_all P items (All-tail P (Carries k packet) items all)

-- the packets of an open pair are of the period with whose first packet the pair begins
pub one_period : (plan : Plan) (a b j : ℕ) → AreInRange plan.site → since_of plan.site.messages plan.site.cryptos b ≤
    a →
    a ≤ j / plan.site.every → j / plan.site.every < b → period_of plan j ≡ period_of plan (a * plan.site.every)
unfolding period_of
one_period plan a b j range since from below =
    let some : 0 < plan.site.every = omega (arith, range.every.0) in
    ap (period_in plan)
    (same_crypto plan.site plan.site.messages a b j range since (omega (arith, from, below))
    ((le-div_iff_mul-le some).0 from) ((div-lt_iff_lt-mul some).0 below))

-- an open pair
open_says : (plan : Plan) (u : ℕ) (clear : List (List ℕ)) (kept : List Item) (a b : ℕ) →
    is_open plan u clear kept a b ≡ true →
    (since_of plan.site.messages plan.site.cryptos b ≤ a)
    × (is_entitled_before plan.site.height u (period_of plan (a * plan.site.every)) a kept ≡ true)
unfolding is_open
open_says plan u clear kept a b is =
    let first = and_parts (nat_le (since_of plan.site.messages plan.site.cryptos b) a)
    (is_entitled_before plan.site.height u (period_of plan (a * plan.site.every)) a kept
    && nat_le (length (kept_between plan clear kept a b)) 4096) is in
    let rest = and_parts (is_entitled_before plan.site.height u (period_of plan (a * plan.site.every)) a kept)
    (nat_le (length (kept_between plan clear kept a b)) 4096) first.1 in
    (grind (arith, nat_tests, first.0), rest.0)

-- a packet that is confirmed is of a period in which the leaf is not revoked
pub confirmed_open : (plan : Plan) (clear : List (List ℕ)) (u j : ℕ) (kept : List Item) → IsPlan plan →
    u < 2 ^ plan.site.height →
    All (IsOfBroadcast plan clear) kept → is_confirmed_at plan u clear kept j ≡ true →
    not (is_revoked_in plan u (period_of plan j)) ≡ true
unfolding is_confirmed_at
confirmed_open plan clear u j kept is leaf all told =
    by_both (greatest_at_most (j / plan.site.every) numbers) (least_above (j / plan.site.every) numbers) refl refl
    (and_parts (is_kept kept j) (between (greatest_at_most (j / plan.site.every) numbers) (least_above
    (j / plan.site.every) numbers)
    (λ x y. is_written_between plan u clear kept j x y)) told).1
  where
    numbers : List ℕ
    numbers = arrived (closing_number plan.site (length clear)) kept

    by_both : (g l : Option ℕ) → greatest_at_most (j / plan.site.every) numbers ≡ g → least_above
        (j / plan.site.every) numbers ≡ l →
        between g l (λ x y. is_written_between plan u clear kept j x y) ≡ true → not (is_revoked_in plan u
        (period_of plan j)) ≡ true
    by_both None l low high written = absurd (cc written)
    by_both (Some a) None low high written = absurd (cc written)
    by_both (Some a) (Some b) low high written =
        let opens = open_says plan u clear kept a b (and_parts (is_open plan u clear kept a b) _ written).0 in
        let period = one_period plan a b j is.site opens.0 (greatest_within (j / plan.site.every) a numbers low)
        (least_beyond (j / plan.site.every) b numbers high) in
        ap not (ap (is_revoked_in plan u) period
        ∙ entitled_ones plan clear (period_of plan (a * plan.site.every)) u kept is leaf all
        (entitles_at_all plan.site.height u (period_of plan (a * plan.site.every)) a kept opens.1))

-- what passes a narrower test is a choice of what passes a wider one
narrower : (f g : ℕ → Bool) (xs : List ℕ) → ((x : ℕ) → f x ≡ true → g x ≡ true) →
    filter f xs ≡ chosen (map f (filter g xs)) (filter g xs)
unfolding chosen
narrower f g [] wide = refl
narrower f g (x ∷ xs) wide = by_test (cases_Bool (f x)) (cases_Bool (g x)) (narrower f g xs wide)
  where
    by_test : (f x ≡ true) ⊎ (f x ≡ false) → (g x ≡ true) ⊎ (g x ≡ false) →
        filter f xs ≡ chosen (map f (filter g xs)) (filter g xs) →
        filter f (x ∷ xs) ≡ chosen (map f (filter g (x ∷ xs))) (filter g (x ∷ xs))
    by_test (inl is) other rest = rw (wide x is) (rw is (ap (λ (ys : List ℕ). x ∷ ys) rest))
    by_test (inr is) (inl inside) rest = rw inside (rw is rest)
    by_test (inr is) (inr outside) rest = rw outside (rw is rest)

-- so what is confirmed is a part of what is opened, in its order
pub confirmed_are_opened : (plan : Plan) (clear : List (List ℕ)) (u : ℕ) (flags : List Bool) → IsPlan plan →
    u < 2 ^ plan.site.height →
    (parts : List Bool) × (confirmed plan u clear (chosen flags (sent plan clear ++ closing_of plan clear))
    ≡ chosen parts (opened_by plan u clear))
unfolding confirmed opened_by
confirmed_are_opened plan clear u flags is leaf = (
  map (is_confirmed_at plan u clear kept) (filter opens (range_with_len 0 (length clear))),
  ap (packets_at clear) (narrower (is_confirmed_at plan u clear kept) opens (range_with_len 0 (length clear))
      (λ j told. confirmed_open plan clear u j kept is leaf all told))
      ∙ sym (chosen_map (packet_at clear) (map (is_confirmed_at plan u clear kept) (filter opens (range_with_len 0
      (length clear))))
      (filter opens (range_with_len 0 (length clear)))),
)
  where
    items : List Item
    items = chosen flags (sent plan clear ++ closing_of plan clear)

    kept : List Item
    kept = after_cat items

    opens : ℕ → Bool
    opens j = not (is_revoked_in plan u (period_of plan j))

    all : All (IsOfBroadcast plan clear) kept
    all = after_all (IsOfBroadcast plan clear) items
        (chosen_all_of (IsOfBroadcast plan clear) flags (sent plan clear ++ closing_of plan clear)
        (all_are_of_broadcast plan clear))
