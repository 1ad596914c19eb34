-- Which clear packets the messages confirm that have arrived.
use Rattle.std.proofs.Common.{◌≡◌, refl, ℕ, zero, suc, ◌+◌, ◌-◌, ◌/◌, ◌<◌, ◌≤◌, ◌&&◌, Bool, true, false}
use Rattle.std.proofs.Common.{List, [], ◌∷◌, filter, Option, Some, None, if◌then◌else◌}
use Rattle.std.proofs.Common.{arith, sym, ap, ◌∙◌}
use Rattle.std.specs.List.{range_with_len}
use Rattle.std.proofs.Math.Nat.{div-lt_iff_lt-mul, le-div_iff_mul-le}
use Rattle.std.proofs.lemmas.Bool.{and_right}
use Rattle.sd_base.proofs.Ranges.{filter_range}
use Rattle.sd_site_cards.specs.SiteFields.{AreInRange}
use Rattle.sd_spec.specs.Sent.{Item}
use Rattle.sd_law_losses.specs.Kept.{is_kept, kept_in, has_arrived, arrived, greatest_at_most, least_above}
use Rattle.sd_law_losses.specs.Confirmed.{packets_at, between, is_confirmed_at, is_written_between}
use Rattle.sd_law_losses.proofs.Neighbours.{greatest_none, greatest_is, least_none, least_is}
use Rattle.sd_law_losses.proofs.Setting.{Setting, final}
use Rattle.sd_law_losses.proofs.Pairs.{start_of, end_of, IsPair}
use Rattle.sd_law_losses.proofs.Between.{pair_packets, written_between}

-- clear packet j is confirmed
abbrev pub confirms : Setting → List Item → ℕ → Bool
confirms s kept j = is_confirmed_at s.plan s.card.leaf s.clear kept j

-- the clear packets of a range that are confirmed
abbrev pub confirmed_in : Setting → List Item → ℕ → ℕ → List (List ℕ)
confirmed_in s kept low high = packets_at s.clear (filter (confirms s kept) (range_with_len low (high - low)))

pub filter_twice : (f g : ℕ → Bool) (xs : List ℕ) → filter f (filter g xs) ≡ filter (λ x. g x && f x) xs
filter_twice f g [] = refl
filter_twice f g (x ∷ xs) = by_test (g x) (filter_twice f g xs)
  where
    by_test : (b : Bool) → filter f (filter g xs) ≡ filter (λ x. g x && f x) xs →
        filter f (if b then x ∷ filter g xs else filter g xs)
        ≡ (if b && f x then x ∷ filter (λ x. g x && f x) xs else filter (λ x. g x && f x) xs)
    by_test true rest = by_next (f x) rest
      where
        by_next : (c : Bool) → filter f (filter g xs) ≡ filter (λ x. g x && f x) xs →
            (if c then x ∷ filter f (filter g xs) else filter f (filter g xs))
            ≡ (if c then x ∷ filter (λ x. g x && f x) xs else filter (λ x. g x && f x) xs)
        by_next true rest = ap (λ (ys : List ℕ). x ∷ ys) rest
        by_next false rest = rest
    by_test false rest = rest

range_fails : (f : ℕ → Bool) (low n : ℕ) → ((j : ℕ) → low ≤ j → j < low + n → f j ≡ false) →
    filter f (range_with_len low n) ≡ []
range_fails f low zero none = refl
range_fails f low (suc n) none =
    rw (none low (omega arith) (omega arith))
    (range_fails f (low + 1) n (λ j from below. none j (omega (arith, from)) (omega (arith, below))))

-- between two neighbouring messages that have arrived, what is written is what is confirmed
pub neighbours : (s : Setting) (kept : List Item) (c a j : ℕ) → AreInRange s.plan.site → IsPair s c a →
    has_arrived kept c ≡ true → has_arrived kept a ≡ true → ((b : ℕ) → c < b → b < a → has_arrived kept b ≡ false) →
    start_of s c ≤ j → j < end_of s a → (is_kept kept j && written_between s kept c a j) ≡ confirms s kept j
unfolding is_confirmed_at arrived
neighbours s kept c a j range pair is_c is_a none from below =
    let some : 0 < s.plan.site.every = omega (arith, range.every.0) in
    let low : c ≤ j / s.plan.site.every = (le-div_iff_mul-le some).1 from in
    let high : j / s.plan.site.every < a = (div-lt_iff_lt-mul some).1 (omega (arith, below)) in
    let greatest = greatest_is (has_arrived kept) (j / s.plan.site.every) 0 (final s + 1) c (omega arith)
    (omega (arith, pair.below, pair.within)) low is_c (λ b above within. none b above (omega (arith, within, high))) in
    let least = least_is (has_arrived kept) (j / s.plan.site.every) 0 (final s + 1) a (omega arith)
    (omega (arith, pair.within)) high is_a (λ b above within. none b (omega (arith, above, low)) within) in
    ap (λ (b : Bool). is_kept kept j && b)
    (sym (ap (λ (g : Option ℕ). between g (least_above (j / s.plan.site.every) (filter (has_arrived kept)
    (range_with_len 0 (final s + 1))))
    (λ x y. is_written_between s.plan s.card.leaf s.clear kept j x y)) greatest
    ∙ ap (λ (l : Option ℕ). between (Some c) l (λ x y. is_written_between s.plan s.card.leaf s.clear kept j x y))
    least))

pub pair_confirmed : (s : Setting) (kept : List Item) (c a : ℕ) → AreInRange s.plan.site → IsPair s c a →
    has_arrived kept c ≡ true → has_arrived kept a ≡ true → ((b : ℕ) → c < b → b < a → has_arrived kept b ≡ false) →
    pair_packets s kept c a ≡ confirmed_in s kept (start_of s c) (end_of s a)
unfolding kept_in
pair_confirmed s kept c a range pair is_c is_a none =
    ap (packets_at s.clear)
    (filter_twice (written_between s kept c a) (is_kept kept) (range_with_len (start_of s c)
    (end_of s a - start_of s c))
    ∙ filter_range (λ j. is_kept kept j && written_between s kept c a j) (confirms s kept) (start_of s c)
    (end_of s a - start_of s c)
    (λ j from below. neighbours s kept c a j range pair is_c is_a none from (omega (arith, from, below))))

-- before the first message that has arrived none is confirmed
pub none_before : (s : Setting) (kept : List Item) (a high : ℕ) → AreInRange s.plan.site → high ≤ start_of s a →
    ((b : ℕ) → b < a → has_arrived kept b ≡ false) → confirmed_in s kept 0 high ≡ []
unfolding is_confirmed_at arrived
none_before s kept a high range within none =
    ap (packets_at s.clear) (range_fails (confirms s kept) 0 (high - 0) (λ j from below. unconfirmed j (omega
    (arith, below))))
  where
    unconfirmed : (j : ℕ) → j < high → confirms s kept j ≡ false
    unconfirmed j below =
        let some : 0 < s.plan.site.every = omega (arith, range.every.0) in
        let less : j / s.plan.site.every < a = (div-lt_iff_lt-mul some).1 (omega (arith, below, within)) in
        and_right (is_kept kept j) (between (greatest_at_most (j / s.plan.site.every) (filter (has_arrived kept)
        (range_with_len 0 (final s + 1))))
        (least_above (j / s.plan.site.every) (filter (has_arrived kept) (range_with_len 0 (final s + 1))))
        (λ x y. is_written_between s.plan s.card.leaf s.clear kept j x y))
        (ap (λ (g : Option ℕ). between g (least_above (j / s.plan.site.every) (filter (has_arrived kept)
        (range_with_len 0 (final s + 1))))
        (λ x y. is_written_between s.plan s.card.leaf s.clear kept j x y))
        (greatest_none (has_arrived kept) (j / s.plan.site.every) 0 (final s + 1) (λ c low to. none c (omega
        (arith, to, less)))))

-- and after the last one none is
pub none_after : (s : Setting) (kept : List Item) (c high : ℕ) → AreInRange s.plan.site →
    ((b : ℕ) → c < b → has_arrived kept b ≡ false) → confirmed_in s kept (start_of s c) high ≡ []
unfolding is_confirmed_at arrived
none_after s kept c high range none =
    ap (packets_at s.clear) (range_fails (confirms s kept) (start_of s c) (high - start_of s c)
    (λ j from below. unconfirmed j from))
  where
    no_next : (g : Option ℕ) (j : ℕ) → between g None (λ x y. is_written_between s.plan s.card.leaf s.clear kept j x
        y) ≡ false
    no_next None j = refl
    no_next (Some a) j = refl

    unconfirmed : (j : ℕ) → start_of s c ≤ j → confirms s kept j ≡ false
    unconfirmed j from =
        let some : 0 < s.plan.site.every = omega (arith, range.every.0) in
        let more : c ≤ j / s.plan.site.every = (le-div_iff_mul-le some).1 from in
        and_right (is_kept kept j) (between (greatest_at_most (j / s.plan.site.every) (filter (has_arrived kept)
        (range_with_len 0 (final s + 1))))
        (least_above (j / s.plan.site.every) (filter (has_arrived kept) (range_with_len 0 (final s + 1))))
        (λ x y. is_written_between s.plan s.card.leaf s.clear kept j x y))
        (ap (λ (l : Option ℕ). between (greatest_at_most (j / s.plan.site.every) (filter (has_arrived kept)
        (range_with_len 0 (final s + 1)))) l
        (λ x y. is_written_between s.plan s.card.leaf s.clear kept j x y))
        (least_none (has_arrived kept) (j / s.plan.site.every) 0 (final s + 1) (λ b above to. none b (omega
        (arith, above, more))))
        ∙ no_next (greatest_at_most (j / s.plan.site.every) (filter (has_arrived kept) (range_with_len 0
        (final s + 1)))) j)
