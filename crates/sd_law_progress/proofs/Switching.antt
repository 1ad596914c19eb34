-- What is confirmed of a broadcast that is cut off, and of one that is joined while it runs.
use Rattle.std.proofs.Common.{◌≡◌, refl, ℕ, zero, suc, ◌+◌, ◌-◌, ◌*◌, ◌/◌, ◌%◌, ◌<◌, ◌≤◌, ◌==◌, ◌&&◌, Bool}
use Rattle.std.proofs.Common.{true, false, nat_le, List, [], ◌∷◌, ◌++◌, map, filter, length, take, drop, replicate}
use Rattle.std.proofs.Common.{arith}
use Rattle.std.proofs.Common.{sym, ap, ◌∙◌, inl, inr, ◌⊎◌, append_assoc, append-nil, Option, Some, None}
use Rattle.std.specs.Prelude.{if◌then◌else◌, count_by}
use Rattle.std.specs.List.{list_any, range_with_len}
use Rattle.std.proofs.lemmas.Bool.{cases_eq, cases_lt, and_right}
use Rattle.std.proofs.lemmas.Bool.Decides.{nat_tests}
use Rattle.std.proofs.lemmas.List.{take_all, get_or-replicate, drop_at, take_at}
use Rattle.std.proofs.lemmas.List.{length-drop, drop-replicate}
use Rattle.std.proofs.lemmas.List.Sums.{count_by-le-length}
use Rattle.std.proofs.Math.Nat.{div-mul-le_self, lt-div-mul-add, div-lt_iff_lt-mul, le-div_iff_mul-le, div-eq_of_lt}
use Rattle.std.proofs.Math.Nat.{mul-mod_left, mul_assoc, mul_comm, mul-le-mul_right}
use Rattle.sd_base.proofs.Bools.{and_false}
use Rattle.sd_site_cards.specs.SiteFields.{SiteFields, AreInRange}
use Rattle.sd_message.specs.Period.{emms_of}
use Rattle.sd_message.specs.EcmParts.{parts_of}
use Rattle.sd_spec.specs.Plan.{Plan, crypto_length, period_of, since_of, closing_number}
use Rattle.sd_spec.specs.Messages.{period_at}
use Rattle.sd_spec.specs.Sent.{Item, Cat, Entitles, Controls, sent, sent_from, tables_at, tables_before, is_cat_item}
use Rattle.sd_spec.proofs.Schedule.{crypto_length_some, closing_covers}
use Rattle.std.proofs.lemmas.Nat.{div-add-mod'}
use Rattle.sd_law_losses.specs.Chosen.{chosen}
use Rattle.sd_law_losses.specs.Kept.{is_kept, has_arrived, arrived, greatest_at_most, least_above, entitles}
use Rattle.sd_law_losses.specs.Kept.{is_entitled_before, after_cat}
use Rattle.sd_law_losses.specs.Confirmed.{packets_at, kept_between, between, is_open, is_written_between}
use Rattle.sd_law_losses.specs.Confirmed.{is_confirmed_at, confirmed}
use Rattle.sd_law_losses.specs.Confirmed.{opened_by}
use Rattle.sd_law_losses.specs.Many.{flags_after}
use Rattle.sd_law_losses.proofs.Coming.{chosen_none}
use Rattle.sd_law_losses.proofs.Arriving.{is_of, none_arrived, none_entitles}
use Rattle.sd_law_losses.proofs.Neighbours.{greatest_none, greatest_is, least_none}
use Rattle.sd_law_losses.proofs.Setting.{Setting, AreLaws, final, told_by}
use Rattle.sd_law_losses.proofs.Pairs.{start_of}
use Rattle.sd_law_losses.proofs.Carrying.{carrying}
use Rattle.sd_law_losses.proofs.Remaining.{parts_before, group_at, rest_at, number_within}
use Rattle.sd_law_losses.proofs.Later.{numbers_later}
use Rattle.sd_law_losses.proofs.AllOpened.{sections_entitle, all_are_opened}
use Rattle.sd_law_losses.proofs.Standing.{pre_at, pre_any, sent_split, any_first, any_second, pre_numbers}
use Rattle.sd_law_losses.proofs.Runs.{begins_by}
use Rattle.sd_law_losses.proofs.Lawful.{setting}
use Rattle.sd_law_progress.specs.Progress.{things, is_due, is_clear_item, due_in, confirmed_in}
use Rattle.sd_law_progress.specs.Switches.{place_behind, last_message_at, next_crypto_at}
use Rattle.sd_law_progress.proofs.Given.{IsSentTo, laws_of}
use Rattle.sd_law_progress.proofs.Splits.{mid_at, fails_joined, after_fails}
use Rattle.sd_law_progress.proofs.Counts.{count_pre, place_past}
use Rattle.sd_law_progress.proofs.Between.{arrives, knows}
use Rattle.sd_law_progress.proofs.Back.{sent_is, from_message, behind, all_back, rest_from, none_from, of_from}
use Rattle.sd_law_progress.proofs.Returns.{confirmed_parts, confirmed_due}
use Rattle.sd_law_progress.proofs.Damage.{IsPlaced, placed, parts_at, front_at, kept_to, before_due, count_front}

-- all flags set, and none
chosen_first : {A : Type 0} (n : ℕ) (xs : List A) → chosen (replicate n true) xs ≡ take n xs
unfolding chosen
chosen_first zero xs = refl
chosen_first (suc n) [] = refl
chosen_first (suc n) (x ∷ xs) = ap (λ (ys : List _). x ∷ ys) (chosen_first n xs)

chosen_skips : {A : Type 0} (n : ℕ) (flags : List Bool) (xs : List A) →
    chosen (replicate n false ++ flags) xs ≡ chosen flags (drop n xs)
unfolding chosen
chosen_skips zero flags xs = refl
chosen_skips (suc n) flags [] = sym (chosen_none flags)
chosen_skips (suc n) flags (x ∷ xs) = chosen_skips n flags xs

range_fails : (f : ℕ → Bool) (low n : ℕ) → ((j : ℕ) → low ≤ j → j < low + n → f j ≡ false) →
    filter f (range_with_len low n) ≡ []
range_fails f low zero none = refl
range_fails f low (suc n) none =
    rw (none low (omega arith) (omega arith))
    (range_fails f (low + 1) n (λ j from below. none j (omega (arith, from)) (omega (arith, below))))

-- where nothing is confirmed
confirmed_none : (plan : Plan) (clear : List (List ℕ)) (u low high : ℕ) (kept : List Item) →
    ((j : ℕ) → low ≤ j → j < high → is_confirmed_at plan u clear (after_cat kept) j ≡ false) →
    confirmed_in plan u clear kept low high ≡ []
unfolding confirmed_in
confirmed_none plan clear u low high kept none =
    ap (packets_at clear) (range_fails (is_confirmed_at plan u clear (after_cat kept)) low (high - low)
    (λ j above below. none j above (omega (arith, above, below))))

-- what comes before the first crypto period, and where one begins
pub next_bounds : (site : SiteFields) (j : ℕ) → AreInRange site →
    (j ≤ next_crypto_at site j) × (next_crypto_at site j < j + crypto_length site)
next_bounds site j range =
    let some = crypto_length_some site range in
    let low = div-mul-le_self (j + crypto_length site - 1) (crypto_length site) in
    let high : j + crypto_length site - 1 < (j + crypto_length site - 1) / crypto_length site * crypto_length site +
    crypto_length site = lt-div-mul-add some in
    (omega (arith, high, some), omega (arith, low, some))

pub last_bounds : (site : SiteFields) (i : ℕ) → AreInRange site → 0 < i →
    (last_message_at site i < i) × (i ≤ last_message_at site i + site.every)
last_bounds site i range some =
    let low = div-mul-le_self (i - 1) site.every in
    let high : i - 1 < (i - 1) / site.every * site.every + site.every = lt-div-mul-add (omega (arith, range.every.0)) in
    (omega (arith, low, some), omega (arith, high, some))

-- the first crypto period begins with the broadcast
next_first : (site : SiteFields) → AreInRange site → next_crypto_at site 0 ≡ 0
next_first site range =
    let some = crypto_length_some site range in
    let none : (0 + crypto_length site - 1) / crypto_length site ≡ 0 = div-eq_of_lt (omega (arith, some)) in
    ap (λ (q : ℕ). q * crypto_length site) none ∙ no_times (crypto_length site)
  where
    no_times : (n : ℕ) → 0 * n ≡ 0
    no_times n = omega arith

-- how far a crypto period begins behind the last message
pub both_bounds : (site : SiteFields) (i : ℕ) → AreInRange site → 0 < i →
    (last_message_at site i + site.every ≤ next_crypto_at site i)
    × (next_crypto_at site i ≤ last_message_at site i + crypto_length site)
both_bounds site i range some = (omega (arith, low, grown, next_is), omega (arith, high, next_is, next_grown))
  where
    some_every : 0 < site.every
    some_every = omega (arith, range.every.0)

    next : (i ≤ next_crypto_at site i) × (next_crypto_at site i < i + crypto_length site)
    next = next_bounds site i range

    n : ℕ
    n = (i - 1) / site.every

    q : ℕ
    q = (i + crypto_length site - 1) / crypto_length site

    grown : (n + 1) * site.every ≡ n * site.every + site.every
    grown = grind arith

    times : (k : ℕ) → (k * site.cryptos) * site.every ≡ k * crypto_length site
    times k = mul_assoc k site.cryptos site.every ∙ ap (λ (length : ℕ). k * length) (mul_comm site.cryptos site.every)

    next_is : (q * site.cryptos) * site.every ≡ next_crypto_at site i
    next_is = times q

    -- a crypto period begins behind the last message
    above : n < q * site.cryptos
    above = (div-lt_iff_lt-mul some_every).1 (omega (arith, next_is, next, some))

    low : (n + 1) * site.every ≤ (q * site.cryptos) * site.every
    low = mul-le-mul_right site.every (omega (arith, above))

    first : 0 < q
    first = by_some (cases_eq q 0)
      where
        by_some : (q ≡ 0) ⊎ (q ≡ 0 → ⊥) → 0 < q
        by_some (inr other) = omega (arith, other)
        by_some (inl none) =
            let no_next : next_crypto_at site i ≡ 0 = ap (λ (k : ℕ). k * crypto_length site) none
            ∙ no_times (crypto_length site) in
            absurd (omega (arith, no_next, next, some))
          where
            no_times : (k : ℕ) → 0 * k ≡ 0
            no_times k = omega arith

    -- and the one before it does not
    next_grown : next_crypto_at site i ≡ ((q - 1) * site.cryptos) * site.every + crypto_length site
    next_grown =
        let more : q ≡ (q - 1) + 1 = omega (arith, first) in
        ap (λ (k : ℕ). k * crypto_length site) more
        ∙ (step (q - 1) (crypto_length site)
        ∙ ap (λ (k : ℕ). k + crypto_length site) (sym (times (q - 1))))
      where
        step : (k m : ℕ) → (k + 1) * m ≡ k * m + m
        step k m = grind arith

    below : (q - 1) * site.cryptos ≤ n
    below = (le-div_iff_mul-le some_every).1 (omega (arith, next_grown, next))

    high : ((q - 1) * site.cryptos) * site.every ≤ n * site.every
    high = mul-le-mul_right site.every below

module _ (plan : Plan) (clear : List (List ℕ)) (u : ℕ) (is : IsSentTo plan clear u) where
  abbrev s : Setting
  s = setting plan clear u

  laws : AreLaws s
  laws = laws_of plan clear u is

  -- the last message up to packet j's that has arrived, and the first one behind it
  abbrev last_arrived : List Item → ℕ → Option ℕ
  last_arrived kept j =
      greatest_at_most (j / plan.site.every) (filter (has_arrived kept) (range_with_len 0 (final s + 1)))

  abbrev next_arrived : List Item → ℕ → Option ℕ
  next_arrived kept j = least_above (j / plan.site.every) (filter (has_arrived kept) (range_with_len 0 (final s + 1)))

  -- a packet that isn't written between them isn't confirmed
  unwritten : (kept : List Item) (j : ℕ) →
      between (last_arrived kept j) (next_arrived kept j) (is_written_between plan u clear kept j) ≡ false →
      is_confirmed_at plan u clear kept j ≡ false
  unfolding is_confirmed_at arrived
  unwritten kept j = and_right (is_kept kept j)
      (between (last_arrived kept j) (next_arrived kept j) (is_written_between plan u clear kept j))

  -- where no later message has arrived nothing is confirmed
  none_later : (kept : List Item) (j : ℕ) → ((b : ℕ) → j / plan.site.every < b → has_arrived kept b ≡ false) →
      is_confirmed_at plan u clear kept j ≡ false
  none_later kept j none =
      unwritten kept j (ap (λ (l : Option ℕ). between (last_arrived kept j) l (is_written_between plan u clear kept j))
      (least_none (has_arrived kept) (j / plan.site.every) 0 (final s + 1) (λ b above below. none b above))
      ∙ no_next (last_arrived kept j))
    where
      no_next : (g : Option ℕ) → between g None (is_written_between plan u clear kept j) ≡ false
      no_next None = refl
      no_next (Some a) = refl

  -- nor where no earlier one has
  none_earlier : (kept : List Item) (j : ℕ) → ((b : ℕ) → b ≤ j / plan.site.every → has_arrived kept b ≡ false) →
      is_confirmed_at plan u clear kept j ≡ false
  none_earlier kept j none =
      unwritten kept j (ap (λ (g : Option ℕ). between g (next_arrived kept j) (is_written_between plan u clear kept j))
      (greatest_none (has_arrived kept) (j / plan.site.every) 0 (final s + 1) (λ b above below. none b below)))

  -- nor where the key isn't had
  shut_unknown : (kept : List Item) (a b : ℕ) →
      is_entitled_before plan.site.height u (period_of plan (start_of s a)) a kept ≡ false →
      is_open plan u clear kept a b ≡ false
  unfolding is_open
  shut_unknown kept a b told =
      ap (λ (t : Bool). nat_le (since_of plan.site.messages plan.site.cryptos b) a
      && (t && nat_le (length (kept_between plan clear kept a b)) 4096)) told
      ∙ and_false (nat_le (since_of plan.site.messages plan.site.cryptos b) a)

  none_between : (kept : List Item) (a j : ℕ) (l : Option ℕ) →
      is_entitled_before plan.site.height u (period_of plan (start_of s a)) a kept ≡ false →
      between (Some a) l (is_written_between plan u clear kept j) ≡ false
  none_between kept a j None told = refl
  none_between kept a j (Some b) told = rw (shut_unknown kept a b told) refl

  none_known : (kept : List Item) (j : ℕ) → j < length clear → has_arrived kept (j / plan.site.every) ≡ true →
      is_entitled_before plan.site.height u (period_of plan (start_of s (j / plan.site.every)))
      (j / plan.site.every) kept ≡ false → is_confirmed_at plan u clear kept j ≡ false
  unfolding is_confirmed_at arrived
  none_known kept j within there told =
      and_right (is_kept kept j) (between (greatest_at_most (j / plan.site.every) (filter (has_arrived kept)
      (range_with_len 0 (final s + 1))))
      (least_above (j / plan.site.every) (filter (has_arrived kept) (range_with_len 0 (final s + 1))))
      (is_written_between plan u clear kept j))
      (ap (λ (g : Option ℕ). between g (least_above (j / plan.site.every) (filter (has_arrived kept) (range_with_len 0
      (final s + 1)))) (is_written_between plan u clear kept j))
      (greatest_is (has_arrived kept) (j / plan.site.every) 0 (final s + 1) (j / plan.site.every) (omega arith)
      (omega (arith, number_within s j is.plan.site within)) (omega arith) there
      (λ c above below. absurd (omega (arith, above, below))))
      ∙ none_between kept (j / plan.site.every) j
      (least_above (j / plan.site.every) (filter (has_arrived kept) (range_with_len 0 (final s + 1)))) told)

  -- of a broadcast that is cut off all that is due is confirmed before its last message, and no more
  pub cut_confirmed : (i : ℕ) → 0 < i → i ≤ length clear →
      confirmed plan u clear (chosen (replicate (place_behind plan clear i) true) (things plan clear))
      ≡ due_in plan u clear 0 (last_message_at plan.site i)
  cut_confirmed i some within =
      confirmed_parts plan clear u at kept (omega (arith, bounds, within))
      ∙ (ap (λ (packets : List (List ℕ)). packets ++ confirmed_in plan u clear kept at (length clear))
      (confirmed_due plan clear u 0 at kept (λ j above below. before j below))
      ∙ (ap (λ (packets : List (List ℕ)). due_in plan u clear 0 at ++ packets)
      (confirmed_none plan clear u at (length clear) kept (λ j above below. after j above))
      ∙ append-nil (due_in plan u clear 0 at)))
    where
      at : ℕ
      at = last_message_at plan.site i

      n : ℕ
      n = (i - 1) / plan.site.every

      bounds : (at < i) × (i ≤ at + plan.site.every)
      bounds = last_bounds plan.site i is.plan.site some

      x : ℕ
      x = place_behind plan clear i

      flags : List Bool
      flags = replicate x true

      kept : List Item
      kept = chosen flags (things plan clear)

      taken : take x (things plan clear) ≡ pre_at s i
      taken =
          ap (take x) (sent_split s i is.plan.site within
          ∙ ap (λ (items : List Item). items ++ rest_at s i) (sym (sent_is plan clear u is i within)))
          ∙ (take_at (sent plan (take i clear)) (rest_at s i) x refl ∙ sent_is plan clear u is i within)

      kept_is : kept ≡ pre_at s i
      kept_is = chosen_first x (things plan clear) ∙ taken

      place : IsPlaced plan clear u is n
      place = placed plan clear u is n (omega (
        arith,
        number_within s (i - 1) is.plan.site (omega
            (arith, some, within)),
      ))

      reached : length (front_at plan clear u is n place ++ parts_at plan clear u is n)
          ≤ x
      reached = place_past x (things plan clear)
          (front_at plan clear u is n place ++ parts_at plan clear u is n) place.later
          (place.same ∙ sym (append_assoc (front_at plan clear u is n place)
          (parts_at plan clear u is n) place.later))
          (omega (
            arith,
            count_front plan clear u is n place,
            bounds,
            ap (count_by is_clear_item) taken,
            count_pre s i is.plan.site within,
          ))

      before : (j : ℕ) → j < at → is_confirmed_at plan u clear (after_cat kept) j ≡ is_due plan u j
      before j below =
          let (rest, same) = kept_to plan clear u is n x flags place
          (λ k from under. get_or-replicate x k true false (omega (arith, under))) reached in
          before_due plan clear u is n place kept rest same j below
          (omega (arith, below, bounds, within))

      after : (j : ℕ) → at ≤ j → is_confirmed_at plan u clear (after_cat kept) j ≡ false
      after j above =
          none_later (after_cat kept) j
          (λ b later. none_arrived (after_cat kept) b (after_fails (is_of b) kept (ap (list_any (is_of b)) kept_is
          ∙ pre_numbers s laws i b within (omega (arith, number, later, reached_at)))))
        where
          some_every : 0 < plan.site.every
          some_every = omega (arith, is.plan.site.every.0)

          reached_at : n ≤ j / plan.site.every
          reached_at = (le-div_iff_mul-le some_every).1 above

          number : closing_number plan.site i ≤ n + 1
          number =
              let grown : (n + 1 + 1) * plan.site.every ≡ (n * plan.site.every + plan.site.every) + plan.site.every =
              grind arith in
              let less : closing_number plan.site i < n + 1 + 1 =
              (div-lt_iff_lt-mul some_every).1 (omega (arith, grown, bounds, some_every)) in
              omega (arith, less)

  -- it has the CAT
  pub cut_has_cat : (i : ℕ) → 0 < i → i ≤ length clear →
      list_any is_cat_item (chosen (replicate (place_behind plan clear i) true) (things plan clear)) ≡ true
  unfolding tables_at
  cut_has_cat i some within =
      ap (list_any is_cat_item) (chosen_first (place_behind plan clear i) (things plan clear)
      ∙ (ap (take (place_behind plan clear i)) (sent_split s i is.plan.site within
      ∙ ap (λ (items : List Item). items ++ rest_at s i) (sym (sent_is plan clear u is i within)))
      ∙ (take_at (sent plan (take i clear)) (rest_at s i) (place_behind plan clear i) refl
      ∙ sent_is plan clear u is i within)))
      ∙ pre_any s is_cat_item 0 i some (any_first is_cat_item (tables_before plan 0) (parts_before s 0
      ++ carrying s 0 ∷ []) tables)
    where
      first : (0 % crypto_length plan.site == 0) ≡ true
      first = let none : 0 % crypto_length plan.site ≡ 0 = omega arith in grind (arith, nat_tests, none)

      tables : list_any is_cat_item (tables_before plan 0) ≡ true
      tables = ap (λ (b : Bool). list_any is_cat_item (if b then tables_at plan 0 else [])) first

  -- no tables stand between a packet and the next crypto period
  no_tables : (j k : ℕ) → j ≤ k → k < next_crypto_at plan.site j → (k % crypto_length plan.site == 0) ≡ false
  no_tables j k from below = by_test (cases_eq (k % crypto_length plan.site) 0)
    where
      some : 0 < crypto_length plan.site
      some = crypto_length_some plan.site is.plan.site

      by_test : (k % crypto_length plan.site ≡ 0) ⊎ (k % crypto_length plan.site ≡ 0 → ⊥) →
          (k % crypto_length plan.site == 0) ≡ false
      by_test (inr other) = grind (arith, nat_tests, other)
      by_test (inl whole) =
          let q : ℕ = k / crypto_length plan.site in
          let at : q * crypto_length plan.site ≡ k = omega (arith, div-add-mod' k (crypto_length plan.site), whole) in
          let grown : (q + 1) * crypto_length plan.site ≡ q * crypto_length plan.site + crypto_length plan.site =
          grind arith in
          let less : (j + crypto_length plan.site - 1) / crypto_length plan.site < q + 1 =
          (div-lt_iff_lt-mul some).1 (omega (arith, grown, at, from, some)) in
          let low : next_crypto_at plan.site j ≤ q * crypto_length plan.site =
          mul-le-mul_right (crypto_length plan.site) (omega (arith, less)) in
          absurd (omega (arith, low, at, below))

  -- so nothing entitles there
  nothing_entitles : (q j n : ℕ) → j + n ≤ next_crypto_at plan.site j →
      list_any (entitles plan.site.height u q) (mid_at s j n) ≡ false
  unfolding mid_at
  nothing_entitles q j zero within = refl
  nothing_entitles q j (suc n) within =
      fails_joined (entitles plan.site.height u q) (mid_at s j n) (group_at s (j + n))
      (nothing_entitles q j n (omega (arith, within)))
      (ap (λ (b : Bool). list_any (entitles plan.site.height u q) ((if b then tables_at plan (j + n) else [])
      ++ (parts_before s (j + n) ++ carrying s (j + n) ∷ []))) (no_tables j (j + n) (omega arith) (omega
      (arith, within)))
      ∙ fails_joined (entitles plan.site.height u q) (parts_before s (j + n)) (carrying s (j + n) ∷ [])
      (by_test ((j + n) % plan.site.every == 0)) refl)
    where
      by_test : (b : Bool) → list_any (entitles plan.site.height u q) (if b then map Controls (parts_of (told_by s
          ((j + n) / plan.site.every))) else []) ≡ false
      by_test true = none_entitles plan.site.height u q (parts_of (told_by s ((j + n) / plan.site.every)))
      by_test false = refl

  -- of what is sent from packet j on nothing is confirmed before the next crypto period
  joined_none : (j i : ℕ) → j ≤ length clear → i < next_crypto_at plan.site j → i < length clear →
      is_confirmed_at plan u clear (rest_at s j) i ≡ false
  joined_none j i inside before within = by_number (cases_lt a (closing_number plan.site j))
    where
      a : ℕ
      a = i / plan.site.every

      some : 0 < plan.site.every
      some = omega (arith, is.plan.site.every.0)

      by_number : (a < closing_number plan.site j) ⊎ (closing_number plan.site j ≤ a) →
          is_confirmed_at plan u clear (rest_at s j) i ≡ false
      by_number (inl early) =
          none_earlier (rest_at s j) i (λ b below. none_arrived (rest_at s j) b
          (numbers_later s laws (length clear - j) j b (omega (arith, inside)) (omega (arith, below, early))))
      by_number (inr late) =
          none_known (rest_at s j) i within
          (arrives plan clear u is (rest_at s j) front (behind plan clear u is a) a
          (omega (arith, below)) same)
          (knows plan clear u is (rest_at s j) front (behind plan clear u is a) a
          (period_of plan (start_of s a)) (omega (arith, below)) same none_front
          ∙ fails_joined (entitles plan.site.height u (period_of plan (start_of s a))) (mid_at s j d)
          (tables_before plan (start_of s a))
          (nothing_entitles (period_of plan (start_of s a)) j d (omega (arith, at, low, before)))
          (ap (λ (b : Bool). list_any (entitles plan.site.height u (period_of plan (start_of s a)))
          (if b then tables_at plan (start_of s a) else [])) (no_tables j (start_of s a) from (omega
          (arith, low, before)))))
        where
          below : a < final s
          below = number_within s i is.plan.site within

          low : start_of s a ≤ i
          low = div-mul-le_self i plan.site.every

          from : j ≤ start_of s a
          from =
              let covers : j ≤ closing_number plan.site j * plan.site.every = closing_covers plan.site j is.plan.site in
              let up : closing_number plan.site j * plan.site.every ≤ a * plan.site.every =
              mul-le-mul_right plan.site.every late in
              omega (arith, covers, up)

          d : ℕ
          d = start_of s a - j

          at : j + d ≡ start_of s a
          at = omega (arith, from)

          front : List Item
          front = mid_at s j d ++ tables_before plan (start_of s a)

          same : rest_at s j ≡ front ++ from_message plan clear u is a
          same = rest_from plan clear u is j a from below

          none_front : list_any (is_of a) front ≡ false
          none_front = none_from plan clear u is j a a from below (omega arith)

  -- and from there on all that is due is
  joined_due : (j i : ℕ) → j ≤ length clear → next_crypto_at plan.site j ≤ i → i < length clear →
      is_confirmed_at plan u clear (rest_at s j) i ≡ is_due plan u i
  unfolding tables_at
  joined_due j i inside above within =
      all_back plan clear u is n i front (rest_at s j)
      (record {
        within = below;
        same = rest_from plan clear u is j n from below;
        of = of_from plan clear u is j n from below;
        none = λ b over. none_from plan clear u is j n b from below over;
        told = λ due. any_second p (mid_at s j d) (tables_before plan (start_of s n))
            (ap (list_any p) stand
            ∙ any_second p (Cat ∷ []) sections (sections_entitle plan (period_of plan (start_of s n)) u is.plan is.leaf
            ∙ due));
      }) (omega (arith, start, above)) within
    where
      bounds : (j ≤ next_crypto_at plan.site j) × (next_crypto_at plan.site j < j + crypto_length plan.site)
      bounds = next_bounds plan.site j is.plan.site

      n : ℕ
      n = (j + crypto_length plan.site - 1) / crypto_length plan.site * plan.site.cryptos

      start : start_of s n ≡ next_crypto_at plan.site j
      start = mul_assoc ((j + crypto_length plan.site - 1) / crypto_length plan.site) plan.site.cryptos plan.site.every
          ∙ ap (λ (length : ℕ). (j + crypto_length plan.site - 1) / crypto_length plan.site * length)
          (mul_comm plan.site.cryptos plan.site.every)

      from : j ≤ start_of s n
      from = omega (arith, start, bounds)

      below : n < final s
      below =
          let some_every : 0 < plan.site.every = omega (arith, is.plan.site.every.0) in
          let number : n ≤ i / plan.site.every = (le-div_iff_mul-le some_every).1 (omega (arith, start, above)) in
          omega (arith, number, number_within s i is.plan.site within)

      d : ℕ
      d = start_of s n - j

      front : List Item
      front = mid_at s j d ++ tables_before plan (start_of s n)

      p : Item → Bool
      p = entitles plan.site.height u (period_of plan (start_of s n))

      sections : List Item
      sections = map Entitles (emms_of (period_at plan (period_of plan (start_of s n))))

      stand : tables_before plan (start_of s n) ≡ Cat ∷ sections
      stand = ap (λ (b : Bool). if b then tables_at plan (start_of s n) else []) begins
        where
          begins : (start_of s n % crypto_length plan.site == 0) ≡ true
          begins =
              let none : start_of s n % crypto_length plan.site ≡ 0 =
              ap (λ (k : ℕ). k % crypto_length plan.site) start
              ∙ mul-mod_left ((j + crypto_length plan.site - 1) / crypto_length plan.site)
              (crypto_length plan.site) in
              grind (arith, nat_tests, none)

  -- so of what is sent from packet j on all that is due from the next crypto period on is confirmed, and no more
  rest_confirmed : (j : ℕ) (kept : List Item) → j ≤ length clear → after_cat kept ≡ rest_at s j →
      confirmed plan u clear kept ≡ due_in plan u clear (next_crypto_at plan.site j) (length clear)
  unfolding due_in
  rest_confirmed j kept inside same = by_end (cases_lt (length clear) at)
    where
      at : ℕ
      at = next_crypto_at plan.site j

      none : (i : ℕ) → i < at → i < length clear → is_confirmed_at plan u clear (after_cat kept) i ≡ false
      none i before within =
          ap (λ (items : List Item). is_confirmed_at plan u clear items i) same ∙ joined_none j i inside before within

      by_end : (length clear < at) ⊎ (at ≤ length clear) →
          confirmed plan u clear kept ≡ due_in plan u clear at (length clear)
      by_end (inl past) =
          let short : length clear - at ≡ 0 = omega (arith, past) in
          let all_of : length clear - length clear ≡ 0 = omega arith in
          confirmed_parts plan clear u (length clear) kept (omega arith)
          ∙ (ap (λ (packets : List (List ℕ)). packets ++ confirmed_in plan u clear kept (length clear) (length clear))
          (confirmed_none plan clear u 0 (length clear) kept
          (λ i above below. none i (omega (arith, below, past)) below))
          ∙ (confirmed_none plan clear u (length clear) (length clear) kept
          (λ i above below. absurd (omega (arith, above, below)))
          ∙ ap (λ (n : ℕ). packets_at clear (filter (is_due plan u) (range_with_len at n))) (sym short)))
      by_end (inr within) =
          confirmed_parts plan clear u at kept within
          ∙ (ap (λ (packets : List (List ℕ)). packets ++ confirmed_in plan u clear kept at (length clear))
          (confirmed_none plan clear u 0 at kept (λ i above below. none i below (omega (arith, below, within))))
          ∙ confirmed_due plan clear u at (length clear) kept
          (λ i above below. ap (λ (items : List Item). is_confirmed_at plan u clear items i) same
          ∙ joined_due j i inside above below))

  -- at least as many things as clear packets
  some_things : (j : ℕ) → 0 < j → j ≤ length clear → 0 < place_behind plan clear j
  some_things j some within = omega (
    arith,
    some,
    ap length (sent_is plan clear u is j within),
    count_by-le-length is_clear_item (pre_at s j),
    count_pre s j is.plan.site within,
  )

  -- where the first j clear packets and all before them are lost, and the first CAT counts
  late_kept : (j : ℕ) → j ≤ length clear → (rest : List Item) → things plan clear ≡ Cat ∷ rest →
      (place : ℕ) → place_behind plan clear j ≡ place → 0 < place →
      chosen (true ∷ drop 1 (replicate place false ++ replicate (length (things plan clear)) true))
      (things plan clear) ≡ Cat ∷ rest_at s j
  unfolding chosen
  late_kept j within rest begins zero is_place some = absurd (omega (arith, some))
  late_kept j within rest begins (suc place) is_place some =
      ap (chosen (true ∷ (replicate place false ++ replicate (length (things plan clear)) true))) begins
      ∙ ap (λ (items : List Item). Cat ∷ items)
      (chosen_skips place (replicate (length (things plan clear)) true) rest
      ∙ (chosen_first (length (things plan clear)) (drop place rest)
      ∙ (take_all (length (things plan clear)) (drop place rest)
      (omega (arith, length-drop place rest, ap length begins))
      ∙ (ap (drop (suc place)) (sym begins
      ∙ (sent_split s j is.plan.site within
      ∙ ap (λ (items : List Item). items ++ rest_at s j) (sym (sent_is plan clear u is j within))))
      ∙ drop_at (sent plan (take j clear)) (rest_at s j) (suc place) is_place))))

  -- the whole broadcast
  whole_kept : (rest : List Item) → things plan clear ≡ Cat ∷ rest →
      chosen (true ∷ drop 1 (replicate (length (things plan clear)) true)) (things plan clear) ≡ things plan clear
  unfolding chosen
  whole_kept rest begins =
      ap (λ (flags : List Bool). chosen (true ∷ flags) (things plan clear)) (drop-replicate 1 (length
      (things plan clear)) true)
      ∙ (ap (chosen (true ∷ replicate (length (things plan clear) - 1) true)) begins
      ∙ (ap (λ (items : List Item). Cat ∷ items)
      (chosen_first (length (things plan clear) - 1) rest
      ∙ take_all (length (things plan clear) - 1) rest (omega (arith, ap length begins)))
      ∙ sym begins))

  whole_confirmed : confirmed plan u clear (things plan clear) ≡ due_in plan u clear 0 (length clear)
  unfolding due_in opened_by
  whole_confirmed =
      let all_of : length clear ≡ length clear - 0 = omega arith in
      all_are_opened plan clear u is.plan is.sendable is.whole is.leaf
      ∙ ap (λ (n : ℕ). packets_at clear (filter (is_due plan u) (range_with_len 0 n))) all_of

  -- of a broadcast that is joined all that is due is confirmed from the next crypto period on, and no more
  pub joined_confirmed : (j : ℕ) → j ≤ length clear →
      confirmed plan u clear (chosen (flags_after true (replicate (place_behind plan clear j) false ++ replicate
      (length (things plan clear)) true)) (things plan clear))
      ≡ due_in plan u clear (next_crypto_at plan.site j) (length clear)
  unfolding after_cat sent_from
  joined_confirmed zero within =
      let begins = begins_by plan clear in
      ap (confirmed plan u clear) (whole_kept begins.0 begins.1)
      ∙ (whole_confirmed
      ∙ ap (λ (k : ℕ). due_in plan u clear k (length clear)) (sym (next_first plan.site is.plan.site)))
  joined_confirmed (suc j) within =
      let begins = begins_by plan clear in
      let late = late_kept (suc j) within begins.0 begins.1 (place_behind plan clear (suc j)) refl (some_things (suc j)
      (omega arith) within) in
      rest_confirmed (suc j) (chosen (true ∷ drop 1 (replicate (place_behind plan clear (suc j)) false ++ replicate
      (length (things plan clear)) true)) (things plan clear)) within (ap after_cat late)
