-- What is confirmed where a CAT, a clear packet or a part of a control message is lost.
use Rattle.std.proofs.Common.{◌≡◌, refl, ℕ, zero, suc, ◌+◌, ◌-◌, ◌*◌, ◌/◌, ◌%◌, ◌<◌, ◌≤◌, ◌==◌}
use Rattle.std.proofs.Common.{true, false}
use Rattle.std.proofs.Common.{List, [], ◌∷◌, ◌++◌, length, arith, sym, ap, ◌∙◌, inl, inr, ◌⊎◌}
use Rattle.std.specs.List.{list_any}
use Rattle.std.proofs.lemmas.Bool.{cases_Bool, cases_eq, cases_lt, and_parts}
use Rattle.std.proofs.lemmas.Bool.Decides.{nat_tests}
use Rattle.std.proofs.lemmas.Nat.{div-add-mod'}
use native.Mathlib.Nat.{zero-mod}
use Rattle.std.proofs.Math.Nat.{div-lt_iff_lt-mul, le-div_iff_mul-le}
use Rattle.sd_packet.specs.Header.{pid_of}
use Rattle.sd_packet.specs.Positions.{is_positional}
use Rattle.sd_site_cards.specs.CardFields.{card_of}
use Rattle.sd_message.specs.declared.ecm_part.EcmPart.{EcmPart}
use Rattle.sd_spec.specs.Plan.{Plan, crypto_length, period_of, since_of}
use Rattle.sd_spec.specs.Sent.{Item, Cat, Controls, Carries, tables_before}
use Rattle.sd_spec.proofs.Schedule.{period_begins}
use Rattle.sd_law_losses.specs.Kept.{is_kept, is_carried, has_arrived, arrived, kept_in, entitles, is_last_part}
use Rattle.sd_law_losses.specs.Kept.{after_cat}
use Rattle.sd_law_losses.specs.Kept.{is_entitled_before}
use Rattle.sd_law_losses.specs.Confirmed.{packet_at, is_traced, tracked_position, is_open, is_revoked_in}
use Rattle.sd_law_losses.specs.Confirmed.{is_confirmed_at}
use Rattle.sd_law_losses.proofs.AllOpened.{begin_is_due}
use Rattle.sd_law_losses.proofs.Arriving.{is_of}
use Rattle.sd_law_losses.proofs.Confirming.{confirms}
use Rattle.sd_law_losses.proofs.Lawful.{setting}
use Rattle.sd_law_losses.specs.Chosen.{chosen}
use Rattle.sd_law_losses.proofs.Opened.{one_period}
use Rattle.sd_law_losses.proofs.Pairs.{start_of, end_of, IsPair}
use Rattle.sd_law_losses.proofs.Remaining.{rest_at, number_within}
use Rattle.sd_law_losses.proofs.Setting.{Setting, AreLaws, final}
use Rattle.sd_law_losses.proofs.Standing.{any_second, packet_stands, all_arrived, pre_at}
use Rattle.sd_law_losses.proofs.Untuned.{due_rest}
use Rattle.sd_law_progress.specs.Cost.{IsSentBetween, RiseNarrowly}
use Rattle.sd_law_progress.proofs.Given.{IsSentTo, laws_of}
use Rattle.sd_law_progress.proofs.CostLists.{any_without, all_but, chosen_but}
use Rattle.sd_law_progress.proofs.CostPairs.{all_traced, one_lost_traced, pair_confirms}
use Rattle.sd_law_progress.proofs.CostStanding.{arrived_has_last, last_sent}
use Rattle.sd_law_progress.proofs.CostStanding.{arrived_without, last_is_of, entitled_still, next_confirms}
use Rattle.sd_law_progress.proofs.CostStanding.{period_before}
use Rattle.sd_law_progress.proofs.CostStanding.{tables_entitle, up_to_tables}

-- numbers that differ fail the test
unequal : (m n : ℕ) → (n ≡ m → ⊥) → (m == n) ≡ false
unequal m n other = by_test (cases_Bool (m == n))
  where
    by_test : ((m == n) ≡ true) ⊎ ((m == n) ≡ false) → (m == n) ≡ false
    by_test (inl same) = absurd (other (grind (arith, nat_tests, same)))
    by_test (inr differ) = differ

-- a number that is not 0
positive : (n : ℕ) → (n ≡ 0 → ⊥) → 0 < n
positive zero other = absurd (other refl)
positive (suc n) other = omega arith

-- a CAT that is kept makes no difference
cat_again : (s : Setting) (kept : List Item) (j : ℕ) → confirms s (Cat ∷ kept) j ≡ confirms s kept j
unfolding is_confirmed_at arrived has_arrived kept_in is_open is_entitled_before is_traced tracked_position
cat_again s kept j = refl

-- in versions 2 and 3 the word of a message within a crypto period holds since before the message before it
since_within : (version cryptos b : ℕ) → (version ≡ 1 → ⊥) → 1 ≤ version → (b % cryptos ≡ 0 → ⊥) →
    since_of version cryptos (b + 1) ≤ b - 1
since_within zero cryptos b other some off = absurd (omega (arith, some))
since_within (suc zero) cryptos b other some off = absurd (other refl)
since_within (suc (suc v)) cryptos b other some off =
    let more : b + 1 ≡ suc b = omega arith in
    let rest : 0 < b % cryptos = positive (b % cryptos) off in
    let first : b / cryptos * cryptos ≤ b - 1 = omega (arith, div-add-mod' b cryptos, rest) in
    omega (arith, ap (since_of (suc (suc v)) cryptos) more, first)

-- one thing is lost of a broadcast
module _ (plan : Plan) (clear : List (List ℕ)) (u : ℕ) (is : IsSentTo plan clear u)
    (before : List Item) (x : Item) (after : List Item) (lost : IsSentBetween plan clear before x after) where
  abbrev pub s : Setting
  s = setting plan clear u

  pub laws : AreLaws s
  laws = laws_of plan clear u is

  abbrev pub kept : List Item
  kept = before ++ after

  -- the first thing is the CAT
  pub first_is : 0 < length clear → ((before ≡ []) × (x ≡ Cat)) ⊎ ((rest : List Item) × (before ≡ Cat ∷ rest))
  first_is some = by_first before (sym lost ∙ due_rest s 0 is.plan.site some first)
    where
      first : (0 % crypto_length plan.site == 0) ≡ true
      first = let none : 0 % crypto_length plan.site ≡ 0 = omega arith in grind (arith, nat_tests, none)

      by_first : {rest : List Item} (xs : List Item) → xs ++ x ∷ after ≡ Cat ∷ rest →
          ((xs ≡ []) × (x ≡ Cat)) ⊎ ((rest : List Item) × (xs ≡ Cat ∷ rest))
      by_first [] same = inl (refl, cc same)
      by_first (y ∷ xs) same = let first : y ≡ Cat = cc same in inr (xs, ap (λ (z : Item). z ∷ xs) first)

  -- so what is confirmed of all that is kept is confirmed of what is kept after the CAT
  pub confirms_after_cat : (rest : List Item) → before ≡ Cat ∷ rest → (j : ℕ) → confirms s kept j ≡ true →
      is_confirmed_at plan u clear (after_cat kept) j ≡ true
  unfolding after_cat card_of
  confirms_after_cat rest first j told =
      ap (λ (xs : List Item). is_confirmed_at plan u clear (after_cat (xs ++ after)) j) first
      ∙ (sym (cat_again s (rest ++ after) j)
      ∙ (ap (λ (xs : List Item). confirms s (xs ++ after) j) (sym first) ∙ told))

  -- what is not lost is kept, and arrives
  pub kept_still : (j : ℕ) → j < length clear → is_carried j x ≡ false → is_kept kept j ≡ true
  kept_still j within other = any_without (is_carried j) before after x other
      ∙ (ap (list_any (is_carried j)) (sym lost) ∙ packet_stands s j is.plan.site within)

  pub arrived_still : (a : ℕ) → a ≤ final s → is_of a x ≡ false → has_arrived kept a ≡ true
  arrived_still a within other = arrived_without before after x a other
      ∙ (ap (λ (xs : List Item). has_arrived xs a) (sym lost) ∙ all_arrived s laws a within)

  pub last_still : (a : ℕ) → a < final s → is_of a x ≡ false → list_any (is_last_part a) kept ≡ true
  last_still a below other = any_without (is_last_part a) before after x (last_is_of a x other)
      ∙ (ap (list_any (is_last_part a)) (sym lost) ∙ last_sent s laws a below)

  -- a message is entitled to if its last part is kept and what is lost is no section of its period
  pub entitled_at : (a : ℕ) → a < final s → is_revoked_in plan u (period_of plan (start_of s a)) ≡ false →
      list_any (is_last_part a) kept ≡ true → entitles plan.site.height u (period_of plan (start_of s a)) x ≡ false →
      is_entitled_before plan.site.height u (period_of plan (start_of s a)) a kept ≡ true
  unfolding card_of
  entitled_at a below free told fails =
      entitled_still s laws before after x begins a q lost below (omega arith) told some
      (λ rest front. any_without (entitles plan.site.height u q) before rest x fails
      ∙ (ap (list_any (entitles plan.site.height u q)) (sym front) ∙ some))
    where
      q : ℕ
      q = period_of plan (start_of s a)

      begins : ℕ
      begins = start_of s a - start_of s a % crypto_length plan.site

      same : period_of plan begins ≡ q
      same = period_begins plan (start_of s a) is.plan.site

      some : list_any (entitles plan.site.height u q) (up_to_tables s begins) ≡ true
      some = any_second (entitles plan.site.height u q) (pre_at s begins) (tables_before plan begins)
          (ap (λ (n : ℕ). list_any (entitles plan.site.height u n) (tables_before plan begins)) (sym same)
          ∙ tables_entitle plan begins u is.plan is.leaf (begin_is_due plan (start_of s a))
          (ap (is_revoked_in plan u) same ∙ free))

  -- a clear packet that is due, and neither message beside it lost
  pub still_confirms : (j : ℕ) → j < length clear → is_of (j / plan.site.every) x ≡ false →
      is_of (j / plan.site.every + 1) x ≡ false → is_carried j x ≡ false →
      is_entitled_before plan.site.height u (period_of plan (start_of s (j / plan.site.every)))
      (j / plan.site.every) kept
      ≡ true →
      ((pid : ℕ) → is_positional pid ≡ true →
      is_traced plan clear kept (j / plan.site.every) (j / plan.site.every + 1) pid ≡ true) → confirms s kept j ≡ true
  unfolding card_of
  still_confirms j within here next other entitled traced =
      next_confirms s kept j is.plan.site within (arrived_still (j / plan.site.every) (omega (arith, below)) here)
      (arrived_still (j / plan.site.every + 1) (omega (arith, below)) next) entitled (kept_still j within other)
      (λ scrambled. traced (pid_of (packet_at clear j))
      (and_parts (is_positional (pid_of (packet_at clear j))) _ (laws.veiled j within scrambled).clear_placed).0)
    where
      below : j / plan.site.every < final s
      below = number_within s j is.plan.site within

  -- if no packet is lost all are traced
  pub traced_still : ((i : ℕ) → is_carried i x ≡ false) → (a b pid : ℕ) → IsPair s a b →
      is_traced plan clear kept a b pid ≡ true
  traced_still none a b pid pair = all_traced s kept a b pid is.plan.site pair
      (λ i from to. kept_still i (omega (arith, to)) (none i))

  free_before : (j : ℕ) → is_revoked_in plan u (period_of plan j) ≡ false →
      is_revoked_in plan u (period_of plan (start_of s (j / plan.site.every))) ≡ false
  free_before j free = ap (is_revoked_in plan u) (sym (period_before s j is.plan.site)) ∙ free

  pub next_pair : (j : ℕ) → j < length clear → IsPair s (j / plan.site.every) (j / plan.site.every + 1)
  next_pair j within = record { below = omega arith; within = omega (arith, number_within s j is.plan.site within) }

  -- a thing that is no packet and no section: packets are lost beside a message of which it is a part, and no others
  pub beside_parts : ((i : ℕ) → is_carried i x ≡ false) → ((q : ℕ) → entitles plan.site.height u q x ≡ false) →
      (j : ℕ) → j < length clear → is_revoked_in plan u (period_of plan j) ≡ false →
      is_of (j / plan.site.every) x ≡ false → is_of (j / plan.site.every + 1) x ≡ false → confirms s kept j ≡ true
  beside_parts none fails j within free here next =
      still_confirms j within here next (none j)
      (entitled_at (j / plan.site.every) (number_within s j is.plan.site within) (free_before j free)
      (last_still (j / plan.site.every) (number_within s j is.plan.site within) here)
      (fails (period_of plan (start_of s (j / plan.site.every)))))
      (λ pid placed. traced_still none (j / plan.site.every) (j / plan.site.every + 1) pid (next_pair j within))

  -- where a CAT is lost that isn't the first, all is confirmed that is due
  pub no_cat_costs : x ≡ Cat → (j : ℕ) → j < length clear → is_revoked_in plan u (period_of plan j) ≡ false →
      confirms s kept j ≡ true
  no_cat_costs cat j within free =
      beside_parts (λ i. ap (is_carried i) cat) (λ q. ap (entitles plan.site.height u q) cat) j within free
      (ap (is_of (j / plan.site.every)) cat) (ap (is_of (j / plan.site.every + 1)) cat)

  -- a clear packet costs itself
  pub packet_costs : RiseNarrowly clear → (i : ℕ) (packet : List ℕ) → x ≡ Carries i packet → (j : ℕ) →
      j < length clear → is_revoked_in plan u (period_of plan j) ≡ false → (j ≡ i → ⊥) → confirms s kept j ≡ true
  packet_costs narrow i packet carries j within free other =
      still_confirms j within (no_part (j / plan.site.every)) (no_part (j / plan.site.every + 1)) (not_this j other)
      (entitled_at (j / plan.site.every) (number_within s j is.plan.site within) (free_before j free)
      (last_still (j / plan.site.every) (number_within s j is.plan.site within) (no_part (j / plan.site.every)))
      (ap (entitles plan.site.height u (period_of plan (start_of s
      (j / plan.site.every)))) carries))
      (λ pid placed. by_place pid placed (cases_Bool (is_kept kept i)) (cases_lt i (start_of s (j / plan.site.every)))
      (cases_lt i (end_of s (j / plan.site.every + 1))))
    where
      no_part : (a : ℕ) → is_of a x ≡ false
      no_part a = ap (is_of a) carries

      not_this : (k : ℕ) → (k ≡ i → ⊥) → is_carried k x ≡ false
      not_this k other = ap (is_carried k) carries ∙ unequal i k other

      pair : IsPair s (j / plan.site.every) (j / plan.site.every + 1)
      pair = next_pair j within

      by_place : (pid : ℕ) → is_positional pid ≡ true → (is_kept kept i ≡ true) ⊎ (is_kept kept i ≡ false) →
          (i < start_of s (j / plan.site.every)) ⊎ (start_of s (j / plan.site.every) ≤ i) →
          (i < end_of s (j / plan.site.every + 1)) ⊎ (end_of s (j / plan.site.every + 1) ≤ i) →
          is_traced plan clear kept (j / plan.site.every) (j / plan.site.every + 1) pid ≡ true
      by_place pid placed (inl there) from to =
          all_traced s kept (j / plan.site.every) (j / plan.site.every + 1) pid is.plan.site pair
          (λ k above below. by_same k below (cases_eq k i))
        where
          by_same : (k : ℕ) → k < end_of s (j / plan.site.every + 1) → (k ≡ i) ⊎ (k ≡ i → ⊥) → is_kept kept k ≡ true
          by_same k below (inl same) = ap (is_kept kept) same ∙ there
          by_same k below (inr differ) = kept_still k (omega (arith, below)) (not_this k differ)
      by_place pid placed (inr gone) (inl early) to =
          all_traced s kept (j / plan.site.every) (j / plan.site.every + 1) pid is.plan.site pair
          (λ k above below. kept_still k (omega (arith, below)) (not_this k (λ same. absurd (omega
          (arith, same, early, above)))))
      by_place pid placed (inr gone) (inr from) (inl to) =
          one_lost_traced s kept (j / plan.site.every) (j / plan.site.every + 1) pid i is.plan.site pair from to gone
          (λ k above below differ. kept_still k (omega (arith, below)) (not_this k differ))
          (narrow.one pid i placed) (λ k after same. narrow.two pid i k placed after same)
      by_place pid placed (inr gone) (inr from) (inr late) =
          all_traced s kept (j / plan.site.every) (j / plan.site.every + 1) pid is.plan.site pair
          (λ k above below. kept_still k (omega (arith, below)) (not_this k (λ same. absurd (omega
          (arith, same, late, below)))))

  -- a part of a message costs at most the packets beside it
  pub part_costs : (part : EcmPart) → x ≡ Controls part → (j : ℕ) → j < length clear →
      is_revoked_in plan u (period_of plan j) ≡ false → (j / plan.site.every ≡ part.number → ⊥) →
      (j / plan.site.every + 1 ≡ part.number → ⊥) → confirms s kept j ≡ true
  part_costs part controls j within free here next =
      beside_parts (λ i. ap (is_carried i) controls) (λ q. ap (entitles plan.site.height u q) controls) j within free
      (apart (j / plan.site.every) here) (apart (j / plan.site.every + 1) next)
    where
      apart : (a : ℕ) → (a ≡ part.number → ⊥) → is_of a x ≡ false
      apart a other = ap (is_of a) controls ∙ unequal part.number a other

  -- and nothing if it is within a crypto period
  pub no_part_costs : (part : EcmPart) → x ≡ Controls part → part.number < final s → plan.site.every ≤ 2048 →
      (part.number % plan.site.cryptos ≡ 0 → ⊥) → (plan.site.messages ≡ 1 → ⊥) → (j : ℕ) → j < length clear →
      is_revoked_in plan u (period_of plan j) ≡ false → confirms s kept j ≡ true
  unfolding card_of
  no_part_costs part controls below short within_crypto version j within free =
      by_arrival (cases_Bool (has_arrived kept b))
    where
      b : ℕ
      b = part.number

      a : ℕ
      a = b - 1

      some : 0 < plan.site.every
      some = omega (arith, is.plan.site.every.0)

      later : a + 1 ≡ b
      later = omega (
        arith,
        positive b (λ none. within_crypto (ap (λ (n : ℕ). n % plan.site.cryptos) none
            ∙ zero-mod plan.site.cryptos)),
      )

      no_packet : (i : ℕ) → is_carried i x ≡ false
      no_packet i = ap (is_carried i) controls

      no_section : (q : ℕ) → entitles plan.site.height u q x ≡ false
      no_section q = ap (entitles plan.site.height u q) controls

      apart : (n : ℕ) → (n ≡ b → ⊥) → is_of n x ≡ false
      apart n other = ap (is_of n) controls ∙ unequal part.number n other

      -- all messages arrive
      all_there : has_arrived kept b ≡ true → confirms s kept j ≡ true
      all_there there =
          next_confirms s kept j is.plan.site within
          (arrives (j / plan.site.every) (omega (arith, inside)) (cases_eq _ b))
          (arrives (j / plan.site.every + 1) (omega (arith, inside)) (cases_eq _ b))
          (entitled_at (j / plan.site.every) inside (free_before j free) (told (cases_eq (j / plan.site.every) b))
          (no_section (period_of plan (start_of s (j / plan.site.every)))))
          (kept_still j within (no_packet j))
          (λ scrambled. traced_still no_packet (j / plan.site.every) (j / plan.site.every + 1) _ (next_pair j within))
        where
          inside : j / plan.site.every < final s
          inside = number_within s j is.plan.site within

          arrives : (n : ℕ) → n ≤ final s → (n ≡ b) ⊎ (n ≡ b → ⊥) → has_arrived kept n ≡ true
          arrives n reach (inl same) = ap (has_arrived kept) same ∙ there
          arrives n reach (inr other) = arrived_still n reach (apart n other)

          told : (j / plan.site.every ≡ b) ⊎ (j / plan.site.every ≡ b → ⊥) →
              list_any (is_last_part (j / plan.site.every)) kept ≡ true
          told (inl same) =
              ap (λ (n : ℕ). list_any (is_last_part n) kept) same
              ∙ (ap (list_any (is_last_part b)) (sym chooses)
              ∙ arrived_has_last s laws (all_but before after) b below
              (ap (λ (xs : List Item). has_arrived xs b) chooses ∙ there))
            where
              chooses : chosen (all_but before after) (rest_at s 0) ≡ kept
              chooses = ap (chosen (all_but before after)) lost ∙ chosen_but before x after
          told (inr other) = last_still (j / plan.site.every) inside (apart (j / plan.site.every) other)

      -- the messages beside the one that doesn't arrive are neighbours
      beside : has_arrived kept b ≡ false → a ≤ j / plan.site.every → j / plan.site.every < b + 1 →
          confirms s kept j ≡ true
      beside gone from to =
          pair_confirms s kept a (b + 1) j is.plan.site pair
          (arrived_still a (omega (arith, below)) (apart a (λ same. absurd (omega (arith, same, later)))))
          (arrived_still (b + 1) (omega (arith, below)) (apart (b + 1) (λ same. absurd (omega (arith, same)))))
          (λ c above under. ap (has_arrived kept) (omega (arith, above, under, later)) ∙ gone)
          since
          (entitled_at a (omega (arith, below)) (ap (is_revoked_in plan u) (sym period) ∙ free)
          (last_still a (omega (arith, below)) (apart a (λ same. absurd (omega (arith, same, later)))))
          (no_section (period_of plan (start_of s a))))
          (omega (arith, grown, short))
          (kept_still j within (no_packet j)) ((le-div_iff_mul-le some).0 from)
          (omega (arith, within, (div-lt_iff_lt-mul some).0 to))
          (λ scrambled. traced_still no_packet a (b + 1) _ pair)
        where
          pair : IsPair s a (b + 1)
          pair = record { below = omega arith; within = omega (arith, below) }

          since : since_of plan.site.messages plan.site.cryptos (b + 1) ≤ a
          since = since_within plan.site.messages plan.site.cryptos b version (omega (arith, is.plan.site.messages.0))
              within_crypto

          grown : (b + 1) * plan.site.every ≡ a * plan.site.every + 2 * plan.site.every
          grown = ap (λ (n : ℕ). n * plan.site.every) (omega (arith, later)) ∙ by_two a plan.site.every
            where
              by_two : (n e : ℕ) → (n + 2) * e ≡ n * e + 2 * e
              by_two n e = grind arith

          period : period_of plan j ≡ period_of plan (start_of s a)
          period = one_period plan a (b + 1) j is.plan.site since from to

      by_beside : has_arrived kept b ≡ false → (j / plan.site.every ≡ b) ⊎ (j / plan.site.every ≡ b → ⊥) →
          (j / plan.site.every + 1 ≡ b) ⊎ (j / plan.site.every + 1 ≡ b → ⊥) → confirms s kept j ≡ true
      by_beside gone (inl same) next = beside gone (omega (arith, same)) (omega (arith, same))
      by_beside gone (inr here) (inl same) = beside gone (omega (arith, same)) (omega (arith, same))
      by_beside gone (inr here) (inr next) = part_costs part controls j within free here next

      by_arrival : (has_arrived kept b ≡ true) ⊎ (has_arrived kept b ≡ false) → confirms s kept j ≡ true
      by_arrival (inl there) = all_there there
      by_arrival (inr gone) = by_beside gone (cases_eq (j / plan.site.every) b) (cases_eq (j / plan.site.every + 1) b)
