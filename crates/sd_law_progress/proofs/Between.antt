-- What is confirmed between two neighbouring messages that have arrived.
use Rattle.std.proofs.Common.{◌≡◌, refl, ℕ, zero, suc, ◌+◌, ◌-◌, ◌*◌, ◌/◌, ◌<◌, ◌≤◌, ◌&&◌, ◌||◌, Bool, true}
use Rattle.std.proofs.Common.{false, not}
use Rattle.std.proofs.Common.{nat_le, List, [], ◌∷◌, ◌++◌, map, filter, length, drop, arith, sym, ap, ◌∙◌}
use Rattle.std.specs.Prelude.{if◌then◌else◌}
use Rattle.std.specs.List.{list_any, range_with_len}
use Rattle.std.proofs.lemmas.Bool.Decides.{nat_tests}
use Rattle.std.proofs.lemmas.List.{length-take}
use Rattle.std.proofs.Math.Nat.{div-eq_of_lt-le}
use Rattle.sd_packet.specs.Header.{pid_of}
use Rattle.sd_packet.specs.Positions.{moved_by}
use Rattle.sd_site_cards.specs.CardFields.{card_of}
use Rattle.sd_message.specs.EcmParts.{parts_of}
use Rattle.sd_spec.specs.Plan.{Plan, period_of, since_of}
use Rattle.sd_spec.specs.Sent.{Item, Controls}
use Rattle.sd_spec.proofs.Schedule.{since_is_below}
use Rattle.sd_law_losses.specs.Chosen.{chosen}
use Rattle.sd_law_losses.specs.Kept.{is_kept, kept_in, has_arrived, entitles, is_last_part, is_entitled_before}
use Rattle.sd_law_losses.specs.Confirmed.{packet_at, packets_at, is_open, is_traced, tracked_position, is_confirmed_at}
use Rattle.sd_law_losses.specs.Confirmed.{is_revoked_in}
use Rattle.sd_law_losses.proofs.Arriving.{is_of, entitled_before, last_there}
use Rattle.sd_law_losses.proofs.Setting.{Setting, AreLaws, final, told_by}
use Rattle.sd_law_losses.proofs.Pairs.{start_of, end_of, number_is}
use Rattle.sd_law_losses.proofs.Tracking.{true_at, near_at, true_on, near_on, nothing_in, stretch, flags_in}
use Rattle.sd_law_losses.proofs.Between.{opens}
use Rattle.sd_law_losses.proofs.Confirming.{neighbours}
use Rattle.sd_law_losses.proofs.AllOpened.{chosen_true}
use Rattle.sd_law_losses.proofs.Opened.{one_period}
use Rattle.sd_law_losses.proofs.Standing.{whole_arrived}
use Rattle.sd_law_losses.proofs.Lawful.{setting}
use Rattle.sd_law_progress.specs.Progress.{is_due, is_scrambled_at}
use Rattle.sd_law_progress.proofs.Given.{IsSentTo, laws_of}

filter_short : (f : ℕ → Bool) (low n : ℕ) → length (filter f (range_with_len low n)) ≤ n
filter_short f low zero = omega arith
filter_short f low (suc n) = by_test (f low) (filter_short f (low + 1) n)
  where
    by_test : (b : Bool) → length (filter f (range_with_len (low + 1) n)) ≤ n →
        length (if b then low ∷ filter f (range_with_len (low + 1) n) else filter f (range_with_len
        (low + 1) n)) ≤ suc n
    by_test true rest = omega (arith, rest)
    by_test false rest = omega (arith, rest)

-- no more things are kept between two packets than stand there
pub few_kept : (kept : List Item) (low high : ℕ) → length (kept_in kept low high) ≤ high - low
unfolding kept_in
few_kept kept low high = filter_short (is_kept kept) low (high - low)

and_all : (b : Bool) → (b && true) ≡ b
and_all true = refl
and_all false = refl

passes_by : (b c : Bool) → (b ≡ true → c ≡ true) → (not b || c) ≡ true
passes_by true c holds = holds refl
passes_by false c holds = refl

module _ (plan : Plan) (clear : List (List ℕ)) (u : ℕ) (is : IsSentTo plan clear u) where
  abbrev s : Setting
  s = setting plan clear u

  laws : AreLaws s
  laws = laws_of plan clear u is

  -- a message all parts of which stand among kept things has arrived
  pub arrives : (kept front later : List Item) (a : ℕ) → a ≤ final s →
      kept ≡ front ++ (map Controls (parts_of (told_by s a)) ++ later) → has_arrived kept a ≡ true
  arrives kept front later a within same =
      ap (λ (items : List Item). has_arrived items a) same ∙ whole_arrived s laws a front later within

  -- and the key is had at it exactly where a section before it entitles
  pub knows : (kept front later : List Item) (a q : ℕ) → a ≤ final s →
      kept ≡ front ++ (map Controls (parts_of (told_by s a)) ++ later) → list_any (is_of a) front ≡ false →
      is_entitled_before plan.site.height u q a kept ≡ list_any (entitles plan.site.height u q) front
  knows kept front later a q within same none =
      ap (is_entitled_before plan.site.height u q a) same
      ∙ entitled_before plan.site.height u q a front (parts_of (told_by s a)) later none
      (ap (λ (n : ℕ). list_any (is_last_part n) (map Controls (parts_of (told_by s a)))) (sym (number_is s a))
      ∙ last_there (told_by s a) (parts_of (told_by s a)) [] (laws.parts a within) (laws.some a within))

  -- where all packets of a stretch are kept the tracked positions are the true ones
  tracked_true : (kept : List Item) (pid low high : ℕ) → low ≤ high → high ≤ length clear →
      ((j : ℕ) → low ≤ j → j < high → is_kept kept j ≡ true) →
      near_at clear kept low pid high ≡ true_at clear pid high
  unfolding moved_by chosen
  tracked_true kept pid low high below within there =
      near_on clear kept low pid low high (omega arith) below within
      ∙ (ap (λ (js : List ℕ). moved_by pid (moved_by pid (true_at clear pid low) (packets_at clear js))
      (chosen (flags_in kept low high) (stretch clear low high))) (nothing_in kept low)
      ∙ (ap (moved_by pid (true_at clear pid low)) (chosen_true (is_kept kept) low (high - low)
      (stretch clear low high)
      (λ j from to. there j from (omega (arith, to, below))) (omega (
        arith,
        length-take (high - low)
            (drop low clear),
      )))
      ∙ sym (true_on clear pid low high below)))

  -- so each PID is traced
  pub traced_whole : (kept : List Item) (a pid : ℕ) → start_of s a ≤ end_of s (a + 1) →
      ((j : ℕ) → start_of s a ≤ j → j < end_of s (a + 1) → is_kept kept j ≡ true) →
      is_traced plan clear kept a (a + 1) pid ≡ true
  unfolding is_traced tracked_position
  traced_whole kept a pid below there =
      ap (λ (x : ℕ). nat_le x (true_at clear pid (end_of s (a + 1)))
      && nat_le (true_at clear pid (end_of s (a + 1))) (x + 15))
      (tracked_true kept pid (start_of s a) (end_of s (a + 1)) below (omega arith) there)
      ∙ itself (true_at clear pid (end_of s (a + 1)))
    where
      itself : (x : ℕ) → (nat_le x x && nat_le x (x + 15)) ≡ true
      itself x = grind (arith, nat_tests)

  -- a pair of neighbouring messages is open where the key is had
  pair_opens : (kept : List Item) (a : ℕ) → (b : Bool) →
      is_entitled_before plan.site.height u (period_of plan (start_of s a)) a kept ≡ b → opens s kept a (a + 1) ≡ b
  unfolding is_open card_of
  pair_opens kept a b told =
      rw since (ap (λ (t : Bool). t && nat_le (length (kept_in kept (start_of s a) (end_of s (a + 1)))) 4096) told
      ∙ (ap (λ (t : Bool). b && t) small ∙ and_all b))
    where
      since : nat_le (since_of plan.site.messages plan.site.cryptos (a + 1)) a ≡ true
      since = grind (arith, nat_tests, since_is_below plan.site.messages plan.site.cryptos (a + 1) (omega arith))

      grown : (a + 1) * plan.site.every ≡ a * plan.site.every + plan.site.every
      grown = grind arith

      short : length (kept_in kept (start_of s a) (end_of s (a + 1))) ≤ 4096
      short = omega (arith, few_kept kept (start_of s a) (end_of s (a + 1)), grown, is.plan.site.every.1)

      small : nat_le (length (kept_in kept (start_of s a) (end_of s (a + 1)))) 4096 ≡ true
      small = grind (arith, nat_tests, short)

  -- a clear packet between two neighbouring messages that have arrived, if it is scrambled of a PID that is traced
  pub between_arrived : (kept : List Item) (a j : ℕ) → a < final s → start_of s a ≤ j → j < end_of s (a + 1) →
      has_arrived kept a ≡ true → has_arrived kept (a + 1) ≡ true →
      is_entitled_before plan.site.height u (period_of plan (start_of s a)) a kept ≡ is_due plan u (start_of s a) →
      (is_scrambled_at clear j ≡ true → is_traced plan clear kept a (a + 1) (pid_of (packet_at clear j)) ≡ true) →
      is_confirmed_at plan u clear kept j ≡ (is_kept kept j && is_due plan u j)
  unfolding card_of
  between_arrived kept a j below from to is_a is_b told traced =
      sym (neighbours s kept a (a + 1) j is.plan.site (record { below = omega arith; within = omega (arith, below) })
      is_a is_b (λ b above under. absurd (omega (arith, above, under))) from to)
      ∙ ap (λ (t : Bool). is_kept kept j && t)
      (ap (λ (t : Bool). opens s kept a (a + 1) && t) passes
      ∙ (and_all (opens s kept a (a + 1))
      ∙ (pair_opens kept a (is_due plan u (start_of s a)) told
      ∙ ap (λ (q : ℕ). not (is_revoked_in plan u q)) (sym period))))
    where
      some : 0 < plan.site.every
      some = omega (arith, is.plan.site.every.0)

      passes : (not (is_scrambled_at clear j)
          || is_traced plan clear kept a (a + 1) (pid_of (packet_at clear j))) ≡ true
      passes = passes_by (is_scrambled_at clear j)
          (is_traced plan clear kept a (a + 1) (pid_of (packet_at clear j))) traced

      number : j / plan.site.every ≡ a
      number = div-eq_of_lt-le plan.site.every from (omega (arith, to))

      period : period_of plan j ≡ period_of plan (start_of s a)
      period = one_period plan a (a + 1) j is.plan.site
          (omega (arith, since_is_below plan.site.messages plan.site.cryptos (a + 1) (omega arith)))
          (omega (arith, number)) (omega (arith, number))
