-- Of a whole broadcast all that the leaf is entitled to is confirmed.
use Rattle.std.proofs.Common.{◌≡◌, refl, ℕ, zero, suc, ◌+◌, ◌-◌, ◌*◌, ◌/◌, ◌%◌, ◌<◌, ◌≤◌, ◌==◌, ◌^◌, ◌&&◌, ◌||◌, Bool}
use Rattle.std.proofs.Common.{true, false, not, nat_le}
use Rattle.std.proofs.Common.{List, [], ◌∷◌, ◌++◌, map, filter, length, take, drop, if◌then◌else◌}
use Rattle.std.proofs.Common.{arith, sym, ap, ◌∙◌, inl, inr, ◌⊎◌, subst}
use Rattle.std.specs.Prelude.{All, Contains}
use Rattle.std.specs.List.{list_any, range_with_len}
use Rattle.std.proofs.lemmas.Bool.{cases_Bool, cases_eq, both_ways, false_from_ne_true}
use Rattle.std.proofs.lemmas.Bool.Decides.{nat_tests}
use Rattle.std.proofs.lemmas.List.{length-take}
use Rattle.std.proofs.lemmas.List.Elements.{All-contains_itself, All-head, All-tail}
use Rattle.std.proofs.lemmas.Nat.{div-add-mod'}
use Rattle.std.proofs.Math.Nat.{mul-mod_left, mul-div_cancel, div-lt_iff_lt-mul, le-div_iff_mul-le}
use Rattle.std.proofs.lemmas.List.Folds.{list_any-append}
use Rattle.sd_base.proofs.Lists.{all_first}
use Rattle.sd_base.proofs.Ranges.{filter_range}
use Rattle.sd_packet.specs.Header.{pid_of}
use Rattle.sd_packet.specs.Positions.{moved_by}
use Rattle.sd_site_cards.specs.CardFields.{card_of}
use Rattle.sd_message.specs.Period.{emms_of}
use Rattle.sd_message.specs.declared.emm.Emm.{Emm}
use Rattle.sd_message.specs.EcmParts.{parts_of}
use Rattle.sd_spec.specs.Plan.{Plan, IsPlan, crypto_length, period_of, since_of, closing_number}
use Rattle.sd_spec.specs.Kinds.{kind_of, is_scrambled}
use Rattle.sd_spec.specs.Messages.{period_at}
use Rattle.sd_spec.specs.Refused.{IsSendable}
use Rattle.sd_spec.specs.Sent.{Item, Cat, Entitles, Controls, tables_at, tables_before, sent, closing_of}
use Rattle.sd_spec.specs.Items.{IsOfBroadcast}
use Rattle.sd_spec.proofs.Items.{all_are_of_broadcast}
use Rattle.sd_spec.proofs.Schedule.{period_begins, since_is_below, closing_needed}
use Rattle.sd_spec.proofs.Periods.{section_number}
use Rattle.sd_law_broadcast.specs.Packets.{AreWholePackets}
use Rattle.sd_law_losses.specs.Chosen.{chosen}
use Rattle.sd_law_losses.specs.Kept.{is_kept, kept_in, has_arrived, entitles, is_last_part, is_entitled_before}
use Rattle.sd_law_losses.specs.Kept.{after_cat}
use Rattle.sd_law_losses.specs.Confirmed.{packet_at, packets_at, is_open, tracked_position, is_traced}
use Rattle.sd_law_losses.specs.Confirmed.{confirmed}
use Rattle.sd_law_losses.specs.Confirmed.{is_revoked_in, opened_by}
use Rattle.sd_law_losses.proofs.Arriving.{is_of, entitled_before, last_there}
use Rattle.sd_law_losses.proofs.Setting.{Setting, AreLaws, final, told_by}
use Rattle.sd_law_losses.proofs.Pairs.{start_of, end_of, number_is}
use Rattle.sd_law_losses.proofs.Tracking.{true_at, near_at, true_on, near_on, nothing_in, stretch, flags_in}
use Rattle.sd_law_losses.proofs.Between.{opens}
use Rattle.sd_law_losses.proofs.Confirming.{confirms, neighbours}
use Rattle.sd_law_losses.proofs.Remaining.{rest_at, number_within, due_number}
use Rattle.sd_law_losses.proofs.Carrying.{carrying}
use Rattle.sd_law_losses.proofs.Later.{tables_before_fail, no_section_part}
use Rattle.sd_law_losses.proofs.Untuned.{sections_at, tail_at, due_rest}
use Rattle.sd_law_losses.proofs.Entitled.{has_set, sections_have, entitled_ones}
use Rattle.sd_law_losses.proofs.Opened.{one_period}
use Rattle.sd_law_losses.proofs.Standing.{pre_at, pre_any, any_first, any_second, packet_stands, pre_numbers}
use Rattle.sd_law_losses.proofs.Standing.{message_stands, all_arrived}
use Rattle.sd_law_losses.proofs.Lawful.{setting, laws_hold}

-- tests that agree on all of these
agree_on : {A : Type 0} (P : A → Type 0) (p q : A → Bool) (xs : List A) → All P xs → ((x : A) → P x → p x ≡ q x) →
    list_any p xs ≡ list_any q xs
agree_on P p q [] all same = refl
agree_on P p q (x ∷ xs) all same =
    rw (same x (All-head P x xs all)) (rw (agree_on P p q xs (All-tail P x xs all) same) refl)

-- the sections of a period entitle as its sets do
pub sections_entitle : (plan : Plan) (q u : ℕ) → IsPlan plan → u < 2 ^ plan.site.height →
    list_any (entitles plan.site.height u q) (map Entitles (emms_of (period_at plan q))) ≡ not (is_revoked_in plan u q)
sections_entitle plan q u is leaf =
    of_sections (emms_of (period_at plan q))
    ∙ (agree_on (Contains (emms_of (period_at plan q))) (λ emm. (emm.period == q) && has_set plan u emm)
    (has_set plan u)
    (emms_of (period_at plan q)) (All-contains_itself (emms_of (period_at plan q)))
    (λ emm there. ap (λ (b : Bool). b && has_set plan u emm) (same_period emm there))
    ∙ sections_have plan q u is leaf)
  where
    of_sections : (emms : List Emm) → list_any (entitles plan.site.height u q) (map Entitles emms)
        ≡ list_any (λ emm. (emm.period == q) && has_set plan u emm) emms
    of_sections [] = refl
    of_sections (emm ∷ emms) = ap (λ (b : Bool). ((emm.period == q) && has_set plan u emm) || b) (of_sections emms)

    same_period : (emm : Emm) → Contains (emms_of (period_at plan q)) emm → (emm.period == q) ≡ true
    same_period emm there = grind (arith, nat_tests, section_number plan q emm there)

-- the first packet of a crypto period is one at which the tables are due
pub begin_is_due : (plan : Plan) (k : ℕ) →
    ((k - k % crypto_length plan.site) % crypto_length plan.site == 0) ≡ true
begin_is_due plan k =
    let begins : ℕ = k - k % crypto_length plan.site in
    let whole : begins ≡ k / crypto_length plan.site * crypto_length plan.site =
    omega (arith, div-add-mod' k (crypto_length plan.site)) in
    let none : begins % crypto_length plan.site ≡ 0 =
    rw whole (mul-mod_left (k / crypto_length plan.site) (crypto_length plan.site)) in
    grind (arith, nat_tests, none)

-- the tables before the first packet of a crypto period entitle to its period
tables_entitle : (plan : Plan) (k u : ℕ) → IsPlan plan → u < 2 ^ plan.site.height →
    list_any (entitles plan.site.height u (period_of plan k)) (tables_before plan (k - k % crypto_length plan.site))
    ≡ not (is_revoked_in plan u (period_of plan k))
unfolding tables_at
tables_entitle plan k u is leaf =
    ap (λ (b : Bool). list_any (entitles plan.site.height u (period_of plan k))
    (if b then tables_at plan begins else [])) first
    ∙ (ap (λ (q : ℕ). list_any (entitles plan.site.height u (period_of plan k)) (map Entitles (emms_of
    (period_at plan q))))
    (period_begins plan k is.site)
    ∙ sections_entitle plan (period_of plan k) u is leaf)
  where
    begins : ℕ
    begins = k - k % crypto_length plan.site

    first : (begins % crypto_length plan.site == 0) ≡ true
    first = begin_is_due plan k

-- all of these are chosen
pub chosen_true : {A : Type 0} (f : ℕ → Bool) (low n : ℕ) (xs : List A) → ((j : ℕ) → low ≤ j → j < low + n →
    f j ≡ true) →
    length xs ≤ n → chosen (map f (range_with_len low n)) xs ≡ xs
unfolding chosen
chosen_true f low zero [] all short = refl
chosen_true f low zero (x ∷ xs) all short = absurd (omega (arith, short))
chosen_true f low (suc n) [] all short = refl
chosen_true f low (suc n) (x ∷ xs) all short =
    rw (all low (omega arith) (omega arith)) (ap (λ (ys : List _). x ∷ ys)
    (chosen_true f (low + 1) n xs (λ j from below. all j (omega (arith, from)) (omega (arith, below))) (omega
    (arith, short))))

filter_short : (f : ℕ → Bool) (low n : ℕ) → length (filter f (range_with_len low n)) ≤ n
filter_short f low zero = omega arith
filter_short f low (suc n) = by_test (f low) (filter_short f (low + 1) n)
  where
    by_test : (b : Bool) → length (filter f (range_with_len (low + 1) n)) ≤ n →
        length (if b then low ∷ filter f (range_with_len (low + 1) n) else filter f (range_with_len
        (low + 1) n)) ≤ suc n
    by_test true rest = omega (arith, rest)
    by_test false rest = omega (arith, rest)

-- what is sent before the message before packet k entitles to its period exactly where the leaf isn't revoked
module _ (plan : Plan) (clear : List (List ℕ)) (u : ℕ) (is : IsPlan plan) (all : IsSendable plan.site clear)
    (whole : AreWholePackets clear) (leaf : u < 2 ^ plan.site.height) where
  abbrev s : Setting
  s = setting plan clear u

  laws : AreLaws s
  laws = laws_hold plan clear u is all whole leaf

  abbrev before : ℕ → List Item
  before k = pre_at s k ++ tables_before plan k

  told_before : (k : ℕ) → k < length clear → All (IsOfBroadcast plan clear) (before k) →
      list_any (entitles plan.site.height u (period_of plan k)) (before k) ≡ not (is_revoked_in plan u
      (period_of plan k))
  told_before k within are = by_revoked (cases_Bool (is_revoked_in plan u (period_of plan k)))
    where
      p : Item → Bool
      p = entitles plan.site.height u (period_of plan k)

      begins : ℕ
      begins = k - k % crypto_length plan.site

      standing : list_any p (tables_before plan begins) ≡ true → (begins ≡ k) ⊎ (begins ≡ k → ⊥) → list_any p
          (before k) ≡ true
      standing there (inl here) = any_second p (pre_at s k) (tables_before plan k)
          (ap (λ (n : ℕ). list_any p (tables_before plan n)) (sym here) ∙ there)
      standing there (inr other) = any_first p (pre_at s k) (tables_before plan k)
          (pre_any s p begins k (omega (arith, other)) (any_first p (tables_before plan begins)
          (tail_at s begins) there))

      by_revoked : (is_revoked_in plan u (period_of plan k) ≡ true) ⊎ (is_revoked_in plan u
          (period_of plan k) ≡ false) →
          list_any p (before k) ≡ not (is_revoked_in plan u (period_of plan k))
      by_revoked (inl revoked) = false_from_ne_true (list_any p (before k))
          (λ told. both_ways (is_revoked_in plan u (period_of plan k))
          (entitled_ones plan clear (period_of plan k) u (before k) is leaf are told) revoked) ∙ ap not (sym revoked)
      by_revoked (inr free) =
          standing (tables_entitle plan k u is leaf ∙ ap not free) (cases_eq begins k) ∙ ap not (sym free)

  -- after the CAT everything stands
  first_group : 0 < length clear → (kept : List Item) × (rest_at s 0 ≡ Cat ∷ kept)
  first_group some = ((sections_at s (period_of plan 0) ++ tail_at s 0) ++ rest_at s 1, due_rest s 0 is.site some first)
    where
      first : (0 % crypto_length plan.site == 0) ≡ true
      first = let none : 0 % crypto_length plan.site ≡ 0 = omega arith in grind (arith, nat_tests, none)

  module _ (kept : List Item) (stands : rest_at s 0 ≡ Cat ∷ kept) where
    kept_all : (j : ℕ) → j < length clear → is_kept kept j ≡ true
    kept_all j within = ap (λ (items : List Item). is_kept items j) (sym stands) ∙ packet_stands s j is.site within

    arrived_all : (a : ℕ) → a ≤ final s → has_arrived kept a ≡ true
    unfolding has_arrived
    arrived_all a within = ap (λ (items : List Item). has_arrived items a) (sym stands) ∙ all_arrived s laws a within

    -- the key of each message's period is had at it exactly where the leaf isn't revoked
    told_at : (a : ℕ) → a < final s → is_entitled_before plan.site.height u (period_of plan (start_of s a)) a kept
        ≡ not (is_revoked_in plan u (period_of plan (start_of s a)))
    unfolding is_entitled_before
    told_at a below =
        ap (is_entitled_before plan.site.height u (period_of plan (start_of s a)) a) (sym stands
        ∙ message_stands s a is.site below)
        ∙ (entitled_before plan.site.height u (period_of plan (start_of s a)) a (before (start_of s a)) (parts_of
        (told_by s a))
        ((carrying s (start_of s a) ∷ []) ++ rest_at s (start_of s a + 1)) none_of
        (ap (λ (n : ℕ). list_any (is_last_part n) (map Controls (parts_of (told_by s a)))) (sym (number_is s a))
        ∙ last_there (told_by s a) (parts_of (told_by s a)) [] (laws.parts a (omega (arith, below))) (laws.some a
        (omega (arith, below))))
        ∙ told_before (start_of s a) inside are)
      where
        inside : start_of s a < length clear
        inside = closing_needed plan.site (length clear) a is.site below

        are : All (IsOfBroadcast plan clear) (before (start_of s a))
        are = all_first (IsOfBroadcast plan clear) (before (start_of s a))
            (map Controls (parts_of (told_by s a)) ++ ((carrying s (start_of s a) ∷ []) ++ rest_at s
            (start_of s a + 1)))
            (subst (All (IsOfBroadcast plan clear)) (message_stands s a is.site below)
            (all_are_of_broadcast plan clear))

        number : closing_number plan.site (start_of s a) ≡ a
        number = (due_number plan.site (start_of s a) is.site due).0 ∙ mul-div_cancel a (omega (arith, is.site.every.0))
          where
            due : (start_of s a % plan.site.every == 0) ≡ true
            due = grind (arith, nat_tests, mul-mod_left a plan.site.every)

        none_of : list_any (is_of a) (before (start_of s a)) ≡ false
        none_of = list_any-append (is_of a) (pre_at s (start_of s a)) (tables_before plan (start_of s a))
            ∙ rw (pre_numbers s laws (start_of s a) a (omega (arith, inside)) (omega (arith, number)))
            (tables_before_fail s (is_of a) refl (no_section_part a) (start_of s a))

    -- where no packet is lost the tracked positions are the true ones
    tracked_true : (pid low high : ℕ) → low ≤ high → high ≤ length clear →
        near_at clear kept low pid high ≡ true_at clear pid high
    unfolding moved_by chosen
    tracked_true pid low high below within =
        near_on clear kept low pid low high (omega arith) below within
        ∙ (ap (λ (js : List ℕ). moved_by pid (moved_by pid (true_at clear pid low) (packets_at clear js))
        (chosen (flags_in kept low high) (stretch clear low high))) (nothing_in kept low)
        ∙ (ap (moved_by pid (true_at clear pid low)) (chosen_true (is_kept kept) low (high - low)
        (stretch clear low high)
        (λ j from to. kept_all j (omega (arith, from, to, below, within))) (omega (
          arith,
          length-take (high - low)
              (drop low clear),
        )))
        ∙ sym (true_on clear pid low high below)))

    few : (low high : ℕ) → length (kept_in kept low high) ≤ high - low
    unfolding kept_in
    few low high = filter_short (is_kept kept) low (high - low)

    -- so each pair of neighbouring messages is open exactly where the leaf isn't revoked
    pair_opens : (a : ℕ) → a < final s → opens s kept a (a + 1) ≡ not (is_revoked_in plan u (period_of plan
        (start_of s a)))
    unfolding is_open card_of
    pair_opens a below =
        rw since (ap (λ (b : Bool). b && nat_le (length (kept_in kept (start_of s a) (end_of s (a + 1)))) 4096)
        (told_at a below)
        ∙ ap (λ (b : Bool). not (is_revoked_in plan u (period_of plan (start_of s a))) && b) small ∙ and_all (not
        (is_revoked_in plan u (period_of plan (start_of s a)))))
      where
        since : nat_le (since_of plan.site.messages plan.site.cryptos (a + 1)) a ≡ true
        since = grind (arith, nat_tests, since_is_below plan.site.messages plan.site.cryptos (a + 1) (omega arith))

        grown : (a + 1) * plan.site.every ≡ a * plan.site.every + plan.site.every
        grown = grind arith

        short : length (kept_in kept (start_of s a) (end_of s (a + 1))) ≤ 4096
        short = omega (arith, few (start_of s a) (end_of s (a + 1)), grown, is.site.every.1)

        small : nat_le (length (kept_in kept (start_of s a) (end_of s (a + 1)))) 4096 ≡ true
        small = grind (arith, nat_tests, short)

        and_all : (b : Bool) → (b && true) ≡ b
        and_all true = refl
        and_all false = refl

    -- and each packet is confirmed exactly where it isn't
    all_confirmed : (j : ℕ) → j < length clear → confirms s kept j ≡ not (is_revoked_in plan u (period_of plan j))
    unfolding is_traced tracked_position
    all_confirmed j within =
        sym (neighbours s kept a (a + 1) j is.site (record { below = omega arith; within = omega (arith, below) })
        (arrived_all a (omega (arith, below))) (arrived_all (a + 1) (omega (arith, below)))
        (λ b above to. absurd (omega (arith, above, to))) from to)
        ∙ (rw (kept_all j within) (ap (λ (b : Bool). opens s kept a (a + 1) && b) let_by_all ∙ and_all
        (opens s kept a (a + 1)))
        ∙ (pair_opens a below ∙ ap not (ap (is_revoked_in plan u) (sym period))))
      where
        some : 0 < plan.site.every
        some = omega (arith, is.site.every.0)

        a : ℕ
        a = j / plan.site.every

        below : a < final s
        below = number_within s j is.site within

        from : start_of s a ≤ j
        from = (le-div_iff_mul-le some).0 (omega arith)

        grown : (a + 1) * plan.site.every ≡ a * plan.site.every + plan.site.every
        grown = grind arith

        next : j < (a + 1) * plan.site.every
        next = (div-lt_iff_lt-mul some).0 (omega arith)

        to : j < end_of s (a + 1)
        to = omega (arith, next, within)

        period : period_of plan j ≡ period_of plan (start_of s a)
        period = one_period plan a (a + 1) j is.site
            (omega (arith, since_is_below plan.site.messages plan.site.cryptos (a + 1) (omega arith))) (omega arith)
            (omega arith)

        tracked : near_at clear kept (start_of s a) (pid_of (packet_at clear j)) (end_of s (a + 1))
            ≡ true_at clear (pid_of (packet_at clear j)) (end_of s (a + 1))
        tracked = tracked_true (pid_of (packet_at clear j)) (start_of s a) (end_of s (a + 1)) (omega (arith, from, to))
            (omega arith)

        near : is_traced plan clear kept a (a + 1) (pid_of (packet_at clear j)) ≡ true
        near = ap (λ (x : ℕ). nat_le x (true_at clear (pid_of (packet_at clear j)) (end_of s (a + 1)))
            && nat_le (true_at clear (pid_of (packet_at clear j)) (end_of s (a + 1))) (x + 15)) tracked
            ∙ itself (true_at clear (pid_of (packet_at clear j)) (end_of s (a + 1)))
          where
            itself : (x : ℕ) → (nat_le x x && nat_le x (x + 15)) ≡ true
            itself x = grind (arith, nat_tests)

        or_all : (b : Bool) → (b || true) ≡ true
        or_all true = refl
        or_all false = refl

        and_all : (b : Bool) → (b && true) ≡ b
        and_all true = refl
        and_all false = refl

        let_by_all : (not (is_scrambled (kind_of (take j clear) (packet_at clear j)))
            || is_traced plan clear kept a (a + 1) (pid_of (packet_at clear j))) ≡ true
        let_by_all = rw near (or_all (not (is_scrambled (kind_of (take j clear) (packet_at clear j)))))

  -- what is confirmed of the whole broadcast is all that the leaf is entitled to
  pub all_are_opened : confirmed plan u clear (sent plan clear ++ closing_of plan clear) ≡ opened_by plan u clear
  unfolding confirmed opened_by after_cat card_of
  all_are_opened = by_length (cases_eq (length clear) 0)
    where
      opened : ℕ → Bool
      opened j = not (is_revoked_in plan u (period_of plan j))

      by_length : (length clear ≡ 0) ⊎ (length clear ≡ 0 → ⊥) →
          packets_at clear (filter (confirms s (after_cat (rest_at s 0))) (range_with_len 0 (length clear)))
          ≡ packets_at clear (filter opened (range_with_len 0 (length clear)))
      by_length (inl none) = ap (λ (n : ℕ). packets_at clear (filter (confirms s (after_cat (rest_at s 0)))
          (range_with_len 0 n))) none
          ∙ sym (ap (λ (n : ℕ). packets_at clear (filter opened (range_with_len 0 n))) none)
      by_length (inr some) =
          let group = first_group (omega (arith, some)) in
          ap (λ (items : List Item). packets_at clear (filter (confirms s (after_cat items)) (range_with_len 0
          (length clear)))) group.1
          ∙ ap (packets_at clear) (filter_range (confirms s group.0) opened 0 (length clear)
          (λ j low below. all_confirmed group.0 group.1 j (omega (arith, below))))
