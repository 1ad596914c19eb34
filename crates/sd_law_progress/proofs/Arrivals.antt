-- Where nothing but clear packets is lost and no PID has a wide gap, what is kept of what is due is confirmed.
use Rattle.std.proofs.Common.{◌≡◌, refl, ℕ, ◌+◌, ◌-◌, ◌*◌, ◌/◌, ◌%◌, ◌<◌, ◌≤◌, ◌==◌, ◌&&◌, ◌||◌, Bool, true}
use Rattle.std.proofs.Common.{false, List, [], ◌∷◌, ◌++◌, map, filter, length, take, arith, sym, ap, ◌∙◌, inl, inr, ◌⊎◌}
use Rattle.std.proofs.Common.{subst}
use Rattle.std.specs.List.{list_any, range_with_len}
use Rattle.std.proofs.lemmas.Bool.{cases_Bool, cases_eq}
use Rattle.std.proofs.lemmas.Bool.Decides.{nat_tests}
use Rattle.std.proofs.lemmas.List.Elements.{filter_agree}
use Rattle.std.proofs.Math.Nat.{div-lt_iff_lt-mul, le-div_iff_mul-le}
use Rattle.sd_base.proofs.Ranges.{filter_range}
use Rattle.sd_packet.specs.Header.{pid_of}
use Rattle.sd_packet.specs.Positions.{is_moving, position_of}
use Rattle.sd_site_cards.specs.CardFields.{site_card}
use Rattle.sd_spec.specs.Plan.{Plan, crypto_length, period_of}
use Rattle.sd_spec.specs.Sent.{Item, Cat, Entitles, Controls, Carries, broadcast}
use Rattle.sd_spec.specs.Offered.{out_from}
use Rattle.sd_law_losses.specs.Chosen.{chosen}
use Rattle.sd_law_losses.specs.Kept.{is_kept, kept_in, is_part, has_parts, has_arrived, is_last_part}
use Rattle.sd_law_losses.specs.Kept.{is_entitled_before, after_cat}
use Rattle.sd_law_losses.specs.Confirmed.{packet_at, packets_at, upto, is_confirmed_at, confirmed}
use Rattle.sd_law_losses.specs.Gaps.{are_near, positions_between, has_no_gap}
use Rattle.sd_law_losses.proofs.Tests.{any_agree, all_agree}
use Rattle.sd_law_losses.proofs.Setting.{Setting, final}
use Rattle.sd_law_losses.proofs.Pairs.{start_of}
use Rattle.sd_law_losses.proofs.Remaining.{rest_at, number_within}
use Rattle.sd_law_losses.proofs.Untuned.{sections_at, tail_at, due_rest}
use Rattle.sd_law_losses.proofs.Gapless.{traced_by_gaps}
use Rattle.sd_law_losses.proofs.Theorem.{confirmed_alone}
use Rattle.sd_law_losses.proofs.Lawful.{setting}
use Rattle.sd_law_progress.specs.Progress.{things, is_due, messages_in, AreMessagesKept, HaveNoGaps, kept_due}
use Rattle.sd_law_progress.proofs.Given.{IsSentTo}
use Rattle.sd_law_progress.proofs.Between.{between_arrived}
use Rattle.sd_law_progress.proofs.Back.{IsBack, back_at, back_arrived, next_arrived, back_told, whole_back}

-- what no clear packet passes is passed by messages alone
any_message : (p : Item → Bool) → ((j : ℕ) (packet : List ℕ) → p (Carries j packet) ≡ false) → (items : List Item) →
    list_any p items ≡ list_any p (messages_in items)
any_message p none [] = refl
any_message p none (Cat ∷ items) = ap (λ (b : Bool). p Cat || b) (any_message p none items)
any_message p none (Entitles emm ∷ items) = ap (λ (b : Bool). p (Entitles emm) || b) (any_message p none items)
any_message p none (Controls part ∷ items) = ap (λ (b : Bool). p (Controls part) || b) (any_message p none items)
any_message p none (Carries j packet ∷ items) = rw (none j packet) (any_message p none items)

parts_among : (kept : List Item) (a : ℕ) (item : Item) → has_parts kept a item ≡ has_parts (messages_in kept) a item
parts_among kept a Cat = refl
parts_among kept a (Entitles emm) = refl
parts_among kept a (Carries j packet) = refl
parts_among kept a (Controls part) =
    ap (λ (b : Bool). (part.number == a) && b)
    (all_agree (λ x. list_any (is_part a x) kept) (λ x. list_any (is_part a x) (messages_in kept))
    (range_with_len 0 (part.last_part + 1)) (λ x. any_message (is_part a x) (λ j packet. refl) kept))

-- so which messages have arrived
arrived_among : (kept : List Item) (a : ℕ) → has_arrived kept a ≡ has_arrived (messages_in kept) a
unfolding has_arrived
arrived_among kept a =
    any_agree (has_parts kept a) (has_parts (messages_in kept) a) kept (parts_among kept a)
    ∙ any_message (has_parts (messages_in kept) a) (λ j packet. refl) kept

-- and before which the key is had
entitled_among : (h u q a : ℕ) (kept : List Item) →
    is_entitled_before h u q a kept ≡ is_entitled_before h u q a (messages_in kept)
unfolding is_entitled_before
entitled_among h u q a [] = refl
entitled_among h u q a (Carries j packet ∷ kept) = entitled_among h u q a kept
entitled_among h u q a (Cat ∷ kept) = entitled_among h u q a kept
entitled_among h u q a (Entitles emm ∷ kept) =
    rw (any_message (is_last_part a) (λ j packet. refl) kept) (rw (entitled_among h u q a kept) refl)
entitled_among h u q a (Controls part ∷ kept) =
    rw (entitled_among h u q a kept) refl

pub same_arrived : (kept others : List Item) (a : ℕ) → messages_in kept ≡ messages_in others →
    has_arrived kept a ≡ has_arrived others a
same_arrived kept others a same =
    arrived_among kept a ∙ (ap (λ (items : List Item). has_arrived items a) same ∙ sym (arrived_among others a))

pub same_entitled : (h u q a : ℕ) (kept others : List Item) → messages_in kept ≡ messages_in others →
    is_entitled_before h u q a kept ≡ is_entitled_before h u q a others
same_entitled h u q a kept others same =
    entitled_among h u q a kept
    ∙ (ap (is_entitled_before h u q a) same ∙ sym (entitled_among h u q a others))

-- a choice has no more messages
fewer_messages : (fs : List Bool) (items : List Item) → length (messages_in (chosen fs items)) ≤ length (messages_in
    items)
unfolding chosen
fewer_messages [] items = omega arith
fewer_messages (f ∷ fs) [] = omega arith
fewer_messages (true ∷ fs) (Carries j packet ∷ items) = fewer_messages fs items
fewer_messages (false ∷ fs) (Carries j packet ∷ items) = fewer_messages fs items
fewer_messages (true ∷ fs) (Cat ∷ items) = omega (arith, fewer_messages fs items)
fewer_messages (false ∷ fs) (Cat ∷ items) = omega (arith, fewer_messages fs items)
fewer_messages (true ∷ fs) (Entitles emm ∷ items) = omega (arith, fewer_messages fs items)
fewer_messages (false ∷ fs) (Entitles emm ∷ items) = omega (arith, fewer_messages fs items)
fewer_messages (true ∷ fs) (Controls part ∷ items) = omega (arith, fewer_messages fs items)
fewer_messages (false ∷ fs) (Controls part ∷ items) = omega (arith, fewer_messages fs items)

-- where all messages are kept, and the first thing is the CAT, it is kept
record FirstKept (flags : List Bool) (items : List Item) : Type 0 where
  rest : List Bool
  same : chosen flags (Cat ∷ items) ≡ Cat ∷ chosen rest items
  messages : messages_in (chosen rest items) ≡ messages_in items

same_rest : (x y : Item) (xs ys : List Item) → x ∷ xs ≡ y ∷ ys → xs ≡ ys
same_rest x y xs ys same = cc

first_kept : (flags : List Bool) (items : List Item) →
    messages_in (chosen flags (Cat ∷ items)) ≡ messages_in (Cat ∷ items) → FirstKept flags items
unfolding chosen
first_kept [] items same = absurd (cc same)
first_kept (true ∷ fs) items same =
    record {
      rest = fs;
      same = refl;
      messages = same_rest Cat Cat (messages_in (chosen fs items)) (messages_in items)
          same;
    }
first_kept (false ∷ fs) items same =
    let long : length (messages_in (chosen fs items)) ≡ length (messages_in items) + 1 = ap length same ∙ omega arith in
    absurd (omega (arith, long, fewer_messages fs items))

-- the CAT makes no gap
same_gaps : (plan : Plan) (clear : List (List ℕ)) (kept : List Item) (a b pid : ℕ) →
    has_no_gap plan clear (Cat ∷ kept) a b pid ≡ has_no_gap plan clear kept a b pid
unfolding has_no_gap positions_between kept_in
same_gaps plan clear kept a b pid =
    ap (λ (js : List ℕ). are_near (position_of pid (take (a * plan.site.every) clear))
    (map (λ j. position_of pid (take (j + 1) clear)) (filter (λ j. is_moving pid (packet_at clear j)) js))
    (position_of pid (take (upto plan clear b) clear)))
    (filter_agree (is_kept (Cat ∷ kept)) (is_kept kept) (λ j. refl)
    (range_with_len (a * plan.site.every) (upto plan clear b - a * plan.site.every)))

module _ (plan : Plan) (clear : List (List ℕ)) (u : ℕ) (is : IsSentTo plan clear u) where
  abbrev s : Setting
  s = setting plan clear u

  -- behind the CAT
  kept_confirmed : (kept others : List Item) (j : ℕ) → others ≡ after_cat (rest_at s 0) →
      messages_in kept ≡ messages_in others → HaveNoGaps plan clear kept → j < length clear →
      is_confirmed_at plan u clear kept j ≡ (is_kept kept j && is_due plan u j)
  unfolding is_confirmed_at
  kept_confirmed kept others j others_are same gaps within = by_kept (cases_Bool (is_kept kept j))
    where
      some : 0 < plan.site.every
      some = omega (arith, is.plan.site.every.0)

      a : ℕ
      a = j / plan.site.every

      below : a < final s
      below = number_within s j is.plan.site within

      low : start_of s a ≤ j
      low = (le-div_iff_mul-le some).0 (omega arith)

      high : j < (a + 1) * plan.site.every
      high = (div-lt_iff_lt-mul some).0 (omega arith)

      there : (front : List Item) × IsBack plan clear u is a front others
      there =
          let first = whole_back plan clear u is (omega (arith, within)) in
          back_at plan clear u is 0 a first.0 others (omega arith) below
          (subst (λ (items : List Item). IsBack plan clear u is 0 first.0 items) (sym others_are)
          first.1)

      by_kept : (is_kept kept j ≡ true) ⊎ (is_kept kept j ≡ false) →
          is_confirmed_at plan u clear kept j ≡ (is_kept kept j && is_due plan u j)
      by_kept (inr lost) = rw lost refl
      by_kept (inl is_there) =
          between_arrived plan clear u is kept a j below low (omega (arith, high, within))
          (same_arrived kept others a same ∙ back_arrived plan clear u is a there.0 others there.1)
          (same_arrived kept others (a + 1) same ∙ next_arrived plan clear u is a there.0 others there.1)
          (same_entitled plan.site.height u (period_of plan (start_of s a)) a kept others same
          ∙ back_told plan clear u is a there.0 others there.1)
          (λ veiled. traced_by_gaps s kept a (a + 1) (pid_of (packet_at clear j)) is.plan.site
          (record { below = omega arith; within = omega (arith, below) })
          ∙ gaps a j low (omega (arith, high, within)) is_there veiled)

  -- so of a broadcast that loses nothing but clear packets
  pub kept_are_confirmed : (flags : List Bool) → AreMessagesKept plan clear (chosen flags (things plan clear)) →
      HaveNoGaps plan clear (chosen flags (things plan clear)) →
      confirmed plan u clear (chosen flags (things plan clear))
      ≡ kept_due plan u clear (chosen flags (things plan clear))
  unfolding confirmed kept_due after_cat
  kept_are_confirmed flags are gaps = by_length (cases_eq (length clear) 0)
    where
      kept : List Item
      kept = chosen flags (things plan clear)

      due : List Item → ℕ → Bool
      due items j = is_kept items j && is_due plan u j

      by_length : (length clear ≡ 0) ⊎ (length clear ≡ 0 → ⊥) →
          packets_at clear (filter (is_confirmed_at plan u clear (after_cat kept)) (range_with_len 0 (length clear)))
          ≡ packets_at clear (filter (due kept) (range_with_len 0 (length clear)))
      by_length (inl none) =
          ap (λ (n : ℕ). packets_at clear (filter (is_confirmed_at plan u clear (after_cat kept)) (range_with_len 0 n)))
          none
          ∙ sym (ap (λ (n : ℕ). packets_at clear (filter (due kept) (range_with_len 0 n))) none)
      by_length (inr some) =
          ap (λ (items : List Item). packets_at clear (filter (is_confirmed_at plan u clear (after_cat items))
          (range_with_len 0 (length clear)))) is_kept_so
          ∙ (ap (packets_at clear) (filter_range (is_confirmed_at plan u clear (chosen group.rest others)) (due kept) 0
          (length clear)
          (λ j low below. kept_confirmed (chosen group.rest others) others j (sym (ap after_cat stand)) group.messages
          (λ a i from to there veiled. sym (same_gaps plan clear (chosen group.rest others) a (a + 1)
          (pid_of (packet_at clear i)))
          ∙ (ap (λ (items : List Item). has_no_gap plan clear items a (a + 1) (pid_of (packet_at clear i)))
          (sym is_kept_so)
          ∙ gaps a i from to
          (ap (λ (items : List Item). is_kept items i) is_kept_so ∙ there) veiled))
          (omega (arith, below))
          ∙ ap (λ (items : List Item). due items j) (sym is_kept_so))))
        where
          others : List Item
          others = (sections_at s (period_of plan 0) ++ tail_at s 0) ++ rest_at s 1

          stand : things plan clear ≡ Cat ∷ others
          stand = due_rest s 0 is.plan.site (omega (arith, some)) first
            where
              first : (0 % crypto_length plan.site == 0) ≡ true
              first = let none : 0 % crypto_length plan.site ≡ 0 = omega arith in grind (arith, nat_tests, none)

          group : FirstKept flags others
          group = first_kept flags others
              (ap (λ (items : List Item). messages_in (chosen flags items)) (sym stand)
              ∙ (are ∙ ap messages_in stand))

          is_kept_so : kept ≡ Cat ∷ chosen group.rest others
          is_kept_so = ap (chosen flags) stand ∙ group.same

  -- and so it is written
  pub kept_are_written : (flags : List Bool) → AreMessagesKept plan clear (chosen flags (things plan clear)) →
      HaveNoGaps plan clear (chosen flags (things plan clear)) →
      out_from (site_card plan.site u) [] (chosen flags (broadcast plan clear))
      ≡ kept_due plan u clear (chosen flags (things plan clear))
  kept_are_written flags are gaps =
      confirmed_alone plan clear u flags is.plan is.sendable is.whole is.leaf ∙ kept_are_confirmed flags are gaps
