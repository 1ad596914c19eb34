-- Where nothing is lost before a place, all that is due is confirmed up to the last message before it.
use Rattle.std.proofs.Common.{◌≡◌, refl, ℕ, ◌+◌, ◌-◌, ◌*◌, ◌/◌, ◌%◌, ◌<◌, ◌≤◌, ◌==◌, ◌&&◌, Bool, true, false}
use Rattle.std.proofs.Common.{List, [], ◌∷◌, ◌++◌, map, length, take, drop, arith, sym, ap, ◌∙◌, inl, inr, ◌⊎◌}
use Rattle.std.proofs.Common.{append_assoc, append-nil, subst}
use Rattle.std.specs.Prelude.{if◌then◌else◌, count_by}
use Rattle.std.specs.List.{list_any}
use Rattle.std.proofs.lemmas.Bool.{cases_eq, cases_lt, both_ways}
use Rattle.std.proofs.lemmas.Bool.Decides.{nat_tests}
use Rattle.std.proofs.lemmas.List.{length-append, length-map, take-map, take-append-le, take-append-drop}
use Rattle.std.proofs.Math.Seq.{take-append-add}
use Rattle.std.proofs.Math.Nat.{div-mul-le_self, lt-div-mul-add, div-lt_iff_lt-mul, mul-le-mul_right}
use Rattle.sd_packet.specs.Header.{pid_of}
use Rattle.sd_site_cards.specs.CardFields.{site_card}
use Rattle.sd_message.specs.EcmParts.{parts_of}
use Rattle.sd_message.specs.declared.ecm_part.EcmPart.{EcmPart}
use Rattle.sd_spec.specs.Plan.{Plan, crypto_length, period_of, closing_number}
use Rattle.sd_spec.specs.Sent.{Item, Cat, Controls, broadcast, tables_at, tables_before, is_cat_item}
use Rattle.sd_spec.specs.Offered.{out_from}
use Rattle.sd_spec.proofs.Schedule.{closing_needed}
use Rattle.sd_law_losses.specs.Chosen.{chosen}
use Rattle.sd_law_losses.specs.Kept.{is_kept, is_carried, has_arrived, entitles, after_cat}
use Rattle.sd_law_losses.specs.Confirmed.{packet_at, is_confirmed_at}
use Rattle.sd_law_losses.proofs.Arriving.{is_of, none_arrived, arrived_by_parts}
use Rattle.sd_law_losses.proofs.Setting.{Setting, AreLaws, final, told_by}
use Rattle.sd_law_losses.proofs.Pairs.{start_of, end_of, number_is, end_is, end_is_all}
use Rattle.sd_law_losses.proofs.Carrying.{carrying}
use Rattle.sd_law_losses.proofs.Remaining.{parts_before, rest_at, rest_none, closing_items, number_within}
use Rattle.sd_law_losses.proofs.Later.{tables_before_fail, no_section_part, no_other_part}
use Rattle.sd_law_losses.proofs.Untuned.{sections_at, tail_at, due_rest}
use Rattle.sd_law_losses.proofs.Standing.{pre_at, pre_any, sent_split, any_first, any_second, pre_numbers}
use Rattle.sd_law_losses.proofs.Standing.{message_stands}
use Rattle.sd_law_losses.proofs.Theorem.{confirmed_alone}
use Rattle.sd_law_losses.proofs.Lawful.{setting}
use Rattle.sd_law_progress.specs.Progress.{things, is_due, is_clear_item, AreKeptBefore, packets_before, due_in}
use Rattle.sd_law_progress.specs.Progress.{confirmed_in}
use Rattle.sd_law_progress.proofs.Given.{IsSentTo, laws_of}
use Rattle.sd_law_progress.proofs.Splits.{mid_at, fails_both, fails_joined, after_some, after_fails}
use Rattle.sd_law_progress.proofs.Choices.{chosen_before, firsts, firsts_chosen, firsts_not_all, kept_after}
use Rattle.sd_law_progress.proofs.Counts.{counts_joined, no_part, no_table, count_pre, place_past, fewer_before}
use Rattle.sd_law_progress.proofs.Between.{arrives, knows, traced_whole, between_arrived}
use Rattle.sd_law_progress.proofs.Back.{IsBack, ahead, from_message, behind, ends, pre_is, back_at}
use Rattle.sd_law_progress.proofs.Back.{back_told, whole_back}
use Rattle.sd_law_progress.proofs.Returns.{none_ahead, confirmed_parts, confirmed_due}

module _ (plan : Plan) (clear : List (List ℕ)) (u : ℕ) (is : IsSentTo plan clear u) where
  abbrev s : Setting
  s = setting plan clear u

  laws : AreLaws s
  laws = laws_of plan clear u is

  abbrev pub parts_at : ℕ → List Item
  parts_at n = map Controls (parts_of (told_by s n))

  abbrev ahead_of : ℕ → List Item
  ahead_of n = ahead plan clear u is n

  -- what stands before message n's parts and behind them
  pub record IsPlaced (n : ℕ) : Type 0 where
    pub middle : List Item
    pub later : List Item
    pub within : n ≤ final s
    pub same : things plan clear ≡ (pre_at s (end_of s n) ++ middle) ++ (parts_at n ++ later)
    pub none : list_any (is_of n) (pre_at s (end_of s n) ++ middle) ≡ false
    pub count : count_by is_clear_item middle ≡ 0

  count_ends : count_by is_clear_item (ends plan clear u is) ≡ 0
  count_ends = by_test (length clear == 0)
    where
      by_test : (b : Bool) → count_by is_clear_item (if b then tables_at plan 0 else []) ≡ 0
      by_test true = ap (λ (b : Bool). count_by is_clear_item (if b then tables_at plan 0 else [])) (sym first)
          ∙ no_table
          plan 0
        where
          first : (0 % crypto_length plan.site == 0) ≡ true
          first = let none : 0 % crypto_length plan.site ≡ 0 = omega arith in grind (arith, nat_tests, none)
      by_test false = refl

  none_ends : (n : ℕ) → list_any (is_of n) (ends plan clear u is) ≡ false
  none_ends n = by_test (length clear == 0)
    where
      by_test : (b : Bool) → list_any (is_of n) (if b then tables_at plan 0 else []) ≡ false
      by_test true = ap (λ (b : Bool). list_any (is_of n) (if b then tables_at plan 0 else [])) (sym first)
          ∙ tables_before_fail s (is_of n) refl (no_section_part n) 0
        where
          first : (0 % crypto_length plan.site == 0) ≡ true
          first = let none : 0 % crypto_length plan.site ≡ 0 = omega arith in grind (arith, nat_tests, none)
      by_test false = refl

  -- all of the broadcast before the closing message, and its parts
  closing_stands : things plan clear ≡ (pre_at s (length clear) ++ ends plan clear u is)
      ++ parts_at (final s)
  closing_stands =
      sent_split s (length clear) is.plan.site (omega arith)
      ∙ (ap (λ (xs : List Item). pre_at s (length clear) ++ xs) (rest_none s ∙ closing_items s)
      ∙ sym (append_assoc (pre_at s (length clear)) (ends plan clear u is) (parts_at (final s))))

  pub placed : (n : ℕ) → n ≤ final s → IsPlaced n
  placed n within = by_last (cases_lt n (final s))
    where
      by_last : (n < final s) ⊎ (final s ≤ n) → IsPlaced n
      by_last (inl below) =
          let at : end_of s n ≡ start_of s n = end_is s n is.plan.site below in record {
            middle = tables_before plan (start_of s n);
            later = behind plan clear u is n;
            within = within;
            same = message_stands s n is.plan.site below
                ∙ ap (λ (k : ℕ). (pre_at s k ++ tables_before plan (start_of s n)) ++ (parts_at n
                ++ behind plan clear u is n)) (sym at);
            none = fails_joined (is_of n) (pre_at s (end_of s n)) (tables_before plan (start_of s n))
                (ap (λ (k : ℕ). list_any (is_of n) (pre_at s k)) at
                ∙ none_ahead plan clear u is n n below (omega arith))
                (tables_before_fail s (is_of n) refl (no_section_part n) (start_of s n));
            count = no_table plan (start_of s n);
          }
      by_last (inr last) =
          let here : n ≡ final s = omega (arith, within, last) in
          let at : end_of s n ≡ length clear = end_is_all s n is.plan.site here in record {
            middle = ends plan clear u is;
            later = [];
            within = within;
            same = closing_stands
                ∙ (ap (λ (a : ℕ). (pre_at s (length clear) ++ ends plan clear u is) ++ parts_at a) (sym
                here)
                ∙ (ap (λ (xs : List Item). (pre_at s (length clear) ++ ends plan clear u is) ++ xs)
                (sym (append-nil (parts_at n)))
                ∙ ap (λ (k : ℕ). (pre_at s k ++ ends plan clear u is) ++ (parts_at n ++ [])) (sym at)));
            none = fails_joined (is_of n) (pre_at s (end_of s n)) (ends plan clear u is)
                (pre_numbers s laws (end_of s n) n (omega arith)
                (omega (arith, ap (closing_number plan.site) at, here)))
                (none_ends n);
            count = count_ends;
          }

  -- all things before message n's parts
  abbrev pub front_at : (n : ℕ) → IsPlaced n → List Item
  front_at n place = pre_at s (end_of s n) ++ place.middle

  -- a message that arrives among the first things stands wholly among them
  arrived_within : (n x : ℕ) (place : IsPlaced n) → has_arrived (take x (things plan clear)) n ≡ true →
      length (front_at n place ++ parts_at n) ≤ x
  arrived_within n x place arrived = by_front (cases_lt x (length front)) (cases_lt x (length (front ++ parts_at n)))
    where
      front : List Item
      front = front_at n place

      parts : List EcmPart
      parts = parts_of (told_by s n)

      long : length (front ++ parts_at n) ≡ length front + length parts
      long = length-append front (parts_at n) ∙ ap (λ (m : ℕ). length front + m) (length-map parts Controls)

      by_front : (x < length front) ⊎ (length front ≤ x) → (x < length (front ++ parts_at n)) ⊎
          (length (front ++ parts_at n) ≤ x) → length (front ++ parts_at n) ≤ x
      by_front which (inr past) = past
      by_front (inl before) (inl short) =
          let taken : take x (things plan clear) ≡ take x front =
          ap (take x) place.same ∙ take-append-le x front (parts_at n ++ place.later) (omega (arith, before)) in
          let none : has_arrived (take x (things plan clear)) n ≡ false =
          ap (λ (items : List Item). has_arrived items n) taken
          ∙ none_arrived (take x front) n (fails_both (is_of n) (take x front) (drop x front)
          (ap (list_any (is_of n)) (take-append-drop x front) ∙ place.none)).0 in
          absurd (both_ways (has_arrived (take x (things plan clear)) n) none arrived)
      by_front (inr inside) (inl short) =
          let d : ℕ = x - length front in
          let at : length front + d ≡ x = omega (arith, inside) in
          let few : d < length parts = omega (arith, at, long, short) in
          let cut : take d (parts_at n ++ place.later) ≡ map Controls (chosen (firsts d) parts) =
          take-append-le d (parts_at n) place.later (omega (arith, few, length-map parts Controls))
          ∙ (take-map Controls d parts
          ∙ ap (map Controls) (sym (firsts_chosen d parts))) in
          let taken : take x (things plan clear) ≡ front ++ map Controls (chosen (firsts d) parts) =
          ap (λ (i : ℕ). take i (things plan clear)) (sym at)
          ∙ (ap (take (length front + d)) place.same
          ∙ (take-append-add front (parts_at n ++ place.later) d
          ∙ ap (λ (items : List Item). front ++ items) cut)) in
          let none : has_arrived (take x (things plan clear)) n ≡ false =
          ap (λ (items : List Item). has_arrived items n) taken
          ∙ (ap (has_arrived (front ++ map Controls (chosen (firsts d) parts))) (sym (number_is s n))
          ∙ (arrived_by_parts (told_by s n) front (firsts d) parts
          (ap (λ (a : ℕ). list_any (is_of a) front) (number_is s n) ∙ place.none)
          (laws.parts n place.within) (laws.some n place.within)
          ∙ firsts_not_all d parts few)) in
          absurd (both_ways (has_arrived (take x (things plan clear)) n) none arrived)

  -- so it is kept with all before it
  pub kept_to : (n x : ℕ) (flags : List Bool) (place : IsPlaced n) → AreKeptBefore plan clear x flags →
      length (front_at n place ++ parts_at n) ≤ x →
      (rest : List Item) × (chosen flags (things plan clear) ≡ front_at n place ++ (parts_at n ++ rest))
  kept_to n x flags place are past =
      let first : List Item = front_at n place ++ parts_at n in
      let d : ℕ = x - length first in
      let at : length first + d ≡ x = omega (arith, past) in
      let lost : List Item = chosen (drop x flags) (drop x (things plan clear)) in
      let taken : take x (things plan clear) ≡ first ++ take d place.later =
      ap (λ (i : ℕ). take i (things plan clear)) (sym at)
      ∙ (ap (take (length first + d)) (place.same ∙ sym (append_assoc (front_at n place) (parts_at n) place.later))
      ∙ take-append-add first place.later d) in (
        take d place.later ++ lost,
        chosen_before x flags (things plan clear) are
            ∙ (ap (λ (items : List Item). items ++ lost) taken
            ∙ (append_assoc first (take d place.later) lost
            ∙ append_assoc (front_at n place) (parts_at n) (take d place.later ++ lost))),
      )

  -- an earlier message stands before it
  earlier_stands : (a n : ℕ) (place : IsPlaced n) → a < n →
      (later : List Item) × (front_at n place ≡ ahead_of a ++ (parts_at a ++ later))
  earlier_stands a n place before =
      let d : ℕ = end_of s n - (start_of s a + 1) in
      let order : (a + 1) * plan.site.every ≤ n * plan.site.every = mul-le-mul_right plan.site.every (omega
      (arith, before)) in
      let grown : (a + 1) * plan.site.every ≡ a * plan.site.every + plan.site.every = grind arith in
      let inside : start_of s a < length clear =
      closing_needed plan.site (length clear) a is.plan.site (omega (arith, before, place.within)) in
      let at : start_of s a + 1 + d ≡ end_of s n = omega (arith, order, grown, is.plan.site.every.0, inside) in
      let mid : List Item = (carrying s (start_of s a) ∷ []) ++ mid_at s (start_of s a + 1) d in (
        mid ++ place.middle,
        ap (λ (k : ℕ). pre_at s k ++ place.middle) (sym at)
            ∙ (ap (λ (xs : List Item). xs ++ place.middle)
            (sym (pre_is plan clear u is a d (omega (arith, before, place.within)) (omega (arith, at))))
            ∙ (append_assoc (ahead_of a) (parts_at a ++ mid) place.middle
            ∙ ap (λ (xs : List Item). ahead_of a ++ xs) (append_assoc (parts_at a) mid place.middle))),
      )

  -- the first CAT stands before each message
  cat_ahead : (a : ℕ) → list_any is_cat_item (ahead_of a) ≡ true
  unfolding tables_at
  cat_ahead a = by_first (cases_eq (start_of s a) 0)
    where
      first : (0 % crypto_length plan.site == 0) ≡ true
      first = let none : 0 % crypto_length plan.site ≡ 0 = omega arith in grind (arith, nat_tests, none)

      tables : list_any is_cat_item (tables_before plan 0) ≡ true
      tables = ap (λ (b : Bool). list_any is_cat_item (if b then tables_at plan 0 else [])) first

      by_first : (start_of s a ≡ 0) ⊎ (start_of s a ≡ 0 → ⊥) → list_any is_cat_item (ahead_of a) ≡ true
      by_first (inl here) = any_second is_cat_item (pre_at s (start_of s a)) (tables_before plan (start_of s a))
          (ap (λ (k : ℕ). list_any is_cat_item (tables_before plan k)) here ∙ tables)
      by_first (inr later) = any_first is_cat_item (pre_at s (start_of s a)) (tables_before plan (start_of s a))
          (pre_any s is_cat_item 0 (start_of s a) (omega (arith, later))
          (any_first is_cat_item (tables_before plan 0) (parts_before s 0 ++ carrying s 0 ∷ []) tables))

  -- what is sent before a message entitles where the key is due
  ahead_told : (a : ℕ) → a < final s →
      list_any (entitles plan.site.height u (period_of plan (start_of s a))) (after_cat (ahead_of a))
      ≡ is_due plan u (start_of s a)
  ahead_told a below =
      sym (knows plan clear u is (after_cat (rest_at s 0)) (after_cat (ahead_of a))
      (behind plan clear u is a) a (period_of plan (start_of s a)) (omega (arith, below))
      (ap after_cat (message_stands s a is.plan.site below)
      ∙ after_some (ahead_of a) (from_message plan clear u is a) (cat_ahead a))
      (none_after a below))
      ∙ back_told plan clear u is a there.0 (after_cat (rest_at s 0)) there.1
    where
      there : (front : List Item) × IsBack plan clear u is a front (after_cat (rest_at s 0))
      there =
          let inside = closing_needed plan.site (length clear) a is.plan.site below in
          let first = whole_back plan clear u is (omega (arith, inside)) in
          back_at plan clear u is 0 a first.0 (after_cat (rest_at s 0)) (omega arith) below first.1

      none_after : (a : ℕ) → a < final s → list_any (is_of a) (after_cat (ahead_of a)) ≡ false
      none_after a below = after_fails (is_of a) (ahead_of a)
          (fails_joined (is_of a) (pre_at s (start_of s a)) (tables_before plan (start_of s a))
          (none_ahead plan clear u is a a below (omega arith))
          (tables_before_fail s (is_of a) refl (no_section_part a) (start_of s a)))

  module _ (n : ℕ) (place : IsPlaced n) (kept rest : List Item)
      (kept_is : kept ≡ front_at n place ++ (parts_at n ++ rest)) where
    -- what is kept, cut at an earlier message
    cut_at : (a : ℕ) → a < n →
        (later : List Item) × (after_cat kept ≡ after_cat (ahead_of a) ++ (parts_at a ++ later))
    cut_at a before =
        let (later, same) = earlier_stands a n place before in (
          later ++ (parts_at n ++ rest),
          ap after_cat (kept_is ∙ (ap (λ (xs : List Item). xs ++ (parts_at n ++ rest)) same
              ∙ (append_assoc (ahead_of a) (parts_at a ++ later) (parts_at n ++ rest)
              ∙ ap (λ (xs : List Item). ahead_of a ++ xs) (append_assoc (parts_at a) later (parts_at n ++ rest)))))
              ∙ after_some (ahead_of a) (parts_at a ++ (later ++ (parts_at n ++ rest))) (cat_ahead a),
        )

    cat_front : (a : ℕ) → a < n → list_any is_cat_item (front_at n place) ≡ true
    cat_front a before =
        let (later, same) = earlier_stands a n place before in
        ap (list_any is_cat_item) same ∙ any_first is_cat_item (ahead_of a) (parts_at a ++ later) (cat_ahead a)

    -- each message up to it has arrived
    all_arrived : (a b : ℕ) → a < n → b ≤ n → has_arrived (after_cat kept) b ≡ true
    all_arrived a b before upto = by_last (cases_lt b n)
      where
        by_last : (b < n) ⊎ (n ≤ b) → has_arrived (after_cat kept) b ≡ true
        by_last (inl earlier) =
            let (later, same) = cut_at b earlier in
            arrives plan clear u is (after_cat kept) (after_cat (ahead_of b)) later b
            (omega (arith, upto, place.within)) same
        by_last (inr last) =
            let here : n ≡ b = omega (arith, last, upto) in
            subst (λ (i : ℕ). has_arrived (after_cat kept) i ≡ true) here
            (arrives plan clear u is (after_cat kept) (after_cat (front_at n place)) rest n place.within
            (ap after_cat kept_is ∙ after_some (front_at n place) (parts_at n ++ rest) (cat_front a before)))

    -- and each packet before it is kept
    all_there : (j : ℕ) → j < end_of s n → 0 < n → is_kept (after_cat kept) j ≡ true
    all_there j before some =
        ap (λ (items : List Item). is_kept (after_cat items) j) kept_is
        ∙ (kept_after (front_at n place) (parts_at n ++ rest) (parts_at n ++ place.later) others j
        (sym place.same ∙ stand) (cat_front 0 some)
        ∙ any_first (is_carried j) (front_at n place) (parts_at n ++ rest)
        (any_first (is_carried j) (pre_at s (end_of s n)) place.middle
        (pre_any s (is_carried j) j (end_of s n) before
        (any_second (is_carried j) (tables_before plan j) (parts_before s j ++ carrying s j ∷ [])
        (any_second (is_carried j) (parts_before s j) (carrying s j ∷ []) (rw (itself j) refl))))))
      where
        itself : (i : ℕ) → (i == i) ≡ true
        itself i = grind (arith, nat_tests)

        others : List Item
        others = (sections_at s (period_of plan 0) ++ tail_at s 0) ++ rest_at s 1

        stand : things plan clear ≡ Cat ∷ others
        stand = due_rest s 0 is.plan.site (omega (arith, before)) first
          where
            first : (0 % crypto_length plan.site == 0) ≡ true
            first = let none : 0 % crypto_length plan.site ≡ 0 = omega arith in grind (arith, nat_tests, none)

    -- so each packet before it is confirmed where it is due
    pub before_due : (j : ℕ) → j < n * plan.site.every → j < length clear →
        is_confirmed_at plan u clear (after_cat kept) j ≡ is_due plan u j
    before_due j before within =
        between_arrived plan clear u is (after_cat kept) a j below low (omega (arith, high, within))
        (all_arrived a a earlier (omega (arith, earlier))) (all_arrived a (a + 1) earlier (omega (arith, earlier)))
        (knows plan clear u is (after_cat kept) (after_cat (ahead_of a)) cut.0 a
        (period_of plan (start_of s a)) (omega (arith, below)) cut.1
        (after_fails (is_of a) (ahead_of a)
        (fails_joined (is_of a) (pre_at s (start_of s a)) (tables_before plan (start_of s a))
        (none_ahead plan clear u is a a below (omega arith))
        (tables_before_fail s (is_of a) refl (no_section_part a) (start_of s a))))
        ∙ ahead_told a below)
        (λ veiled. traced_whole plan clear u is (after_cat kept) a (pid_of (packet_at clear j))
        (omega (arith, low, high, within))
        (λ i above under. all_there i (omega (arith, under, next)) (omega (arith, earlier))))
        ∙ ap (λ (b : Bool). b && is_due plan u j) (all_there j (omega (arith, before, within)) (omega (arith, earlier)))
      where
        a : ℕ
        a = j / plan.site.every

        below : a < final s
        below = number_within s j is.plan.site within

        low : start_of s a ≤ j
        low = div-mul-le_self j plan.site.every

        grown : (a + 1) * plan.site.every ≡ a * plan.site.every + plan.site.every
        grown = grind arith

        high : j < (a + 1) * plan.site.every
        high = omega (arith, grown, lt-div-mul-add {a = j} {b = plan.site.every} (omega (arith, is.plan.site.every.0)))

        earlier : a < n
        earlier = (div-lt_iff_lt-mul (omega (arith, is.plan.site.every.0))).1 before

        next : (a + 1) * plan.site.every ≤ n * plan.site.every
        next = mul-le-mul_right plan.site.every (omega (arith, earlier))

        cut : (later : List Item) × (after_cat kept ≡ after_cat (ahead_of a) ++ (parts_at a ++ later))
        cut = cut_at a earlier

  -- no message stands behind the closing one
  none_behind : (n : ℕ) → final s < n → list_any (is_of n) (things plan clear) ≡ false
  none_behind n past =
      ap (list_any (is_of n)) closing_stands
      ∙ fails_joined (is_of n) (pre_at s (length clear) ++ ends plan clear u is) (parts_at (final s))
      (fails_joined (is_of n) (pre_at s (length clear)) (ends plan clear u is)
      (pre_numbers s laws (length clear) n (omega arith) (omega (arith, past))) (none_ends n))
      (no_other_part (told_by s (final s)) n (parts_of (told_by s (final s))) [] (laws.parts (final s) (omega arith))
      (grind (arith, nat_tests, number_is s (final s), past)))

  -- all that is due is confirmed below a message that arrives before the place
  pub message_before : (x n : ℕ) (flags : List Bool) (j : ℕ) → AreKeptBefore plan clear x flags →
      has_arrived (take x (things plan clear)) n ≡ true → j < n * plan.site.every → j < length clear →
      is_confirmed_at plan u clear (after_cat (chosen flags (things plan clear))) j ≡ is_due plan u j
  message_before x n flags j are arrived before within = by_number (cases_lt (final s) n)
    where
      by_number : (final s < n) ⊎ (n ≤ final s) →
          is_confirmed_at plan u clear (after_cat (chosen flags (things plan clear))) j ≡ is_due plan u j
      by_number (inl past) =
          let none : has_arrived (take x (things plan clear)) n ≡ false =
          none_arrived (take x (things plan clear)) n (fails_both (is_of n) (take x (things plan clear)) (drop x
          (things plan clear))
          (ap (list_any (is_of n)) (take-append-drop x (things plan clear)) ∙ none_behind n past)).0 in
          absurd (both_ways (has_arrived (take x (things plan clear)) n) none arrived)
      by_number (inr upto) =
          let place = placed n upto in
          let (rest, same) = kept_to n x flags place are (arrived_within n x place arrived) in
          before_due n place (chosen flags (things plan clear)) rest same j before within

  -- a broadcast has as many clear packets as the stream
  count_things : count_by is_clear_item (things plan clear) ≡ length clear
  count_things = omega (
    arith,
    ap (count_by is_clear_item) closing_stands,
    counts_joined (pre_at s (length clear) ++ ends plan clear u is) (parts_at (final s)),
    counts_joined (pre_at s (length clear)) (ends plan clear u is),
    count_pre s (length clear) is.plan.site (omega arith),
    count_ends,
    no_part (parts_of (told_by s (final s))),
  )

  -- and up to a message those before it
  pub count_front : (n : ℕ) (place : IsPlaced n) → count_by is_clear_item (front_at n place ++ parts_at n) ≡ end_of s n
  count_front n place = omega (
    arith,
    counts_joined (front_at n place) (parts_at n),
    counts_joined (pre_at s (end_of s n)) place.middle,
    count_pre s (end_of s n) is.plan.site (omega arith),
    place.count,
    no_part (parts_of (told_by s n)),
  )

  -- so at most a stretch before it is lost
  pub packets_back : (x : ℕ) (flags : List Bool) (j : ℕ) → AreKeptBefore plan clear x flags →
      j + plan.site.every < packets_before plan clear x →
      is_confirmed_at plan u clear (after_cat (chosen flags (things plan clear))) j ≡ is_due plan u j
  packets_back x flags j are before =
      let (rest, same) = kept_to n x flags place are
      (place_past x (things plan clear) (front_at n place ++ parts_at n) place.later
      (place.same ∙ sym (append_assoc (front_at n place) (parts_at n) place.later))
      (omega (arith, count_front n place, grown, div-mul-le_self j plan.site.every, before))) in
      before_due n place (chosen flags (things plan clear)) rest same j
      (omega (arith, grown, lt-div-mul-add {a = j} {b = plan.site.every} (omega (arith, is.plan.site.every.0)))) within
    where
      within : j < length clear
      within = omega (arith, before, fewer_before x (things plan clear), count_things)

      n : ℕ
      n = j / plan.site.every + 1

      grown : n * plan.site.every ≡ j / plan.site.every * plan.site.every + plan.site.every
      grown = grind arith

      place : IsPlaced n
      place = placed n (omega (arith, number_within s j is.plan.site within))

  -- and what is written begins with all that is due
  pub before_written : (x : ℕ) (flags : List Bool) (high : ℕ) → AreKeptBefore plan clear x flags →
      high + plan.site.every ≤ packets_before plan clear x →
      out_from (site_card plan.site u) [] (chosen flags (broadcast plan clear))
      ≡ due_in plan u clear 0 high ++ confirmed_in plan u clear (chosen flags (things plan clear)) high (length clear)
  before_written x flags high are before =
      confirmed_alone plan clear u flags is.plan is.sendable is.whole is.leaf
      ∙ (confirmed_parts plan clear u high (chosen flags (things plan clear))
      (omega (arith, before, fewer_before x (things plan clear), count_things))
      ∙ ap (λ (packets : List (List ℕ)). packets ++ confirmed_in plan u clear (chosen flags (things plan clear)) high
      (length clear))
      (confirmed_due plan clear u 0 high (chosen flags (things plan clear))
      (λ j above below. packets_back x flags j are (omega (arith, before, below)))))
