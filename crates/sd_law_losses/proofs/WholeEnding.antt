-- A whole broadcast ends opened, or revoked in the first of its periods in which the leaf is.
use Rattle.std.proofs.Common.{subst}
use Rattle.std.proofs.Common.{◌≡◌, refl, ℕ, zero, suc, ◌+◌, ◌-◌, ◌*◌, ◌%◌, ◌<◌, ◌≤◌, ◌==◌, ◌^◌, ◌&&◌, Bool, true}
use Rattle.std.proofs.Common.{false, not, min}
use Rattle.std.proofs.Common.{List, [], ◌∷◌, ◌++◌, map, filter, length, Option, Some, None, if◌then◌else◌}
use Rattle.std.proofs.Common.{arith, sym, ap, ◌∙◌, inl, inr, ◌⊎◌}
use Rattle.std.specs.Prelude.{Contains}
use Rattle.std.specs.List.{list_any, range_with_len, find}
use Rattle.std.proofs.lemmas.List.{length-map}
use Rattle.std.proofs.lemmas.Option.{get_or_from_slice_get}
use Rattle.std.proofs.lemmas.Bool.{cases_Bool, cases_eq, cases_lt, both_ways, false_from_ne_true}
use Rattle.std.proofs.lemmas.Bool.Decides.{nat_tests}
use Rattle.std.proofs.lemmas.List.FromFn.{length-range_with_len}
use Rattle.sd_base.proofs.Lists.{any_there}
use Rattle.sd_base.proofs.Ranges.{none_found}
use Rattle.sd_site_cards.specs.CardFields.{card_of}
use Rattle.sd_message.specs.EmmForm.{sections_for}
use Rattle.sd_message.specs.Period.{emms_of, emm_at}
use Rattle.sd_message.specs.declared.emm.Emm.{Emm}
use Rattle.sd_message.proofs.EmmSharing.{as_many, stands_at, index_is}
use Rattle.sd_message.specs.EcmParts.{parts_of}
use Rattle.sd_spec.specs.Plan.{Plan, IsPlan, sets_at, crypto_length, period_of}
use Rattle.sd_spec.specs.Messages.{period_at}
use Rattle.sd_spec.specs.Refused.{IsSendable}
use Rattle.sd_spec.specs.Sent.{Item, Cat, Entitles, Controls, tables_at, tables_before, sent, closing_of}
use Rattle.sd_spec.specs.Sent.{is_cat_item}
use Rattle.sd_spec.proofs.Items.{all_are_of_broadcast}
use Rattle.sd_spec.proofs.Schedule.{period_begins, periods_rise}
use Rattle.sd_spec.proofs.Periods.{section_number}
use Rattle.sd_law_broadcast.specs.Packets.{AreWholePackets}
use Rattle.sd_law_broadcast.proofs.Fitting.{period_count}
use Rattle.sd_spec.specs.Ending.{ending_with}
use Rattle.sd_spec.specs.declared.ending.Ending.TheVariants.{NoCat, Unclosed}
use Rattle.sd_law_losses.specs.Kept.{after_cat, has_arrived, arrived, entitles, is_section_item}
use Rattle.sd_law_losses.specs.Confirmed.{packet_at, is_revoked_in, opened_by}
use Rattle.sd_law_losses.specs.Endings.{period_told, periods_arrived, is_untold, has_all, closed_told, next_number}
use Rattle.sd_law_losses.specs.Endings.{ending_told, first_revoked, is_on_air, whole_ending}
use Rattle.sd_law_losses.specs.Taken.{how_many}
use Rattle.sd_law_losses.proofs.Taking.{how_many_below}
use Rattle.sd_law_broadcast.proofs.Reached.{period_reached}
use Rattle.sd_law_losses.proofs.Tests.{all_range}
use Rattle.sd_law_losses.proofs.Setting.{Setting, AreLaws, final, told_by}
use Rattle.sd_law_losses.proofs.Untuned.{sections_at, tail_at, due_rest}
use Rattle.sd_law_losses.proofs.Remaining.{group_at, rest_at, rest_more, rest_none, closing_items}
use Rattle.sd_law_losses.proofs.Entitled.{any_of_map, period_above, none_before, entitled_ones}
use Rattle.sd_law_losses.proofs.Standing.{pre_at, sent_split, any_first, any_second, all_arrived}
use Rattle.sd_law_losses.proofs.AllOpened.{begin_is_due, sections_entitle, all_are_opened}
use Rattle.sd_law_losses.proofs.Finished.{periods_found}
use Rattle.sd_law_losses.proofs.Lawful.{setting, laws_hold}

-- tests that agree on a range of periods find the same there
find_range : (f g : ℕ → Bool) (h : ℕ → ℕ) (s n : ℕ) → ((a : ℕ) → s ≤ a → a < s + n → f (h a) ≡ g (h a)) →
    find f (map h (range_with_len s n)) ≡ find g (map h (range_with_len s n))
find_range f g h s zero same = refl
find_range f g h s (suc n) same =
    rw (same s (omega arith) (omega arith)) (ap (λ (o : Option ℕ). if g (h s) then Some (h s) else o)
    (find_range f g h (s + 1) n (λ a low high. same a (omega (arith, low)) (omega (arith, high)))))

-- all of a range pass
filter_all : (f : ℕ → Bool) (s n : ℕ) → ((a : ℕ) → s ≤ a → a < s + n → f a ≡ true) → filter f
    (range_with_len s n) ≡ range_with_len s n
filter_all f s zero all = refl
filter_all f s (suc n) all =
    rw (all s (omega arith) (omega arith)) (ap (λ (xs : List ℕ). s ∷ xs)
    (filter_all f (s + 1) n (λ a low high. all a (omega (arith, low)) (omega (arith, high)))))

-- a period's own sections have all its indexes
section_there : (plan : Plan) (q x : ℕ) → x < sections_for (length (sets_at plan q)) →
    list_any (is_section_item q x) (map Entitles (emms_of (period_at plan q))) ≡ true
section_there plan q x within =
    any_of_map (is_section_item q x) Entitles emms ∙ any_there (λ e. is_section_item q x (Entitles e)) emms emm there
    (rw number (rw index refl))
  where
    emms : List Emm
    emms = emms_of (period_at plan q)

    emm : Emm
    emm = emm_at (period_at plan q) x

    inside : x < sections_for (length (period_at plan q).entries)
    inside = omega (arith, within, ap sections_for (period_count plan q))

    there : Contains emms emm
    there = (
      x,
      omega (arith, as_many (period_at plan q), inside),
      get_or_from_slice_get emms x emm emm (stands_at (period_at plan q) x inside),
    )

    number : (emm.period == q) ≡ true
    number = grind (arith, nat_tests, section_number plan q emm there)

    index : (emm.index == x) ≡ true
    index = grind (arith, nat_tests, index_is (period_at plan q) x emm (stands_at (period_at plan q) x inside))

module _ (plan : Plan) (clear : List (List ℕ)) (u : ℕ) (is : IsPlan plan) (all : IsSendable plan.site clear)
    (whole : AreWholePackets clear) (leaf : u < 2 ^ plan.site.height) where
  abbrev s : Setting
  s = setting plan clear u

  laws : AreLaws s
  laws = laws_hold plan clear u is all whole leaf

  -- what is sent begins with the CAT
  begins : (kept : List Item) × (rest_at s 0 ≡ Cat ∷ kept)
  unfolding tables_at
  begins = by_length (cases_eq (length clear) 0)
    where
      first : (0 % crypto_length plan.site == 0) ≡ true
      first = let none : 0 % crypto_length plan.site ≡ 0 = omega arith in grind (arith, nat_tests, none)

      by_length : (length clear ≡ 0) ⊎ (length clear ≡ 0 → ⊥) → (kept : List Item) × (rest_at s 0 ≡ Cat ∷ kept)
      by_length (inl none) =
          let empty : (length clear == 0) ≡ true = grind (arith, nat_tests, none) in (
            sections_at s (period_of plan 0) ++ map Controls (parts_of (told_by s (final s))),
            ap (rest_at s) (sym none) ∙ (rest_none s ∙ (closing_items s
                ∙ ap (λ (b : Bool). (if b then tables_at plan 0 else []) ++ map Controls (parts_of (told_by s
                (final s)))) empty)),
          )
      by_length (inr some) = (
        (sections_at s (period_of plan 0) ++ tail_at s 0) ++ rest_at s 1,
        due_rest s 0 is.site (omega (arith, some)) first,
      )

  -- the sections of each period that is reached stand in it
  stand : (p : Item → Bool) (k : ℕ) → k ≤ length clear - 1 → list_any p (sections_at s (period_of plan k)) ≡ true →
      list_any p (rest_at s 0) ≡ true
  unfolding tables_at
  stand p k within there = by_length (cases_eq (length clear) 0)
    where
      from : ℕ
      from = k - k % crypto_length plan.site

      first : (from % crypto_length plan.site == 0) ≡ true
      first = begin_is_due plan k

      tables : (j : ℕ) → period_of plan j ≡ period_of plan k → list_any p (tables_at plan j) ≡ true
      tables j same = any_second p (Cat ∷ []) (sections_at s (period_of plan j))
          (ap (λ (q : ℕ). list_any p (sections_at s q)) same ∙ there)

      before : list_any p (tables_before plan from) ≡ true
      before = ap (λ (b : Bool). list_any p (if b then tables_at plan from else [])) first
          ∙ tables from (period_begins plan k is.site)

      by_length : (length clear ≡ 0) ⊎ (length clear ≡ 0 → ⊥) → list_any p (rest_at s 0) ≡ true
      by_length (inl none) =
          let empty : (length clear == 0) ≡ true = grind (arith, nat_tests, none) in
          let here : 0 ≡ k = omega (arith, none, within) in
          ap (list_any p) (ap (rest_at s) (sym none) ∙ (rest_none s ∙ (closing_items s
          ∙ ap (λ (b : Bool). (if b then tables_at plan 0 else []) ++ map Controls (parts_of (told_by s
          (final s)))) empty)))
          ∙ any_first p (tables_at plan 0) (map Controls (parts_of (told_by s (final s)))) (tables 0 (ap
          (period_of plan) here))
      by_length (inr some) =
          let inside : from < length clear = omega (arith, within, some) in
          ap (list_any p) (sent_split s from is.site (omega (arith, inside))
          ∙ ap (λ (xs : List Item). pre_at s from ++ xs) (rest_more s from is.site inside))
          ∙ any_second p (pre_at s from) (group_at s from ++ rest_at s (from + 1))
          (any_first p (group_at s from) (rest_at s (from + 1)) (any_first p (tables_before plan from)
          (tail_at s from) before))

  -- what is told of such a period
  told_whole : (k : ℕ) → k ≤ length clear - 1 → list_any (entitles plan.site.height u (period_of plan k)) (rest_at s 0)
      ≡ not (is_revoked_in plan u (period_of plan k))
  told_whole k within = by_revoked (cases_Bool (is_revoked_in plan u (period_of plan k)))
    where
      p : Item → Bool
      p = entitles plan.site.height u (period_of plan k)

      by_revoked : (is_revoked_in plan u (period_of plan k) ≡ true) ⊎ (is_revoked_in plan u
          (period_of plan k) ≡ false) →
          list_any p (rest_at s 0) ≡ not (is_revoked_in plan u (period_of plan k))
      by_revoked (inl revoked) = false_from_ne_true (list_any p (rest_at s 0))
          (λ told. both_ways (is_revoked_in plan u (period_of plan k))
          (entitled_ones plan clear (period_of plan k) u (rest_at s 0) is leaf
          (all_are_of_broadcast plan clear) told) revoked) ∙ ap not (sym revoked)
      by_revoked (inr free) =
          stand p k within (sections_entitle plan (period_of plan k) u is leaf ∙ ap not free) ∙ ap not (sym free)

  module _ (kept : List Item) (stands : rest_at s 0 ≡ Cat ∷ kept) where
    untold_is : (k : ℕ) → k ≤ length clear - 1 → is_untold plan u kept (period_of plan k) ≡ is_revoked_in plan u
        (period_of plan k)
    untold_is k within =
        ap not (ap (list_any (entitles plan.site.height u (period_of plan k))) (sym stands) ∙ told_whole k within)
        ∙ twice (is_revoked_in plan u (period_of plan k))
      where
        twice : (b : Bool) → not (not b) ≡ b
        twice true = refl
        twice false = refl

    all_is : (k : ℕ) → k ≤ length clear - 1 → has_all plan kept (period_of plan k) ≡ true
    unfolding has_all
    all_is k within = all_range (λ x. list_any (is_section_item (period_of plan k) x) kept) 0 (sections_for (length
        (sets_at plan (period_of plan k))))
        (λ x low high. ap (list_any (is_section_item (period_of plan k) x)) (sym stands)
        ∙ stand (is_section_item (period_of plan k) x) k within (section_there plan (period_of plan k) x (omega
        (arith, high))))

    arrived_is : (a : ℕ) → a ≤ final s → has_arrived kept a ≡ true
    unfolding has_arrived
    arrived_is a within = ap (λ (items : List Item). has_arrived items a) (sym stands) ∙ all_arrived s laws a within

    periods : List ℕ
    periods = map (period_told plan clear) (range_with_len 0 (final s + 1))

    periods_all : periods_arrived plan clear kept ≡ periods
    unfolding periods_arrived arrived periods
    periods_all = ap (map (period_told plan clear)) (filter_all (has_arrived kept) 0 (final s + 1)
        (λ a low high. arrived_is a (omega (arith, high))))

    revoked_found : (test : ℕ → Bool) → ((k : ℕ) → k ≤ length clear - 1 → test
        (period_of plan k) ≡ is_revoked_in plan u (period_of plan k)) →
        find test (periods_arrived plan clear kept) ≡ first_revoked plan u clear
    unfolding periods first_revoked
    revoked_found test same = ap (find test) periods_all
        ∙ (find_range test (is_revoked_in plan u) (period_told plan clear) 0 (final s + 1)
        (λ a low high. same (min (a * plan.site.every) (length clear - 1)) (omega arith))
        ∙ periods_found plan clear (is_revoked_in plan u) is.site)

    -- where the leaf is revoked in no period, no packet is missing
    all_opened : first_revoked plan u clear ≡ None → length (opened_by plan u clear) ≡ length clear
    unfolding first_revoked opened_by
    all_opened none =
        length-map (filter (λ j. not (is_revoked_in plan u (period_of plan j))) (range_with_len 0 (length clear)))
        (λ j. packet_at clear j)
        ∙ (ap length (filter_all (λ j. not (is_revoked_in plan u (period_of plan j))) 0 (length clear)
        (λ j low high. ap not (none_found (is_revoked_in plan u) plan.site.first_period
        (period_of plan (length clear - 1) + 1 - plan.site.first_period) (period_of plan j) none (period_above plan j)
        (omega (arith, period_above plan j, periods_rise plan j (length clear - 1) is.site (omega (arith, high)))))))
        ∙ length-range_with_len 0 (length clear))

    closed_whole : closed_told plan u clear kept (length (opened_by plan u clear)) ≡ whole_ending
        (first_revoked plan u clear)
    unfolding closed_told
    closed_whole =
        ap (λ (o : Option ℕ). ending_with o (find (is_untold plan u kept) (periods_arrived plan clear kept))
        (length clear - length (opened_by plan u clear)))
        (revoked_found (λ q. is_untold plan u kept q && has_all plan kept q)
        (λ k within. ap (λ (b : Bool). is_untold plan u kept (period_of plan k) && b) (all_is k within)
        ∙ (and_all (is_untold plan u kept (period_of plan k)) ∙ untold_is k within)))
        ∙ (ap (λ (o : Option ℕ). ending_with (first_revoked plan u clear) o (length clear - length
        (opened_by plan u clear)))
        (revoked_found (is_untold plan u kept) untold_is)
        ∙ by_found (first_revoked plan u clear) refl)
      where
        and_all : (b : Bool) → (b && true) ≡ b
        and_all true = refl
        and_all false = refl

        by_found : (o : Option ℕ) → first_revoked plan u clear ≡ o →
            ending_with o o (length clear - length (opened_by plan u clear)) ≡ whole_ending o
        by_found (Some q) found = refl
        by_found None none =
            let missing : length clear - length (opened_by plan u clear) ≡ 0 = omega (arith, all_opened none) in
            rw missing refl

  -- so a whole broadcast ends
  pub whole_ends : ending_told plan u clear (sent plan clear ++ closing_of plan clear) ≡ whole_ending
      (first_revoked plan u clear)
  unfolding ending_told after_cat card_of
  whole_ends =
      ap (λ (written : ℕ). if list_any is_cat_item (rest_at s 0)
      then (if has_arrived (after_cat (rest_at s 0)) (final s) then closed_told plan u clear (after_cat
      (rest_at s 0)) written
      else Unclosed (next_number plan clear (after_cat (rest_at s 0)))) else NoCat)
      (ap length (all_are_opened plan clear u is all whole leaf))
      ∙ (ap (λ (items : List Item). if list_any is_cat_item items
      then (if has_arrived (after_cat items) (final s) then closed_told plan u clear (after_cat items) (length
      (opened_by plan u clear))
      else Unclosed (next_number plan clear (after_cat items))) else NoCat) begins.1
      ∙ (ap (λ (b : Bool). if b then closed_told plan u clear begins.0 (length (opened_by plan u clear))
      else Unclosed (next_number plan clear begins.0)) (arrived_is begins.0 begins.1 (final s) (omega arith))
      ∙ closed_whole begins.0 begins.1))

  -- and so many keys are told of
  pub keys_whole : how_many (λ q. list_any (entitles plan.site.height u q) (after_cat
      (sent plan clear ++ closing_of plan clear)))
      (period_of plan (length clear - 1) + 1)
      ≡ how_many (λ q. is_on_air plan q && not (is_revoked_in plan u q)) (period_of plan (length clear - 1) + 1)
  unfolding after_cat
  keys_whole = how_many_below
      (λ q. list_any (entitles plan.site.height u q) (after_cat (sent plan clear ++ closing_of plan clear)))
      (λ q. is_on_air plan q && not (is_revoked_in plan u q)) (period_of plan (length clear - 1) + 1) each
    where
      -- in a period from the first on
      on_air : (q : ℕ) → plan.site.first_period ≤ q → q < period_of plan (length clear - 1) + 1 →
          list_any (entitles plan.site.height u q) (after_cat (rest_at s 0)) ≡ not (is_revoked_in plan u q)
      on_air q from below =
          let reached = period_reached plan (length clear - 1) q is.site from (omega (arith, below)) in
          ap (λ (items : List Item). list_any (entitles plan.site.height u q) (after_cat items)) begins.1
          ∙ (ap (list_any (entitles plan.site.height u q)) (sym begins.1)
          ∙ subst (λ (p : ℕ). list_any (entitles plan.site.height u p) (rest_at s 0) ≡ not
          (is_revoked_in plan u p)) reached.2
          (told_whole reached.0 reached.1))

      -- and in one before it
      off_air : (q : ℕ) → q < plan.site.first_period →
          list_any (entitles plan.site.height u q) (after_cat (rest_at s 0)) ≡ false
      off_air q low =
          ap (λ (items : List Item). list_any (entitles plan.site.height u q) (after_cat items)) begins.1
          ∙ (ap (list_any (entitles plan.site.height u q)) (sym begins.1)
          ∙ none_before plan clear q u (rest_at s 0) low (all_are_of_broadcast plan clear))

      each : (q : ℕ) → q < period_of plan (length clear - 1) + 1 →
          list_any (entitles plan.site.height u q) (after_cat (rest_at s 0))
          ≡ (is_on_air plan q && not (is_revoked_in plan u q))
      each q below = elim (cases_lt q plan.site.first_period) [
        | inl low ↦
            let none : is_on_air plan q ≡ false = grind (arith, nat_tests, low) in
            rw none (off_air q low)
        | inr from ↦
            let some : is_on_air plan q ≡ true = grind (arith, nat_tests, from) in
            rw some (on_air q from below)
      ]
