-- From a message on from which nothing is lost, all that is due is confirmed.
use Rattle.std.proofs.Common.{◌≡◌, refl, ℕ, ◌+◌, ◌-◌, ◌*◌, ◌/◌, ◌%◌, ◌<◌, ◌≤◌, ◌==◌, ◌&&◌, Bool, true, false, not}
use Rattle.std.proofs.Common.{List, [], ◌∷◌, ◌++◌, map, length, take, drop, arith, sym, ap, ◌∙◌, inl, inr, ◌⊎◌}
use Rattle.std.proofs.Common.{append_assoc}
use Rattle.std.proofs.Common.{append-nil, subst}
use Rattle.std.specs.Prelude.{if◌then◌else◌, All}
use Rattle.std.specs.List.{list_any}
use Rattle.std.proofs.lemmas.Bool.{cases_eq, cases_lt, both_ways, false_from_ne_true}
use Rattle.std.proofs.lemmas.Bool.Decides.{nat_tests}
use Rattle.std.proofs.lemmas.List.{append_cancel_left, append_cancel_right, take-append-drop}
use Rattle.std.proofs.lemmas.List.Elements.{All-append}
use Rattle.std.proofs.Math.Nat.{mul-mod_left, mul-div_cancel, div-lt_iff_lt-mul, le-div_iff_mul-le, mul-le-mul_right}
use Rattle.sd_packet.specs.Header.{pid_of}
use Rattle.sd_message.specs.Period.{emms_of}
use Rattle.sd_message.specs.EcmParts.{parts_of}
use Rattle.sd_spec.specs.Plan.{Plan, crypto_length, period_of, closing_number}
use Rattle.sd_spec.specs.Messages.{period_at}
use Rattle.sd_spec.specs.Sent.{Item, Cat, Entitles, Controls, sent, sent_from, closing_of}
use Rattle.sd_spec.specs.Sent.{tables_at, tables_before, is_cat_item}
use Rattle.sd_spec.proofs.Sending.{sent_in_turn}
use Rattle.sd_spec.specs.Items.{IsOfBroadcast}
use Rattle.sd_spec.proofs.Items.{all_are_of_broadcast}
use Rattle.sd_spec.proofs.Schedule.{period_begins, periods_rise, closing_needed}
use Rattle.sd_law_losses.specs.Kept.{is_kept, is_carried, has_arrived, entitles, is_entitled_before, after_cat}
use Rattle.sd_law_losses.specs.Confirmed.{packet_at, is_confirmed_at, is_revoked_in}
use Rattle.sd_law_losses.proofs.Arriving.{is_of}
use Rattle.sd_law_losses.proofs.Setting.{Setting, AreLaws, final, told_by}
use Rattle.sd_law_losses.proofs.Pairs.{start_of, end_of}
use Rattle.sd_law_losses.proofs.Carrying.{carrying}
use Rattle.sd_law_losses.proofs.Remaining.{parts_before, group_at, rest_at, rest_more, rest_none, closing_items}
use Rattle.sd_law_losses.proofs.Remaining.{number_within, due_number}
use Rattle.sd_law_losses.proofs.Later.{tables_before_fail, no_section_part}
use Rattle.sd_law_losses.proofs.Entitled.{entitled_ones}
use Rattle.sd_law_losses.proofs.Opened.{after_all}
use Rattle.sd_law_losses.proofs.AllOpened.{sections_entitle, begin_is_due}
use Rattle.sd_law_losses.proofs.Standing.{pre_at, sent_split, any_first, any_second, pre_numbers, message_stands}
use Rattle.sd_law_losses.proofs.Lists.{split_all}
use Rattle.sd_law_losses.proofs.Lawful.{setting}
use Rattle.sd_law_progress.specs.Progress.{is_due}
use Rattle.sd_law_progress.proofs.Given.{IsSentTo, laws_of}
use Rattle.sd_law_progress.proofs.Splits.{mid_at, rest_later, mid_any, fails_both, fails_joined, any_after, after_some}
use Rattle.sd_law_progress.proofs.Splits.{after_fails}
use Rattle.sd_law_progress.proofs.Between.{arrives, knows, traced_whole, between_arrived}

-- a test of what a leaf is due
pub untold : (b c : Bool) → (b ≡ true → c ≡ true) → (c ≡ true → b ≡ true) → c ≡ b
untold true c told known = told refl
untold false c told known = false_from_ne_true c (λ is. absurd (both_ways false refl (known is)))

module _ (plan : Plan) (clear : List (List ℕ)) (u : ℕ) (is : IsSentTo plan clear u) where
  abbrev s : Setting
  s = setting plan clear u

  laws : AreLaws s
  laws = laws_of plan clear u is

  -- what stands behind message n's parts, and what stands from them on
  abbrev pub behind : ℕ → List Item
  behind n = (carrying s (start_of s n) ∷ []) ++ rest_at s (start_of s n + 1)

  abbrev pub from_message : ℕ → List Item
  from_message n = map Controls (parts_of (told_by s n)) ++ behind n

  -- what stands before them
  abbrev pub ahead : ℕ → List Item
  ahead n = pre_at s (start_of s n) ++ tables_before plan (start_of s n)

  -- from message n's parts on, d packets after its first
  abbrev pub stretch_from : ℕ → ℕ → List Item
  stretch_from n d = map Controls (parts_of (told_by s n)) ++ ((carrying s (start_of s n) ∷ []) ++ mid_at s
      (start_of s n + 1) d)

  pub from_parts : (n d : ℕ) → start_of s n + 1 + d ≤ length clear →
      from_message n ≡ stretch_from n d ++ rest_at s (start_of s n + 1 + d)
  from_parts n d within =
      ap (λ (xs : List Item). map Controls (parts_of (told_by s n)) ++ ((carrying s (start_of s n) ∷ []) ++ xs))
      (rest_later s (start_of s n + 1) d is.plan.site within)
      ∙ sym (append_assoc (map Controls (parts_of (told_by s n)))
      ((carrying s (start_of s n) ∷ []) ++ mid_at s (start_of s n + 1) d) (rest_at s (start_of s n + 1 + d)))

  -- before a later packet stands what is before the message, and these
  pub pre_is : (n d : ℕ) → n < final s → start_of s n + 1 + d ≤ length clear →
      ahead n ++ stretch_from n d ≡ pre_at s (start_of s n + 1 + d)
  pre_is n d below within =
      append_cancel_right (ahead n ++ stretch_from n d) (pre_at s (start_of s n + 1 + d))
      (rest_at s (start_of s n + 1 + d))
      (append_assoc (ahead n) (stretch_from n d) (rest_at s (start_of s n + 1 + d))
      ∙ (ap (λ (xs : List Item). ahead n ++ xs) (sym (from_parts n d within))
      ∙ (sym (message_stands s n is.plan.site below)
      ∙ sent_split s (start_of s n + 1 + d) is.plan.site within)))

  -- the tables stand before the message
  pub rest_is : (n : ℕ) → n < final s → rest_at s (start_of s n) ≡ tables_before plan (start_of s n) ++ from_message n
  rest_is n below =
      append_cancel_left (pre_at s (start_of s n)) (rest_at s (start_of s n))
      (tables_before plan (start_of s n) ++ from_message n)
      (sym (sent_split s (start_of s n) is.plan.site (omega (
        arith,
        closing_needed plan.site (length clear) n is.plan.site
            below,
      )))
      ∙ (message_stands s n is.plan.site below
      ∙ append_assoc (pre_at s (start_of s n)) (tables_before plan (start_of s n)) (from_message n)))

  -- and before the closing one nothing but the tables where there is no packet
  abbrev pub ends : List Item
  ends = if length clear == 0 then tables_at plan 0 else []

  -- of what is kept all stands from message n's parts on, and before them what these things say
  pub record IsBack (n : ℕ) (front kept : List Item) : Type 0 where
    pub within : n < final s
    pub same : kept ≡ front ++ from_message n
    pub of : All (IsOfBroadcast plan clear) front
    pub none : (b : ℕ) → n ≤ b → list_any (is_of b) front ≡ false
    pub told : is_due plan u (start_of s n) ≡ true →
        list_any (entitles plan.site.height u (period_of plan (start_of s n))) front ≡ true

  -- the first packet of a later message
  abbrev pub gap : ℕ → ℕ → ℕ
  gap n m = start_of s m - (start_of s n + 1)

  start_later : (n m : ℕ) → n < m → start_of s n + 1 + gap n m ≡ start_of s m
  start_later n m later =
      let order : (n + 1) * plan.site.every ≤ m * plan.site.every = mul-le-mul_right plan.site.every (omega
      (arith, later)) in
      let grown : (n + 1) * plan.site.every ≡ n * plan.site.every + plan.site.every = grind arith in
      omega (arith, order, grown, is.plan.site.every.0)

  -- what stands between the parts of the two messages
  abbrev between : ℕ → ℕ → List Item
  between n m = stretch_from n (gap n m) ++ tables_before plan (start_of s m)

  from_later : (n m : ℕ) → n < m → m < final s → from_message n ≡ between n m ++ from_message m
  from_later n m later below =
      let at : start_of s n + 1 + gap n m ≡ start_of s m = start_later n m later in
      from_parts n (gap n m) (omega (arith, at, closing_needed plan.site (length clear) m is.plan.site below))
      ∙ (ap (λ (k : ℕ). stretch_from n (gap n m) ++ rest_at s k) at
      ∙ (ap (λ (xs : List Item). stretch_from n (gap n m) ++ xs) (rest_is m below)
      ∙ sym (append_assoc (stretch_from n (gap n m)) (tables_before plan (start_of s m)) (from_message m))))

  pub number_at : (m : ℕ) → closing_number plan.site (start_of s m) ≡ m
  number_at m =
      (due_number plan.site (start_of s m) is.plan.site due).0
      ∙ mul-div_cancel m (omega (arith, is.plan.site.every.0))
    where
      due : (start_of s m % plan.site.every == 0) ≡ true
      due = grind (arith, nat_tests, mul-mod_left m plan.site.every)

  -- no part of a later message stands between
  none_between : (n m b : ℕ) → n < m → m < final s → m ≤ b → list_any (is_of b) (between n m) ≡ false
  none_between n m b later below above =
      let at : start_of s n + 1 + gap n m ≡ start_of s m = start_later n m later in
      let inside = closing_needed plan.site (length clear) m is.plan.site below in
      fails_joined (is_of b) (stretch_from n (gap n m)) (tables_before plan (start_of s m))
      (fails_both (is_of b) (ahead n) (stretch_from n (gap n m))
      (ap (list_any (is_of b)) (pre_is n (gap n m) (omega (arith, later, below)) (omega (arith, at, inside))
      ∙ ap (pre_at s) at)
      ∙ pre_numbers s laws (start_of s m) b (omega (arith, inside)) (omega (arith, above, number_at m)))).1
      (tables_before_fail s (is_of b) refl (no_section_part b) (start_of s m))

  of_between : (n m : ℕ) → n < m → m < final s → All (IsOfBroadcast plan clear) (between n m)
  of_between n m later below =
      (split_all (IsOfBroadcast plan clear) (between n m) (from_message m)
      (subst (All (IsOfBroadcast plan clear)) (from_later n m later below)
      (split_all (IsOfBroadcast plan clear) (ahead n) (from_message n)
      (subst (All (IsOfBroadcast plan clear)) (message_stands s n is.plan.site (omega (arith, later, below)))
      (all_are_of_broadcast plan clear))).1)).0

  -- the tables before the first packet of a crypto period entitle to its period
  tables_entitle : (k : ℕ) →
      list_any (entitles plan.site.height u (period_of plan k)) (tables_before plan (k - k % crypto_length plan.site))
      ≡ is_due plan u k
  unfolding tables_at
  tables_entitle k =
      ap (λ (b : Bool). list_any (entitles plan.site.height u (period_of plan k))
      (if b then tables_at plan (k - k % crypto_length plan.site) else [])) (begin_is_due plan k)
      ∙ (ap (λ (q : ℕ). list_any (entitles plan.site.height u (period_of plan k)) (map Entitles (emms_of
      (period_at plan q))))
      (period_begins plan k is.plan.site)
      ∙ sections_entitle plan (period_of plan k) u is.plan is.leaf)

  -- so where the key is had at message n it is had at a later one
  told_later : (n m : ℕ) (front : List Item) → n < m → m < final s →
      (is_due plan u (start_of s n) ≡ true →
      list_any (entitles plan.site.height u (period_of plan (start_of s n))) front ≡ true) →
      is_due plan u (start_of s m) ≡ true →
      list_any (entitles plan.site.height u (period_of plan (start_of s m))) (front ++ between n m) ≡ true
  told_later n m front later below told due = by_begin (cases_lt (start_of s n) begins) (cases_eq begins (start_of s m))
    where
      p : Item → Bool
      p = entitles plan.site.height u (period_of plan (start_of s m))

      begins : ℕ
      begins = start_of s m - start_of s m % crypto_length plan.site

      at : start_of s n + 1 + gap n m ≡ start_of s m
      at = start_later n m later

      tables : list_any p (tables_before plan begins) ≡ true
      tables = tables_entitle (start_of s m) ∙ due

      by_begin : (start_of s n < begins) ⊎ (begins ≤ start_of s n) → (begins ≡ start_of s m) ⊎
          (begins ≡ start_of s m → ⊥) → list_any p (front ++ between n m) ≡ true
      by_begin (inl above) (inl here) = any_second p front (between n m)
          (any_second p (stretch_from n (gap n m)) (tables_before plan (start_of s m))
          (ap (λ (k : ℕ). list_any p (tables_before plan k)) (sym here) ∙ tables))
      by_begin (inl above) (inr other) = any_second p front (between n m)
          (any_first p (stretch_from n (gap n m)) (tables_before plan (start_of s m))
          (any_second p (map Controls (parts_of (told_by s n))) ((carrying s (start_of s n) ∷ []) ++ mid_at s
          (start_of s n + 1) (gap n m))
          (any_second p (carrying s (start_of s n) ∷ []) (mid_at s (start_of s n + 1) (gap n m))
          (mid_any s p (start_of s n + 1) (gap n m) begins (omega (arith, above)) (omega (arith, at, other))
          (any_first p (tables_before plan begins) (parts_before s begins ++ carrying s begins ∷ []) tables)))))
      by_begin (inr before) which = any_first p front (between n m)
          (ap (λ (q : ℕ). list_any (entitles plan.site.height u q) front) period
          ∙ told (ap (λ (q : ℕ). not (is_revoked_in plan u q)) (sym period) ∙ due))
        where
          period : period_of plan (start_of s m) ≡ period_of plan (start_of s n)
          period =
              let first = period_begins plan (start_of s m) is.plan.site in
              let up = periods_rise plan begins (start_of s n) is.plan.site before in
              let down = periods_rise plan (start_of s n) (start_of s m) is.plan.site (omega (arith, at)) in
              omega (arith, first, up, down)

  -- one message on
  back_later : (n m : ℕ) (front kept : List Item) → n < m → m < final s → IsBack n front kept →
      IsBack m (front ++ between n m) kept
  back_later n m front kept later below back = record {
    within = below;
    same = back.same ∙ (ap (λ (xs : List Item). front ++ xs) (from_later n m later below)
        ∙ sym (append_assoc front (between n m) (from_message m)));
    of = All-append (IsOfBroadcast plan clear) front (between n m) back.of (of_between n m later below);
    none = λ b above. fails_joined (is_of b) front (between n m) (back.none b (omega (arith, later, above)))
        (none_between n m b later below above);
    told = λ due. told_later n m front later below back.told due;
  }

  -- and so at each later message
  pub back_at : (n m : ℕ) (front kept : List Item) → n ≤ m → m < final s → IsBack n front kept →
      (ahead : List Item) × IsBack m ahead kept
  back_at n m front kept from below back = by_number (cases_lt n m)
    where
      by_number : (n < m) ⊎ (m ≤ n) → (ahead : List Item) × IsBack m ahead kept
      by_number (inl later) = (front ++ between n m, back_later n m front kept later below back)
      by_number (inr here) =
          let same : n ≡ m = omega (arith, from, here) in
          (front, subst (λ (a : ℕ). IsBack a front kept) same back)

  -- the message has arrived
  pub back_arrived : (n : ℕ) (front kept : List Item) → IsBack n front kept → has_arrived kept n ≡ true
  back_arrived n front kept back =
      arrives plan clear u is kept front (behind n) n (omega (arith, back.within)) back.same

  -- and so has the next one
  pub next_arrived : (n : ℕ) (front kept : List Item) → IsBack n front kept → has_arrived kept (n + 1) ≡ true
  next_arrived n front kept back = by_last (cases_lt (n + 1) (final s))
    where
      by_last : (n + 1 < final s) ⊎ (final s ≤ n + 1) → has_arrived kept (n + 1) ≡ true
      by_last (inl below) =
          back_arrived (n + 1) (front ++ between n (n + 1)) kept
          (back_later n (n + 1) front kept (omega arith) below back)
      by_last (inr last) =
          arrives plan clear u is kept (front ++ (stretch_from n d ++ ends)) [] (n + 1)
          (omega (arith, back.within))
          (back.same ∙ (ap (λ (xs : List Item). front ++ xs) closing
          ∙ sym (append_assoc front (stretch_from n d ++ ends)
          (map Controls (parts_of (told_by s (n + 1))) ++ []))))
        where
          inside : start_of s n < length clear
          inside = closing_needed plan.site (length clear) n is.plan.site back.within

          d : ℕ
          d = length clear - (start_of s n + 1)

          at : start_of s n + 1 + d ≡ length clear
          at = omega (arith, inside)

          number : final s ≡ n + 1
          number = omega (arith, last, back.within)

          closing : from_message n ≡ (stretch_from n d ++ ends) ++ (map Controls (parts_of (told_by s (n + 1))) ++ [])
          closing =
              from_parts n d (omega (arith, at))
              ∙ (ap (λ (k : ℕ). stretch_from n d ++ rest_at s k) at
              ∙ (ap (λ (xs : List Item). stretch_from n d ++ xs) (rest_none s ∙ closing_items s)
              ∙ (ap (λ (a : ℕ). stretch_from n d ++ (ends ++ map Controls (parts_of (told_by s a)))) number
              ∙ (ap (λ (xs : List Item). stretch_from n d ++ (ends ++ xs))
              (sym (append-nil (map Controls (parts_of (told_by s (n + 1))))))
              ∙ sym (append_assoc (stretch_from n d) ends (map Controls (parts_of (told_by s (n + 1))) ++ []))))))

  -- the key is had exactly where it is due
  pub back_told : (n : ℕ) (front kept : List Item) → IsBack n front kept →
      is_entitled_before plan.site.height u (period_of plan (start_of s n)) n kept ≡ is_due plan u (start_of s n)
  back_told n front kept back =
      knows plan clear u is kept front (behind n) n (period_of plan (start_of s n))
      (omega (arith, back.within)) back.same (back.none n (omega arith))
      ∙ untold (is_due plan u (start_of s n))
      (list_any (entitles plan.site.height u (period_of plan (start_of s n))) front) back.told
      (λ there. ap not (entitled_ones plan clear (period_of plan (start_of s n)) u front is.plan is.leaf back.of there))

  -- each packet from the message on is kept
  back_kept : (n j : ℕ) (front kept : List Item) → IsBack n front kept → start_of s n ≤ j → j < length clear →
      is_kept kept j ≡ true
  back_kept n j front kept back from below =
      ap (list_any (is_carried j)) back.same
      ∙ any_second (is_carried j) front (from_message n)
      (any_second (is_carried j) (map Controls (parts_of (told_by s n))) (behind n)
      (by_first (cases_eq (start_of s n) j)))
    where
      itself : (i : ℕ) → (i == i) ≡ true
      itself i = grind (arith, nat_tests)

      by_first : (start_of s n ≡ j) ⊎ (start_of s n ≡ j → ⊥) → list_any (is_carried j) (behind n) ≡ true
      by_first (inl here) = any_first (is_carried j) (carrying s (start_of s n) ∷ []) (rest_at s (start_of s n + 1))
          (ap (λ (i : ℕ). list_any (is_carried i) (carrying s (start_of s n) ∷ [])) (sym here)
          ∙ rw (itself (start_of s n)) refl)
      by_first (inr later) = any_second (is_carried j) (carrying s (start_of s n) ∷ []) (rest_at s
          (start_of s n + 1))
          (ap (list_any (is_carried j)) (rest_later s (start_of s n + 1) d is.plan.site (omega (arith, at, below))
          ∙ ap (λ (k : ℕ). mid_at s (start_of s n + 1) d ++ rest_at s k) at)
          ∙ any_second (is_carried j) (mid_at s (start_of s n + 1) d) (rest_at s j)
          (ap (list_any (is_carried j)) (rest_more s j is.plan.site below)
          ∙ any_first (is_carried j) (group_at s j) (rest_at s (j + 1))
          (any_second (is_carried j) (tables_before plan j) (parts_before s j ++ carrying s j ∷ [])
          (any_second (is_carried j) (parts_before s j) (carrying s j ∷ []) (rw (itself j) refl)))))
        where
          d : ℕ
          d = j - (start_of s n + 1)

          at : start_of s n + 1 + d ≡ j
          at = omega (arith, from, later)

  -- the packets up to the next message are confirmed where they are due
  stretch_back : (n j : ℕ) (front kept : List Item) → IsBack n front kept → start_of s n ≤ j → j < end_of s (n + 1) →
      is_confirmed_at plan u clear kept j ≡ is_due plan u j
  stretch_back n j front kept back from to =
      between_arrived plan clear u is kept n j back.within from to
      (back_arrived n front kept back) (next_arrived n front kept back) (back_told n front kept back)
      (λ veiled. traced_whole plan clear u is kept n (pid_of (packet_at clear j))
      (omega (arith, from, to)) (λ i above below. back_kept n i front kept back above (omega (arith, below))))
      ∙ ap (λ (b : Bool). b && is_due plan u j) (back_kept n j front kept back from (omega (arith, to)))

  -- and so are all later ones
  pub all_back : (n j : ℕ) (front kept : List Item) → IsBack n front kept → start_of s n ≤ j → j < length clear →
      is_confirmed_at plan u clear kept j ≡ is_due plan u j
  all_back n j front kept back from below = by_number (cases_lt n a)
    where
      some : 0 < plan.site.every
      some = omega (arith, is.plan.site.every.0)

      a : ℕ
      a = j / plan.site.every

      above : n ≤ a
      above = (le-div_iff_mul-le some).1 from

      low : start_of s a ≤ j
      low = (le-div_iff_mul-le some).0 (omega arith)

      high : j < (a + 1) * plan.site.every
      high = (div-lt_iff_lt-mul some).0 (omega arith)

      by_number : (n < a) ⊎ (a ≤ n) → is_confirmed_at plan u clear kept j ≡ is_due plan u j
      by_number (inl later) =
          stretch_back a j (front ++ between n a) kept
          (back_later n a front kept later (number_within s j is.plan.site below) back) low (omega (arith, high, below))
      by_number (inr here) =
          let same : a ≡ n = omega (arith, above, here) in
          stretch_back n j front kept back from (omega (arith, rw same at high, below))

  -- after a CAT before the message
  pub cat_back : (n : ℕ) (front kept : List Item) → n < final s → kept ≡ front ++ from_message n →
      list_any is_cat_item front ≡ true → All (IsOfBroadcast plan clear) front →
      ((b : ℕ) → n ≤ b → list_any (is_of b) front ≡ false) →
      (is_due plan u (start_of s n) ≡ true →
      list_any (entitles plan.site.height u (period_of plan (start_of s n))) (after_cat front) ≡ true) →
      IsBack n (after_cat front) (after_cat kept)
  cat_back n front kept below same some of none told = record {
    within = below;
    same = ap after_cat same ∙ after_some front (from_message n) some;
    of = after_all (IsOfBroadcast plan clear) front of;
    none = λ b above. after_fails (is_of b) front (none b above);
    told = told;
  }

  -- and where the tables stand before the message
  pub tables_back : (n : ℕ) (front kept : List Item) → n < final s →
      (start_of s n % crypto_length plan.site == 0) ≡ true →
      kept ≡ front ++ (tables_before plan (start_of s n) ++ from_message n) → All (IsOfBroadcast plan clear) front →
      ((b : ℕ) → n ≤ b → list_any (is_of b) front ≡ false) →
      IsBack n (after_cat (front ++ tables_before plan (start_of s n))) (after_cat kept)
  unfolding tables_at
  tables_back n front kept below begins same of none =
      cat_back n (front ++ tables) kept below (same ∙ sym (append_assoc front tables (from_message n)))
      (any_second is_cat_item front tables (ap (list_any is_cat_item) stand))
      (All-append (IsOfBroadcast plan clear) front tables of tables_of)
      (λ b above. fails_joined (is_of b) front tables (none b above)
      (tables_before_fail s (is_of b) refl (no_section_part b) (start_of s n)))
      (λ due. ap (λ (xs : List Item). list_any p (after_cat (front ++ xs))) stand
      ∙ any_after p front sections (sections_entitle plan (period_of plan (start_of s n)) u is.plan is.leaf ∙ due))
    where
      p : Item → Bool
      p = entitles plan.site.height u (period_of plan (start_of s n))

      tables : List Item
      tables = tables_before plan (start_of s n)

      sections : List Item
      sections = map Entitles (emms_of (period_at plan (period_of plan (start_of s n))))

      stand : tables ≡ Cat ∷ sections
      stand = ap (λ (b : Bool). if b then tables_at plan (start_of s n) else []) begins

      tables_of : All (IsOfBroadcast plan clear) tables
      tables_of = (split_all (IsOfBroadcast plan clear) tables (from_message n)
          (split_all (IsOfBroadcast plan clear) (pre_at s (start_of s n)) (tables ++ from_message n)
          (subst (All (IsOfBroadcast plan clear)) (message_stands s n is.plan.site below
          ∙ append_assoc (pre_at s (start_of s n)) tables (from_message n))
          (all_are_of_broadcast plan clear))).1).0

  -- of the whole broadcast all stands from the first message on
  pub whole_back : 0 < length clear → (front : List Item) × IsBack 0 front (after_cat (rest_at s 0))
  whole_back some = (
    after_cat (pre_at s (start_of s 0) ++ tables_before plan (start_of s 0)),
    tables_back 0 (pre_at s (start_of s 0)) (rest_at s 0) first begins same
        (split_all (IsOfBroadcast plan clear) (pre_at s (start_of s 0)) (tables_before plan (start_of s 0)
        ++ from_message 0)
        (subst (All (IsOfBroadcast plan clear)) same (all_are_of_broadcast plan clear))).0
        (λ b above. pre_numbers s laws (start_of s 0) b (omega arith) (omega (arith, number_at 0))),
  )
    where
      none : 0 * plan.site.every ≡ 0
      none = omega arith

      first : 0 < final s
      first = omega (arith, number_within s 0 is.plan.site some)

      begins : (start_of s 0 % crypto_length plan.site == 0) ≡ true
      begins =
          let rest : 0 % crypto_length plan.site ≡ 0 = omega arith in
          rw none (grind (arith, nat_tests, rest))

      same : rest_at s 0 ≡ pre_at s (start_of s 0) ++ (tables_before plan (start_of s 0) ++ from_message 0)
      same = message_stands s 0 is.plan.site first
          ∙ append_assoc (pre_at s (start_of s 0)) (tables_before plan (start_of s 0)) (from_message 0)

  -- what is sent from packet j on, cut at a later message
  pub rest_from : (j n : ℕ) → j ≤ start_of s n → n < final s →
      rest_at s j ≡ (mid_at s j (start_of s n - j) ++ tables_before plan (start_of s n)) ++ from_message n
  rest_from j n from below =
      let inside = closing_needed plan.site (length clear) n is.plan.site below in
      let at : j + (start_of s n - j) ≡ start_of s n = omega (arith, from) in
      rest_later s j (start_of s n - j) is.plan.site (omega (arith, at, inside))
      ∙ (ap (λ (k : ℕ). mid_at s j (start_of s n - j) ++ rest_at s k) at
      ∙ (ap (λ (xs : List Item). mid_at s j (start_of s n - j) ++ xs) (rest_is n below)
      ∙ sym (append_assoc (mid_at s j (start_of s n - j)) (tables_before plan (start_of s n)) (from_message n))))

  -- before the message there is no part of it or of a later one
  pub none_from : (j n b : ℕ) → j ≤ start_of s n → n < final s → n ≤ b →
      list_any (is_of b) (mid_at s j (start_of s n - j) ++ tables_before plan (start_of s n)) ≡ false
  none_from j n b from below above =
      let inside = closing_needed plan.site (length clear) n is.plan.site below in
      let at : j + (start_of s n - j) ≡ start_of s n = omega (arith, from) in
      let mid : List Item = mid_at s j (start_of s n - j) in
      let parts : pre_at s j ++ mid ≡ pre_at s (start_of s n) =
      append_cancel_right (pre_at s j ++ mid) (pre_at s (start_of s n)) (rest_at s (start_of s n))
      (append_assoc (pre_at s j) mid (rest_at s (start_of s n))
      ∙ (ap (λ (k : ℕ). pre_at s j ++ (mid ++ rest_at s k)) (sym at)
      ∙ (ap (λ (xs : List Item). pre_at s j ++ xs)
      (sym (rest_later s j (start_of s n - j) is.plan.site (omega (arith, at, inside))))
      ∙ (sym (sent_split s j is.plan.site (omega (arith, from, inside)))
      ∙ sent_split s (start_of s n) is.plan.site (omega (arith, inside)))))) in
      fails_joined (is_of b) mid (tables_before plan (start_of s n))
      (fails_both (is_of b) (pre_at s j) mid (ap (list_any (is_of b)) parts
      ∙ pre_numbers s laws (start_of s n) b (omega (arith, inside)) (omega (arith, above, number_at n)))).1
      (tables_before_fail s (is_of b) refl (no_section_part b) (start_of s n))

  -- and all is of the broadcast
  pub of_from : (j n : ℕ) → j ≤ start_of s n → n < final s →
      All (IsOfBroadcast plan clear) (mid_at s j (start_of s n - j) ++ tables_before plan (start_of s n))
  of_from j n from below =
      let inside = closing_needed plan.site (length clear) n is.plan.site below in
      (split_all (IsOfBroadcast plan clear) (mid_at s j (start_of s n - j) ++ tables_before plan (start_of s n))
      (from_message n)
      (subst (All (IsOfBroadcast plan clear)) (rest_from j n from below)
      (split_all (IsOfBroadcast plan clear) (pre_at s j) (rest_at s j)
      (subst (All (IsOfBroadcast plan clear)) (sent_split s j is.plan.site (omega (arith, from, inside)))
      (all_are_of_broadcast plan clear))).1)).0

  -- what is sent up to and with the first i clear packets
  pub sent_is : (i : ℕ) → i ≤ length clear → sent plan (take i clear) ≡ pre_at s i
  sent_is i within =
      append_cancel_right (sent plan (take i clear)) (pre_at s i) (rest_at s i)
      (sym (append_assoc (sent plan (take i clear)) (sent_from plan (take i clear) (drop i clear))
      (closing_of plan clear))
      ∙ (ap (λ (items : List Item). items ++ closing_of plan clear) (sym (sent_in_turn plan [] (take i clear)
      (drop i clear)) ∙ ap (sent plan) (take-append-drop i clear))
      ∙ sent_split s i is.plan.site within))
