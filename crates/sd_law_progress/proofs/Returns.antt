-- Where nothing is lost from a place on, all that is due is confirmed soon after it.
use Rattle.std.proofs.Common.{◌≡◌, refl, ℕ, ◌+◌, ◌-◌, ◌*◌, ◌/◌, ◌%◌, ◌<◌, ◌≤◌, ◌==◌, Bool, true, false}
use Rattle.std.proofs.Common.{List, [], ◌++◌, map, filter, length, take, drop, arith, sym, ap, ◌∙◌, append_assoc, subst}
use Rattle.std.specs.Prelude.{All}
use Rattle.std.specs.List.{list_any, range_with_len}
use Rattle.std.proofs.lemmas.Bool.Decides.{nat_tests}
use Rattle.std.proofs.lemmas.List.{map-append, take-append-drop, take-append-le}
use Rattle.std.proofs.lemmas.List.Elements.{filter-append}
use Rattle.std.proofs.Math.Nat.{mul-mod_left, div-mul-le_self, lt-div-mul-add, mul_assoc, mul_comm}
use Rattle.std.proofs.Math.Nat.{le-div_iff_mul-le}
use Rattle.sd_base.proofs.Ranges.{range_parts, filter_range}
use Rattle.sd_site_cards.specs.CardFields.{site_card}
use Rattle.sd_message.specs.declared.ecm_part.EcmPart.{EcmPart}
use Rattle.sd_spec.specs.Plan.{Plan, crypto_length, period_of}
use Rattle.sd_spec.specs.Sent.{Item, Controls, sent, broadcast, tables_before, is_cat_item}
use Rattle.sd_spec.specs.Offered.{out_from}
use Rattle.sd_spec.specs.Items.{IsOfBroadcast}
use Rattle.sd_spec.proofs.Items.{all_are_of_broadcast}
use Rattle.sd_spec.proofs.Schedule.{crypto_length_some, closing_needed}
use Rattle.sd_law_losses.specs.Chosen.{chosen}
use Rattle.sd_law_losses.specs.Kept.{entitles, after_cat}
use Rattle.sd_law_losses.specs.Confirmed.{packet_at, packets_at, is_confirmed_at, confirmed}
use Rattle.sd_law_losses.proofs.Arriving.{is_of}
use Rattle.sd_law_losses.proofs.Setting.{Setting, AreLaws, final}
use Rattle.sd_law_losses.proofs.Pairs.{start_of}
use Rattle.sd_law_losses.proofs.Remaining.{rest_at, number_within}
use Rattle.sd_law_losses.proofs.Later.{tables_before_fail, no_section_part}
use Rattle.sd_law_losses.proofs.Standing.{pre_at, sent_split, pre_numbers, message_stands}
use Rattle.sd_law_losses.proofs.Lists.{split_all}
use Rattle.sd_law_losses.proofs.Theorem.{confirmed_alone}
use Rattle.sd_law_losses.proofs.Lawful.{setting}
use Rattle.sd_law_progress.specs.Progress.{things, is_due, AreKeptFrom, packets_before, is_part_of, before_message}
use Rattle.sd_law_progress.specs.Progress.{due_in, confirmed_in, IsKnownBefore}
use Rattle.sd_law_progress.proofs.Given.{IsSentTo, laws_of}
use Rattle.sd_law_progress.proofs.Splits.{fails_both, fails_joined}
use Rattle.sd_law_progress.proofs.Choices.{same_parts, before_is}
use Rattle.sd_law_progress.proofs.Counts.{place_within, place_before, first_part, FirstPart, front_of, kept_is}
use Rattle.sd_law_progress.proofs.Counts.{front_all}
use Rattle.sd_law_progress.proofs.Counts.{front_fails}
use Rattle.std.proofs.lemmas.Nat.{div-add-mod'}
use Rattle.sd_law_progress.proofs.Back.{sent_is, ahead, from_message, behind, number_at, cat_back, tables_back}
use Rattle.sd_law_progress.proofs.Back.{all_back}

-- what is confirmed, in two parts
pub confirmed_parts : (plan : Plan) (clear : List (List ℕ)) (u at : ℕ) (kept : List Item) → at ≤ length clear →
    confirmed plan u clear kept
    ≡ confirmed_in plan u clear kept 0 at ++ confirmed_in plan u clear kept at (length clear)
unfolding confirmed confirmed_in
confirmed_parts plan clear u at kept within =
    let all : length clear ≡ (at - 0) + (length clear - at) = omega (arith, within) in
    let from : 0 + (at - 0) ≡ at = omega arith in
    ap (λ (n : ℕ). packets_at clear (filter confirms (range_with_len 0 n))) all
    ∙ (ap (λ (js : List ℕ). packets_at clear (filter confirms js)) (range_parts 0 (at - 0) (length clear - at))
    ∙ (ap (packets_at clear) (filter-append confirms (range_with_len 0 (at - 0)) (range_with_len (0 + (at - 0))
    (length clear - at)))
    ∙ (map-append (packet_at clear) (filter confirms (range_with_len 0 (at - 0))) (filter confirms (range_with_len
    (0 + (at - 0)) (length clear - at)))
    ∙ ap (λ (n : ℕ). packets_at clear (filter confirms (range_with_len 0 (at - 0))) ++ packets_at clear
    (filter confirms (range_with_len n (length clear - at)))) from)))
  where
    confirms : ℕ → Bool
    confirms j = is_confirmed_at plan u clear (after_cat kept) j

-- where all that is due is confirmed
pub confirmed_due : (plan : Plan) (clear : List (List ℕ)) (u low high : ℕ) (kept : List Item) →
    ((j : ℕ) → low ≤ j → j < high → is_confirmed_at plan u clear (after_cat kept) j ≡ is_due plan u j) →
    confirmed_in plan u clear kept low high ≡ due_in plan u clear low high
unfolding confirmed_in due_in
confirmed_due plan clear u low high kept same =
    ap (packets_at clear) (filter_range (is_confirmed_at plan u clear (after_cat kept)) (is_due plan u) low
    (high - low) (λ j above below. same j above (omega (arith, above, below))))

module _ (plan : Plan) (clear : List (List ℕ)) (u : ℕ) (is : IsSentTo plan clear u) where
  abbrev s : Setting
  s = setting plan clear u

  laws : AreLaws s
  laws = laws_of plan clear u is

  abbrev ahead_of : ℕ → List Item
  ahead_of n = ahead plan clear u is n

  abbrev from_on : ℕ → List Item
  from_on n = from_message plan clear u is n

  -- before a message stands no part of it or of a later one
  pub none_ahead : (n b : ℕ) → n < final s → n ≤ b → list_any (is_of b) (pre_at s (start_of s n)) ≡ false
  none_ahead n b below above =
      pre_numbers s laws (start_of s n) b
      (omega (arith, closing_needed plan.site (length clear) n is.plan.site below))
      (omega (arith, above, number_at plan clear u is n))

  of_ahead : (n : ℕ) → n < final s → All (IsOfBroadcast plan clear) (ahead_of n)
  of_ahead n below =
      (split_all (IsOfBroadcast plan clear) (ahead_of n) (from_on n)
      (subst (All (IsOfBroadcast plan clear)) (message_stands s n is.plan.site below)
      (all_are_of_broadcast plan clear))).0

  -- the number of a packet from which on there are more
  below_final : (n j : ℕ) → n * plan.site.every ≤ j → j < length clear → n < final s
  below_final n j from within =
      let some : 0 < plan.site.every = omega (arith, is.plan.site.every.0) in
      let number : n ≤ j / plan.site.every = (le-div_iff_mul-le some).1 from in
      omega (arith, number, number_within s j is.plan.site within)

  -- from a message on that stands behind the place, with its key
  pub message_back : (x n : ℕ) (flags : List Bool) → AreKeptFrom plan clear x flags →
      list_any (is_part_of n) (take x (things plan clear)) ≡ false →
      IsKnownBefore plan u n (chosen flags (things plan clear)) →
      (j : ℕ) → n * plan.site.every ≤ j → j < length clear →
      is_confirmed_at plan u clear (after_cat (chosen flags (things plan clear))) j ≡ is_due plan u j
  message_back x n flags are none known j from within =
      all_back plan clear u is n j (after_cat front) (after_cat kept)
      (cat_back plan clear u is n front kept below kept_so
      (ap (list_any is_cat_item) (sym before) ∙ known.cat)
      (front_all (IsOfBroadcast plan clear) x flags (ahead_of n) (of_ahead n below))
      none_front
      (λ due. ap (λ (items : List Item). list_any (entitles plan.site.height u (period_of plan (start_of s n)))
      (after_cat items)) (sym before) ∙ known.key due))
      from within
    where
      kept : List Item
      kept = chosen flags (things plan clear)

      below : n < final s
      below = below_final n j from within

      stands : things plan clear ≡ ahead_of n ++ from_on n
      stands = message_stands s n is.plan.site below

      place : x ≤ length (ahead_of n)
      place = place_before s laws n x (ahead_of n) (behind plan clear u is n) (omega (arith, below))
          (ap (λ (items : List Item). list_any (is_part_of n) (take x items)) (sym stands) ∙ none)

      front : List Item
      front = front_of x flags (ahead_of n)

      kept_so : kept ≡ front ++ from_on n
      kept_so = kept_is x flags (things plan clear) (ahead_of n) (from_on n) stands place are

      none_front : (b : ℕ) → n ≤ b → list_any (is_of b) front ≡ false
      none_front b above = front_fails (is_of b) x flags (ahead_of n)
          (fails_joined (is_of b) (pre_at s (start_of s n)) (tables_before plan (start_of s n))
          (none_ahead n b below above)
          (tables_before_fail s (is_of b) refl (no_section_part b) (start_of s n)))

      first : FirstPart s n
      first = first_part s laws n (omega (arith, below))

      before : before_message n kept ≡ front
      before =
          ap (before_message n) (kept_so ∙ ap (λ (parts : List EcmPart). front ++ (map Controls parts
          ++ behind plan clear u is n)) first.same)
          ∙ before_is n front (Controls first.part) (map Controls first.rest ++ behind plan clear u is n)
          (same_parts n front ∙ none_front n (omega arith)) first.number

  -- a message is known to stand behind the place by the packets before it
  none_before : (x n : ℕ) → n < final s → packets_before plan clear x < start_of s n →
      list_any (is_part_of n) (take x (things plan clear)) ≡ false
  none_before x n below fewer =
      same_parts n (take x (things plan clear))
      ∙ (ap (λ (items : List Item). list_any (is_of n) (take x items))
      (sent_split s (start_of s n) is.plan.site inside)
      ∙ (ap (list_any (is_of n)) (take-append-le x (pre_at s (start_of s n)) (rest_at s (start_of s n))
      (place_within s (start_of s n) x is.plan.site inside fewer))
      ∙ (fails_both (is_of n) (take x (pre_at s (start_of s n))) (drop x (pre_at s (start_of s n)))
      (ap (list_any (is_of n)) (take-append-drop x (pre_at s (start_of s n))) ∙ none_ahead n n below (omega arith))).0))
    where
      inside : start_of s n ≤ length clear
      inside = omega (arith, closing_needed plan.site (length clear) n is.plan.site below)

  -- where the key is known all that is due is confirmed a stretch later
  pub known_back : (x : ℕ) (flags : List Bool) → AreKeptFrom plan clear x flags → (j : ℕ) →
      packets_before plan clear x + plan.site.every ≤ j → j < length clear →
      IsKnownBefore plan u (j / plan.site.every) (chosen flags (things plan clear)) →
      is_confirmed_at plan u clear (after_cat (chosen flags (things plan clear))) j ≡ is_due plan u j
  known_back x flags are j from within known =
      message_back x (j / plan.site.every) flags are
      (none_before x (j / plan.site.every) (number_within s j is.plan.site within) (omega (arith, from, top))) known j
      (div-mul-le_self j plan.site.every) within
    where
      top : j < j / plan.site.every * plan.site.every + plan.site.every
      top = lt-div-mul-add (omega (arith, is.plan.site.every.0))

  -- from a crypto period on whose tables stand behind the place
  tables_return : (x n : ℕ) (flags : List Bool) → AreKeptFrom plan clear x flags →
      x ≤ length (pre_at s (start_of s n)) → (start_of s n % crypto_length plan.site == 0) ≡ true →
      (j : ℕ) → start_of s n ≤ j → j < length clear →
      is_confirmed_at plan u clear (after_cat (chosen flags (things plan clear))) j ≡ is_due plan u j
  tables_return x n flags are place begins j from within =
      all_back plan clear u is n j
      (after_cat (front_of x flags (pre_at s (start_of s n)) ++ tables_before plan (start_of s n)))
      (after_cat (chosen flags (things plan clear)))
      (tables_back plan clear u is n (front_of x flags (pre_at s (start_of s n)))
      (chosen flags (things plan clear)) below begins
      (kept_is x flags (things plan clear) (pre_at s (start_of s n)) (tables_before plan (start_of s n) ++ from_on n)
      (message_stands s n is.plan.site below
      ∙ append_assoc (pre_at s (start_of s n)) (tables_before plan (start_of s n)) (from_on n)) place are)
      (front_all (IsOfBroadcast plan clear) x flags (pre_at s (start_of s n))
      (split_all (IsOfBroadcast plan clear) (pre_at s (start_of s n)) (tables_before plan (start_of s n))
      (of_ahead n below)).0)
      (λ b above. front_fails (is_of b) x flags (pre_at s (start_of s n)) (none_ahead n b below above)))
      from within
    where
      below : n < final s
      below = below_final n j from within

  -- the message before the first packet of a crypto period
  start_at : (q : ℕ) → start_of s (q * plan.site.cryptos) ≡ q * crypto_length plan.site
  start_at q = mul_assoc q plan.site.cryptos plan.site.every
      ∙ ap (λ (length : ℕ). q * length) (mul_comm plan.site.cryptos plan.site.every)

  pub crypto_back : (x k : ℕ) (flags : List Bool) → AreKeptFrom plan clear x flags →
      k % crypto_length plan.site ≡ 0 → x ≤ length (sent plan (take k clear)) → (j : ℕ) → k ≤ j → j < length clear →
      is_confirmed_at plan u clear (after_cat (chosen flags (things plan clear))) j ≡ is_due plan u j
  crypto_back x k flags are begins place j from within =
      tables_return x (q * plan.site.cryptos) flags are
      (omega (
        arith,
        place,
        ap length (sent_is plan clear u is k (omega (arith, from, within))),
        ap (λ (i : ℕ). length (pre_at s i)) at,
      ))
      (ap (λ (i : ℕ). i % crypto_length plan.site == 0) at ∙ grind (arith, nat_tests, begins)) j
      (omega (arith, at, from)) within
    where
      q : ℕ
      q = k / crypto_length plan.site

      at : start_of s (q * plan.site.cryptos) ≡ k
      at = start_at q ∙ omega (arith, div-add-mod' k (crypto_length plan.site), begins)

  -- so it is not long
  pub soon_back : (x : ℕ) (flags : List Bool) → AreKeptFrom plan clear x flags → (j : ℕ) →
      packets_before plan clear x + crypto_length plan.site ≤ j → j < length clear →
      is_confirmed_at plan u clear (after_cat (chosen flags (things plan clear))) j ≡ is_due plan u j
  soon_back x flags are j from within =
      tables_return x n flags are
      (place_within s (start_of s n) x is.plan.site (omega (arith, start, low, within))
      (omega (arith, start, top, from)))
      begins j (omega (arith, start, low)) within
    where
      n : ℕ
      n = j / crypto_length plan.site * plan.site.cryptos

      start : start_of s n ≡ j / crypto_length plan.site * crypto_length plan.site
      start = start_at (j / crypto_length plan.site)

      low : j / crypto_length plan.site * crypto_length plan.site ≤ j
      low = div-mul-le_self j (crypto_length plan.site)

      top : j < j / crypto_length plan.site * crypto_length plan.site + crypto_length plan.site
      top = lt-div-mul-add (crypto_length_some plan.site is.plan.site)

      begins : (start_of s n % crypto_length plan.site == 0) ≡ true
      begins =
          let none : start_of s n % crypto_length plan.site ≡ 0 =
          ap (λ (k : ℕ). k % crypto_length plan.site) start
          ∙ mul-mod_left (j / crypto_length plan.site) (crypto_length plan.site) in
          grind (arith, nat_tests, none)

  -- and what is written ends with all that is due
  pub soon_written : (x : ℕ) (flags : List Bool) (low : ℕ) → AreKeptFrom plan clear x flags →
      packets_before plan clear x + crypto_length plan.site ≤ low → low ≤ length clear →
      out_from (site_card plan.site u) [] (chosen flags (broadcast plan clear))
      ≡ confirmed_in plan u clear (chosen flags (things plan clear)) 0 low ++ due_in plan u clear low (length clear)
  soon_written x flags low are from within =
      confirmed_alone plan clear u flags is.plan is.sendable is.whole is.leaf
      ∙ (confirmed_parts plan clear u low (chosen flags (things plan clear)) within
      ∙ ap (λ (packets : List (List ℕ)). confirmed_in plan u clear (chosen flags (things plan clear)) 0 low ++ packets)
      (confirmed_due plan clear u low (length clear) (chosen flags (things plan clear))
      (λ j above below. soon_back x flags are j (omega (arith, from, above)) below)))
