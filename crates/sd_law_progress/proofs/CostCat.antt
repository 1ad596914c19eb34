-- What is confirmed where the first CAT is lost.
use Rattle.std.proofs.Common.{◌≡◌, refl, ℕ, zero, suc, ◌+◌, ◌-◌, ◌*◌, ◌/◌, ◌%◌, ◌<◌, ◌≤◌, ◌==◌, ◌&&◌, Bool}
use Rattle.std.proofs.Common.{true, false, append_assoc}
use Rattle.std.proofs.Common.{List, [], ◌∷◌, ◌++◌, length, arith, sym, ap, ◌∙◌}
use Rattle.std.specs.List.{list_any}
use Rattle.std.proofs.lemmas.Bool.{both_ways, or_parts}
use Rattle.std.proofs.lemmas.Bool.Decides.{nat_tests}
use Rattle.std.proofs.lemmas.List.{append_cancel_right}
use Rattle.std.proofs.lemmas.List.Folds.{list_any-append}
use Rattle.std.proofs.lemmas.Nat.{div-add-mod'}
use Rattle.std.proofs.Math.Nat.{le-div_iff_mul-le, mul-le-mul_right, mul-mod_left}
use Rattle.std.proofs.Math.Nat.{mul-div_cancel}
use Rattle.sd_base.proofs.Bools.{or_true}
use Rattle.sd_packet.specs.Header.{pid_of}
use Rattle.sd_site_cards.specs.SiteFields.{AreInRange}
use Rattle.sd_site_cards.specs.CardFields.{card_of}
use Rattle.sd_spec.specs.Plan.{Plan, crypto_length, period_of, closing_number}
use Rattle.sd_spec.specs.Sent.{Item, Cat, Entitles, Controls, Carries, tables_before}
use Rattle.sd_spec.proofs.Schedule.{period_begins, crypto_length_some, closing_needed}
use Rattle.sd_law_losses.specs.Kept.{after_cat, is_kept, is_carried, has_arrived, entitles, is_last_part}
use Rattle.sd_law_losses.specs.Kept.{is_entitled_before}
use Rattle.sd_law_losses.specs.Confirmed.{packet_at, is_confirmed_at, is_revoked_in}
use Rattle.sd_law_losses.proofs.AllOpened.{begin_is_due}
use Rattle.sd_law_losses.proofs.Arriving.{is_of}
use Rattle.sd_law_losses.proofs.Carrying.{carrying}
use Rattle.sd_law_losses.proofs.Lawful.{setting}
use Rattle.sd_law_losses.proofs.Pairs.{start_of}
use Rattle.sd_law_losses.proofs.Remaining.{rest_at, group_at, parts_before, rest_more, number_within, due_number}
use Rattle.sd_law_losses.proofs.Setting.{Setting, AreLaws, final}
use Rattle.sd_law_losses.proofs.Standing.{any_first, any_second, pre_at, sent_split, pre_numbers, all_arrived}
use Rattle.sd_law_losses.proofs.Later.{packets_later}
use Rattle.sd_law_losses.proofs.Standing.{packet_stands}
use Rattle.sd_law_losses.proofs.Tests.{none_weaker}
use Rattle.sd_law_losses.proofs.Untuned.{due_rest, sections_at, tail_at}
use Rattle.sd_law_progress.specs.Cost.{IsSentBetween}
use Rattle.sd_law_progress.proofs.Given.{IsSentTo, laws_of}
use Rattle.sd_law_progress.proofs.CostPairs.{all_traced}
use Rattle.sd_law_progress.proofs.CostStanding.{arrived_without, last_is_of, entitled_by, tables_entitle, up_to_tables}
use Rattle.sd_law_progress.proofs.CostStanding.{after_tables, tables_split, no_part_yet, last_sent, next_confirms}
use Rattle.sd_law_progress.proofs.CostStanding.{period_before, any_later}

-- things of which none is a part of a message make no difference to it
arrived_behind : (xs ys : List Item) (a : ℕ) → list_any (is_of a) xs ≡ false →
    has_arrived (xs ++ ys) a ≡ has_arrived ys a
arrived_behind [] ys a none = refl
arrived_behind (x ∷ xs) ys a none =
    let parts = or_parts (is_of a x) (list_any (is_of a) xs) none in
    sym (arrived_without [] (xs ++ ys) x a parts.0) ∙ arrived_behind xs ys a parts.1

-- what is entitled to stays so behind things of which none is its last part
entitled_behind : (h u q a : ℕ) (xs ys : List Item) → list_any (is_last_part a) xs ≡ false →
    is_entitled_before h u q a ys ≡ true → is_entitled_before h u q a (xs ++ ys) ≡ true
unfolding is_entitled_before
entitled_behind h u q a [] ys none is = is
entitled_behind h u q a (x ∷ xs) ys none is =
    let parts = or_parts (is_last_part a x) (list_any (is_last_part a) xs) none in
    rw parts.0 (rw (entitled_behind h u q a xs ys parts.1 is)
    (or_true (entitles h u q x && list_any (is_last_part a) (xs ++ ys))))

-- what stands after the first CAT, if there is one at a known place: all behind that place, and some of what is before
abbrev IsRest : List Item → List Item → List Item → Type 0
IsRest xs ys rest = (some : List Item) × (rest ≡ some ++ ys)
    × ((p : Item → Bool) → p Cat ≡ false → list_any p xs ≡ false → list_any p some ≡ false)

rest_of : (xs ys : List Item) → IsRest xs ys (after_cat (xs ++ Cat ∷ ys))
unfolding after_cat
rest_of [] ys = ([], refl, λ p other none. refl)
rest_of (Cat ∷ xs) ys = (
  xs ++ Cat ∷ [],
  sym (append_assoc xs (Cat ∷ []) ys),
  λ p other none. list_any-append p xs (Cat ∷ []) ∙ rw other
      (rw (or_parts (p Cat) (list_any p xs) none).1 refl),
)
rest_of (Entitles emm ∷ xs) ys =
    let (some, same, fails) = rest_of xs ys in
    (some, same, λ p other none. fails p other (or_parts (p (Entitles emm)) (list_any p xs) none).1)
rest_of (Controls part ∷ xs) ys =
    let (some, same, fails) = rest_of xs ys in
    (some, same, λ p other none. fails p other (or_parts (p (Controls part)) (list_any p xs) none).1)
rest_of (Carries k packet ∷ xs) ys =
    let (some, same, fails) = rest_of xs ys in
    (some, same, λ p other none. fails p other (or_parts (p (Carries k packet)) (list_any p xs) none).1)

-- what is sent from packet k on, up to a later one
abbrev IsBetween : Setting → ℕ → ℕ → Type 0
IsBetween s k n = (some : List Item) × (rest_at s k ≡ some ++ rest_at s (k + n))

sent_between : (s : Setting) (k n : ℕ) → AreInRange s.plan.site → k + n ≤ length s.clear → IsBetween s k n
sent_between s k zero range within = ([], ap (rest_at s) (omega arith))
sent_between s k (suc n) range within =
    let (some, same) = sent_between s (k + 1) n range (omega (arith, within)) in
    let more : k + 1 + n ≡ k + suc n = omega arith in (
      group_at s k ++ some,
      rest_more s k range (omega (arith, within))
          ∙ (ap (λ (xs : List Item). group_at s k ++ xs) (same ∙ ap (λ (m : ℕ). some ++ rest_at s m) more)
          ∙ sym (append_assoc (group_at s k) some (rest_at s (k + suc n)))),
    )

-- what of a part of it fails fails before the later packet as well
between_fails : (s : Setting) (k n : ℕ) (some : List Item) (p : Item → Bool) → AreInRange s.plan.site →
    k + n ≤ length s.clear → rest_at s k ≡ some ++ rest_at s (k + n) → list_any p (pre_at s (k + n)) ≡ false →
    list_any p some ≡ false
between_fails s k n some p range within same none =
    (or_parts (list_any p (pre_at s k)) (list_any p some)
    (sym (list_any-append p (pre_at s k) some) ∙ (ap (list_any p) (sym before) ∙ none))).1
  where
    before : pre_at s (k + n) ≡ pre_at s k ++ some
    before = append_cancel_right (pre_at s (k + n)) (pre_at s k ++ some) (rest_at s (k + n))
        (sym (sent_split s (k + n) range within)
        ∙ (sent_split s k range (omega (arith, within))
        ∙ (ap (λ (xs : List Item). pre_at s k ++ xs) same ∙ sym (append_assoc (pre_at s k) some (rest_at s (k + n))))))

-- a packet is sent after an earlier one's things
carried_later : (s : Setting) (k n : ℕ) → AreInRange s.plan.site → k + n < length s.clear →
    list_any (is_carried (k + n)) (rest_at s k) ≡ true
carried_later s k n range within =
    by_between (sent_between s k n range (omega (arith, within)))
  where
    j : ℕ
    j = k + n

    itself : (j : ℕ) → (j == j) ≡ true
    itself j = grind (arith, nat_tests)

    here : list_any (is_carried j) (rest_at s j) ≡ true
    here = ap (list_any (is_carried j)) (rest_more s j range within)
        ∙ any_first (is_carried j) (group_at s j) (rest_at s (j + 1))
        (any_second (is_carried j) (tables_before s.plan j) (parts_before s j ++ carrying s j ∷ [])
        (any_second (is_carried j) (parts_before s j) (carrying s j ∷ []) (rw (itself j) refl)))

    by_between : IsBetween s k n → list_any (is_carried j) (rest_at s k) ≡ true
    by_between (some, same) = ap (list_any (is_carried j)) same ∙ any_second (is_carried j) some (rest_at s j) here

-- the first CAT of a broadcast is lost
module _ (plan : Plan) (clear : List (List ℕ)) (u : ℕ) (is : IsSentTo plan clear u)
    (after : List Item) (lost : IsSentBetween plan clear [] Cat after) where
  abbrev s : Setting
  s = setting plan clear u

  laws : AreLaws s
  laws = laws_of plan clear u is

  abbrev k : ℕ
  k = crypto_length plan.site

  -- a broadcast that goes on for more than a crypto period
  module _ (long : k < length clear) where
    due : (k % k == 0) ≡ true
    due =
        let none : k % k ≡ 0 = ap (λ (n : ℕ). n % k) (omega arith) ∙ mul-mod_left 1 k in
        grind (arith, nat_tests, none)

    abbrev rest : List Item
    rest = (sections_at s (period_of plan k) ++ tail_at s k) ++ rest_at s (k + 1)

    stands : rest_at s k ≡ Cat ∷ rest
    stands = due_rest s k is.plan.site long due

    kept_is : IsRest (pre_at s k) rest (after_cat after)
    kept_is = by_first (pre_at s k) refl
      where
        no_packet : list_any (is_carried 0) (rest_at s k) ≡ false
        no_packet = packets_later s laws (length clear - k) k 0 (omega (arith, long))
            (crypto_length_some plan.site is.plan.site)

        packet : list_any (is_carried 0) (rest_at s 0) ≡ true
        packet = packet_stands s 0 is.plan.site (omega (arith, long))

        all_sent : rest_at s 0 ≡ pre_at s k ++ rest_at s k
        all_sent = sent_split s k is.plan.site (omega (arith, long))

        by_first : (xs : List Item) → pre_at s k ≡ xs → IsRest xs rest (after_cat after)
        by_first [] none = absurd (both_ways (list_any (is_carried 0) (rest_at s k)) no_packet
            (ap (list_any (is_carried 0)) (sym (all_sent ∙ ap (λ (xs : List Item). xs ++ rest_at s k) none)) ∙ packet))
        by_first (y ∷ xs) same =
            let joined : y ∷ (xs ++ Cat ∷ rest) ≡ Cat ∷ after =
            sym (all_sent ∙ (ap (λ (ys : List Item). pre_at s k ++ ys) stands
            ∙ ap (λ (ys : List Item). ys ++ Cat ∷ rest) same)) ∙ lost in
            let tail : xs ++ Cat ∷ rest ≡ after = cc joined in
            let (some, is_rest, fails) = rest_of xs rest in (
              some,
              ap after_cat (sym tail) ∙ is_rest,
              λ p other none. fails p other (or_parts (p y) (list_any p xs) none).1,
            )

    abbrev kept : List Item
    kept = after_cat after

    abbrev some : List Item
    some = kept_is.0

    kept_parts : kept ≡ some ++ rest
    kept_parts = kept_is.1

    -- all packets from the second crypto period on are kept
    kept_later : (j : ℕ) → k ≤ j → j < length clear → is_kept kept j ≡ true
    kept_later j from within =
        let same : k + (j - k) ≡ j = omega (arith, from) in
        ap (list_any (is_carried j)) kept_parts
        ∙ any_second (is_carried j) some rest
        (ap (list_any (is_carried j)) (sym stands)
        ∙ (ap (λ (i : ℕ). list_any (is_carried i) (rest_at s k)) (sym same)
        ∙ carried_later s k (j - k) is.plan.site (omega (arith, same, within))))

    -- the number of the message before its first packet
    first_number : closing_number plan.site k ≡ plan.site.cryptos
    first_number = (due_number plan.site k is.plan.site begins).0
        ∙ (ap (λ (n : ℕ). n / plan.site.every) turned
        ∙ mul-div_cancel plan.site.cryptos (omega (arith, is.plan.site.every.0)))
      where
        turned : k ≡ plan.site.cryptos * plan.site.every
        turned = grind arith

        none : k % plan.site.every ≡ 0
        none = ap (λ (n : ℕ). n % plan.site.every) turned ∙ mul-mod_left plan.site.cryptos plan.site.every

        begins : (k % plan.site.every == 0) ≡ true
        begins = grind (arith, nat_tests, none)

    none_early : (b : ℕ) → plan.site.cryptos ≤ b → list_any (is_of b) (pre_at s k) ≡ false
    none_early b above = pre_numbers s laws k b (omega (arith, long)) (omega (arith, first_number, above))

    -- all messages from that one on arrive
    arrived_later : (b : ℕ) → plan.site.cryptos ≤ b → b ≤ final s → has_arrived kept b ≡ true
    arrived_later b above within =
        ap (λ (xs : List Item). has_arrived xs b) kept_parts
        ∙ (arrived_behind some rest b (kept_is.2 (is_of b) refl (none_early b above))
        ∙ (arrived_without [] rest Cat b refl
        ∙ (ap (λ (xs : List Item). has_arrived xs b) (sym stands)
        ∙ (sym (arrived_behind (pre_at s k) (rest_at s k) b (none_early b above))
        ∙ (ap (λ (xs : List Item). has_arrived xs b) (sym (sent_split s k is.plan.site (omega (arith, long))))
        ∙ all_arrived s laws b within)))))

    -- and are entitled to
    entitled_later : (a : ℕ) → plan.site.cryptos ≤ a → a < final s →
        is_revoked_in plan u (period_of plan (start_of s a)) ≡ false →
        is_entitled_before plan.site.height u (period_of plan (start_of s a)) a kept ≡ true
    unfolding is_entitled_before
    entitled_later a above below free =
        ap (is_entitled_before plan.site.height u q a) kept_parts
        ∙ entitled_behind plan.site.height u q a some rest
        (none_weaker (is_last_part a) (is_of a) some (last_is_of a) (kept_is.2 (is_of a) refl (none_early a above)))
        (ap (is_entitled_before plan.site.height u q a) (sym stands)
        ∙ by_between (sent_between s k n is.plan.site (omega (arith, there, inside))))
      where
        q : ℕ
        q = period_of plan (start_of s a)

        inside : start_of s a < length clear
        inside = closing_needed plan.site (length clear) a is.plan.site below

        begins : ℕ
        begins = start_of s a - start_of s a % k

        late : k ≤ start_of s a
        late =
            let turned : k ≡ plan.site.cryptos * plan.site.every = grind arith in
            omega (arith, turned, mul-le-mul_right plan.site.every above)

        whole_number : begins ≡ start_of s a / k * k
        whole_number = omega (arith, div-add-mod' (start_of s a) k)

        from : k ≤ begins
        from =
            let some_number : 1 ≤ start_of s a / k =
            (le-div_iff_mul-le (crypto_length_some plan.site is.plan.site)).1 (omega (arith, late)) in
            omega (arith, whole_number, mul-le-mul_right k some_number)

        n : ℕ
        n = begins - k

        there : k + n ≡ begins
        there = omega (arith, from)

        period : period_of plan begins ≡ q
        period = period_begins plan (start_of s a) is.plan.site

        tables : list_any (entitles plan.site.height u q) (tables_before plan begins) ≡ true
        tables = ap (λ (p : ℕ). list_any (entitles plan.site.height u p) (tables_before plan begins)) (sym period)
            ∙ tables_entitle plan begins u is.plan is.leaf (begin_is_due plan (start_of s a))
            (ap (is_revoked_in plan u) period ∙ free)

        none_yet : list_any (is_of a) (up_to_tables s begins) ≡ false
        none_yet = no_part_yet s laws begins a below (omega arith)

        none_parts : (list_any (is_of a) (pre_at s begins) ≡ false)
            × (list_any (is_of a) (tables_before plan begins) ≡ false)
        none_parts = or_parts (list_any (is_of a) (pre_at s begins)) (list_any (is_of a) (tables_before plan begins))
            (sym (list_any-append (is_of a) (pre_at s begins) (tables_before plan begins)) ∙ none_yet)

        ends : list_any (is_last_part a) (after_tables s begins) ≡ true
        ends = any_later (is_last_part a) (up_to_tables s begins) (after_tables s begins)
            (ap (list_any (is_last_part a)) (sym (tables_split s begins is.plan.site (omega (arith, inside))))
            ∙ last_sent s laws a below)
            (none_weaker (is_last_part a) (is_of a) (up_to_tables s begins) (last_is_of a) none_yet)

        by_between : IsBetween s k n → is_entitled_before plan.site.height u q a (rest_at s k) ≡ true
        by_between (between, same) =
            ap (is_entitled_before plan.site.height u q a) split
            ∙ entitled_by plan.site.height u q a (between ++ tables_before plan begins) (after_tables s begins)
            (none_weaker (is_last_part a) (is_of a) (between ++ tables_before plan begins) (last_is_of a)
            (list_any-append (is_of a) between (tables_before plan begins)
            ∙ rw (between_fails s k n between (is_of a) is.plan.site (omega (arith, there, inside)) same
            (ap (λ (m : ℕ). list_any (is_of a) (pre_at s m)) there ∙ none_parts.0)) none_parts.1))
            (any_second (entitles plan.site.height u q) between (tables_before plan begins) tables) ends
          where
            split : rest_at s k ≡ (between ++ tables_before plan begins) ++ after_tables s begins
            split = same ∙ (ap (λ (m : ℕ). between ++ rest_at s m) there
                ∙ (ap (λ (xs : List Item). between ++ xs) (rest_more s begins is.plan.site (omega (arith, inside))
                ∙ append_assoc (tables_before plan begins) (tail_at s begins) (rest_at s (begins + 1)))
                ∙ sym (append_assoc between (tables_before plan begins) (after_tables s begins))))

  -- so it costs the first crypto period
  pub first_cat_costs : (j : ℕ) → j < length clear → is_revoked_in plan u (period_of plan j) ≡ false → k ≤ j →
      is_confirmed_at plan u clear (after_cat after) j ≡ true
  unfolding card_of
  first_cat_costs j within free from =
      next_confirms s (after_cat after) j is.plan.site within
      (arrived_later long a late (omega (arith, inside))) (arrived_later long (a + 1) (omega (arith, late)) (omega
      (arith, inside)))
      (entitled_later long a late inside (ap (is_revoked_in plan u) (sym (period_before s j is.plan.site)) ∙ free))
      (kept_later long j from within)
      (λ scrambled. all_traced s (after_cat after) a (a + 1) (pid_of (packet_at clear j)) is.plan.site
      (record { below = omega arith; within = omega (arith, inside) })
      (λ i above below. kept_later long i (omega (arith, above, start)) (omega (arith, below))))
    where
      long : k < length clear
      long = omega (arith, from, within)

      a : ℕ
      a = j / plan.site.every

      inside : a < final s
      inside = number_within s j is.plan.site within

      turned : k ≡ plan.site.cryptos * plan.site.every
      turned = grind arith

      late : plan.site.cryptos ≤ a
      late = (le-div_iff_mul-le (omega (arith, is.plan.site.every.0))).1 (omega (arith, turned, from))

      start : k ≤ start_of s a
      start = omega (arith, turned, mul-le-mul_right plan.site.every late)
