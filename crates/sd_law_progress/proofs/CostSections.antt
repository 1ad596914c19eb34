-- What is confirmed where a section of entitlements is lost.
use Rattle.std.proofs.Common.{◌≡◌, refl, ℕ, ◌+◌, ◌-◌, ◌*◌, ◌/◌, ◌%◌, ◌<◌, ◌≤◌, ◌==◌, ◌&&◌, ◌||◌, Bool}
use Rattle.std.proofs.Common.{true, false, subst}
use Rattle.std.proofs.Common.{List, [], ◌∷◌, ◌++◌, length, arith, sym, ap, ◌∙◌, inl, inr, ◌⊎◌, length-append}
use Rattle.std.specs.Prelude.{All, Contains}
use Rattle.std.specs.List.{list_any}
use Rattle.std.proofs.lemmas.Bool.{cases_Bool, cases_lt, and_parts}
use Rattle.std.proofs.lemmas.Bool.Decides.{nat_tests}
use Rattle.std.proofs.lemmas.List.Elements.{All-head, All-tail, All-contains}
use Rattle.std.proofs.lemmas.Nat.{div-add-mod'}
use Rattle.std.proofs.Math.Nat.{mul-div_cancel, le-div_iff_mul-le, mod-lt, mul-le-mul_right}
use Rattle.sd_site_cards.specs.CardFields.{card_of}
use Rattle.sd_message.specs.Period.{Period, emms_of, emm_at}
use Rattle.sd_message.specs.EmmForm.{sections_for}
use Rattle.sd_message.specs.declared.emm.Emm.{Emm}
use Rattle.sd_message.proofs.Pieces.{each_made}
use Rattle.sd_spec.specs.Plan.{Plan, crypto_length, period_of}
use Rattle.sd_spec.specs.Messages.{period_at}
use Rattle.sd_spec.specs.Sent.{Item, Cat, Entitles, Controls, Carries, sent, tables_before}
use Rattle.sd_spec.specs.Items.{IsOfBroadcast, entitlement}
use Rattle.sd_spec.proofs.Items.{all_are_of_broadcast}
use Rattle.sd_spec.proofs.Periods.{section_number}
use Rattle.sd_spec.proofs.Schedule.{period_begins, crypto_length_some}
use Rattle.sd_law_losses.specs.Kept.{entitles, is_section_item, is_entitled_before}
use Rattle.sd_law_losses.specs.Confirmed.{is_revoked_in}
use Rattle.sd_law_losses.proofs.AllOpened.{begin_is_due}
use Rattle.sd_law_losses.proofs.Confirming.{confirms}
use Rattle.sd_law_losses.proofs.Lawful.{setting}
use Rattle.sd_law_losses.proofs.Lists.{split_all}
use Rattle.sd_law_losses.proofs.Pairs.{start_of}
use Rattle.sd_law_losses.proofs.Remaining.{number_within}
use Rattle.sd_law_losses.proofs.Setting.{Setting, AreLaws, final}
use Rattle.sd_law_losses.proofs.Standing.{any_first, any_second, pre_at}
use Rattle.sd_law_progress.specs.Cost.{IsSentBetween}
use Rattle.sd_law_progress.proofs.Given.{IsSentTo, laws_of}
use Rattle.sd_law_progress.proofs.CostLists.{any_without, first_or_second, IsFirst, IsSecond}
use Rattle.sd_law_progress.proofs.CostStanding.{entitled_still, tables_entitle, up_to_tables, sent_rises, tables_rise}
use Rattle.sd_law_progress.proofs.CostStanding.{IsSentWith, sent_with, period_before}
use Rattle.sd_law_progress.proofs.CostCases as Cases

-- a section is known by its period and its place
section_at : (period : Period) (emm : Emm) → Contains (emms_of period) emm → emm ≡ emm_at period emm.index
unfolding emms_of emm_at
section_at period emm there =
    All-contains (λ (one : Emm). one ≡ emm_at period one.index) (emms_of period) emm
    (each_made (λ (one : Emm). one ≡ emm_at period one.index) (emm_at period) (sections_for (length period.entries))
    (λ n below. refl)) there

one_section : (plan : Plan) (clear : List (List ℕ)) (a b : Emm) → IsOfBroadcast plan clear (Entitles a) →
    IsOfBroadcast plan clear (Entitles b) → a.period ≡ b.period → a.index ≡ b.index → a ≡ b
one_section plan clear a b (entitlement k within m) (entitlement l inside n) period place =
    section_at (period_at plan (period_of plan k)) a m
    ∙ (ap (λ (x : ℕ). emm_at (period_at plan (period_of plan k)) x) place
    ∙ (ap (λ (q : ℕ). emm_at (period_at plan q) b.index) (sym (section_number plan (period_of plan k) a m)
    ∙ (period ∙ section_number plan (period_of plan l) b n))
    ∙ sym (section_at (period_at plan (period_of plan l)) b n)))

-- what a section entitles to it entitled to when it was sent before
same_again : (plan : Plan) (clear : List (List ℕ)) (u q : ℕ) (emm : Emm) (before : List Item) →
    All (IsOfBroadcast plan clear) before → IsOfBroadcast plan clear (Entitles emm) →
    list_any (is_section_item emm.period emm.index) before ≡ true →
    entitles plan.site.height u q (Entitles emm) ≡ true → list_any (entitles plan.site.height u q) before ≡ true
same_again plan clear u q emm [] all of there some = absurd (cc there)
same_again plan clear u q emm (Cat ∷ items) all of there some =
    same_again plan clear u q emm items (All-tail (IsOfBroadcast plan clear) Cat items all) of there some
same_again plan clear u q emm (Controls one ∷ items) all of there some =
    same_again plan clear u q emm items (All-tail (IsOfBroadcast plan clear) (Controls one) items all) of there some
same_again plan clear u q emm (Carries k packet ∷ items) all of there some =
    same_again plan clear u q emm items (All-tail (IsOfBroadcast plan clear) (Carries k packet) items all) of there some
same_again plan clear u q emm (Entitles other ∷ items) all of there some =
    by_test (cases_Bool ((other.period == emm.period) && (other.index == emm.index))) there
    (λ there. same_again plan clear u q emm items (All-tail (IsOfBroadcast plan clear) (Entitles other) items all) of
    there some)
  where
    or_true' : (b : Bool) → (b || true) ≡ true
    or_true' true = refl
    or_true' false = refl

    by_test : (((other.period == emm.period) && (other.index == emm.index)) ≡ true)
        ⊎ (((other.period == emm.period) && (other.index == emm.index)) ≡ false) →
        (((other.period == emm.period) && (other.index == emm.index))
        || list_any (is_section_item emm.period emm.index) items) ≡ true →
        (list_any (is_section_item emm.period emm.index) items ≡ true →
        list_any (entitles plan.site.height u q) items ≡ true) →
        (entitles plan.site.height u q (Entitles other) || list_any (entitles plan.site.height u q) items) ≡ true
    by_test (inl is) there rest =
        let parts = and_parts (other.period == emm.period) (other.index == emm.index) is in
        let same : other ≡ emm =
        one_section plan clear other emm (All-head (IsOfBroadcast plan clear) (Entitles other) items all) of
        (grind (arith, nat_tests, parts.0)) (grind (arith, nat_tests, parts.1)) in
        ap (λ (b : Bool). b || list_any (entitles plan.site.height u q) items)
        (ap (λ (e : Emm). entitles plan.site.height u q (Entitles e)) same ∙ some)
    by_test (inr isnt) there rest =
        ap (λ (b : Bool). entitles plan.site.height u q (Entitles other) || b)
        (rest (ap (λ (b : Bool). b || list_any (is_section_item emm.period emm.index) items) (sym isnt) ∙ there))
        ∙ or_true' (entitles plan.site.height u q (Entitles other))

-- one section of a broadcast is lost
module _ (plan : Plan) (clear : List (List ℕ)) (u : ℕ) (is : IsSentTo plan clear u)
    (before : List Item) (emm : Emm) (after : List Item)
    (lost : IsSentBetween plan clear before (Entitles emm) after) where
  abbrev s : Setting
  s = setting plan clear u

  laws : AreLaws s
  laws = laws_of plan clear u is

  abbrev kept : List Item
  kept = before ++ after

  -- the first packet of a packet's crypto period
  abbrev begins : ℕ → ℕ
  begins j = j - j % crypto_length plan.site

  -- it stands at or before the message before the packet
  begins_early : (j : ℕ) → begins j ≤ start_of s (j / plan.site.every)
  begins_early j =
      let some : 0 < plan.site.every = omega (arith, is.plan.site.every.0) in
      let cut : begins j ≡ j / crypto_length plan.site * crypto_length plan.site =
      omega (arith, div-add-mod' j (crypto_length plan.site)) in
      let again : j / crypto_length plan.site * crypto_length plan.site
      ≡ j / crypto_length plan.site * plan.site.cryptos * plan.site.every =
      regroup (j / crypto_length plan.site) plan.site.every plan.site.cryptos in
      let count : j / crypto_length plan.site * plan.site.cryptos ≤ j / plan.site.every =
      (le-div_iff_mul-le some).1 (omega (arith, cut, again)) in
      omega (arith, cut, again, mul-le-mul_right plan.site.every count)
    where
      regroup : (n e c : ℕ) → n * (e * c) ≡ n * c * e
      regroup n e c = grind arith

  -- a packet that is due is confirmed if something is left of what entitled to it
  confirms_still : (j : ℕ) → j < length clear → is_revoked_in plan u (period_of plan j) ≡ false →
      ((rest : List Item) → up_to_tables s (begins j) ≡ before ++ Entitles emm ∷ rest →
      list_any (entitles plan.site.height u (period_of plan (begins j))) (tables_before plan (begins j)) ≡ true →
      list_any (entitles plan.site.height u (period_of plan (begins j))) (before ++ rest) ≡ true) →
      confirms s kept j ≡ true
  unfolding card_of
  confirms_still j within free still =
      Cases.still_confirms plan clear u is before (Entitles emm) after lost j within refl refl refl
      (ap (λ (q : ℕ). is_entitled_before plan.site.height u q (j / plan.site.every) kept)
      (sym (period_before s j is.plan.site) ∙ sym same)
      ∙ entitled_still s laws before after (Entitles emm) (begins j) (j / plan.site.every)
      (period_of plan (begins j)) lost inside (begins_early j)
      (Cases.last_still plan clear u is before (Entitles emm) after lost (j / plan.site.every) inside
      refl)
      (any_second (entitles plan.site.height u (period_of plan (begins j))) (pre_at s (begins j))
      (tables_before plan (begins j)) some)
      (λ rest front. still rest front some))
      (λ pid placed. Cases.traced_still plan clear u is before (Entitles emm) after lost (λ i. refl)
      (j / plan.site.every) (j / plan.site.every + 1) pid
      (Cases.next_pair plan clear u is before (Entitles emm) after lost j within))
    where
      inside : j / plan.site.every < final s
      inside = number_within s j is.plan.site within

      same : period_of plan (begins j) ≡ period_of plan j
      same = period_begins plan j is.plan.site

      some : list_any (entitles plan.site.height u (period_of plan (begins j))) (tables_before plan (begins j)) ≡ true
      some = tables_entitle plan (begins j) u is.plan is.leaf (begin_is_due plan j)
          (ap (is_revoked_in plan u) same ∙ free)

  -- a section that was sent before costs nothing
  pub again_costs : list_any (is_section_item emm.period emm.index) before ≡ true → (j : ℕ) → j < length clear →
      is_revoked_in plan u (period_of plan j) ≡ false → confirms s kept j ≡ true
  again_costs there j within free =
      confirms_still j within free (λ rest front some. by_test rest front some
      (cases_Bool (entitles plan.site.height u (period_of plan (begins j)) (Entitles emm))))
    where
      p : Item → Bool
      p = entitles plan.site.height u (period_of plan (begins j))

      of : All (IsOfBroadcast plan clear) before × All (IsOfBroadcast plan clear) (Entitles emm ∷ after)
      of = split_all (IsOfBroadcast plan clear) before (Entitles emm ∷ after)
          (subst (All (IsOfBroadcast plan clear)) lost (all_are_of_broadcast plan clear))

      by_test : (rest : List Item) → up_to_tables s (begins j) ≡ before ++ Entitles emm ∷ rest →
          list_any p (tables_before plan (begins j)) ≡ true →
          (p (Entitles emm) ≡ true) ⊎ (p (Entitles emm) ≡ false) → list_any p (before ++ rest) ≡ true
      by_test rest front some (inl does) =
          any_first p before rest (same_again plan clear u (period_of plan (begins j)) emm before of.0
          (All-head (IsOfBroadcast plan clear) (Entitles emm) after of.1) there does)
      by_test rest front some (inr fails) =
          any_without p before rest (Entitles emm) fails
          ∙ (ap (list_any p) (sym front) ∙ any_second p (pre_at s (begins j)) (tables_before plan (begins j)) some)

  -- a section that isn't sent with the tables of a packet's crypto period costs nothing there
  elsewhere_costs : (j : ℕ) → j < length clear → is_revoked_in plan u (period_of plan j) ≡ false →
      (length (pre_at s (begins j)) ≤ length before → length before < length (pre_at s (begins j + 1)) → ⊥) →
      confirms s kept j ≡ true
  elsewhere_costs j within free apart =
      confirms_still j within free (λ rest front some. by_place rest front some
      (first_or_second (pre_at s (begins j)) (tables_before plan (begins j)) before (Entitles emm) rest front))
    where
      p : Item → Bool
      p = entitles plan.site.height u (period_of plan (begins j))

      by_place : (rest : List Item) → up_to_tables s (begins j) ≡ before ++ Entitles emm ∷ rest →
          list_any p (tables_before plan (begins j)) ≡ true →
          IsFirst (pre_at s (begins j)) (tables_before plan (begins j)) before (Entitles emm) rest
          ⊎ IsSecond (pre_at s (begins j)) (tables_before plan (begins j)) before (Entitles emm) rest →
          list_any p (before ++ rest) ≡ true
      by_place rest front some (inl (more, first, last)) =
          any_second p before rest (ap (list_any p) last ∙ any_second p more (tables_before plan (begins j)) some)
      by_place rest front some (inr (more, first, last)) =
          absurd (apart (omega (arith, ap length first, length-append (pre_at s (begins j)) more))
          (omega (
            arith,
            ap length front,
            length-append before (Entitles emm ∷ rest),
            tables_rise s (begins j) is.plan.site (omega (arith, within)),
          )))

  -- where it is sent with packet k, it costs at most that packet's crypto period
  first_costs : (k : ℕ) → IsSentWith s (length before) k → (j : ℕ) → j < length clear →
      is_revoked_in plan u (period_of plan j) ≡ false →
      (j < k / crypto_length plan.site * crypto_length plan.site)
      ⊎ (k / crypto_length plan.site * crypto_length plan.site + crypto_length plan.site ≤ j) → confirms s kept j ≡ true
  first_costs k with j within free apart =
      elsewhere_costs j within free (λ low high. by_order low high (cases_lt (begins j) k) (cases_lt k (begins j)))
    where
      c : ℕ
      c = crypto_length plan.site

      some : 0 < c
      some = crypto_length_some plan.site is.plan.site

      begins_with : begins j ≡ j / c * c
      begins_with = omega (arith, div-add-mod' j c)

      other : (j < k / c * c) ⊎ (k / c * c + c ≤ j) → begins j ≡ k → ⊥
      other far same =
          by_far far (ap (λ (n : ℕ). n / c) (sym same ∙ begins_with) ∙ mul-div_cancel (j / c) some)
        where
          by_far : (j < k / c * c) ⊎ (k / c * c + c ≤ j) → k / c ≡ j / c → ⊥
          by_far (inl early) number =
              omega (arith, early, ap (λ (n : ℕ). n * c) number, div-add-mod' j c)
          by_far (inr late) number =
              omega (arith, late, ap (λ (n : ℕ). n * c) number, div-add-mod' j c, mod-lt j some)

      by_order : length (pre_at s (begins j)) ≤ length before → length before < length (pre_at s (begins j + 1)) →
          (begins j < k) ⊎ (k ≤ begins j) → (k < begins j) ⊎ (begins j ≤ k) → ⊥
      by_order low high (inl early) after = not_later (k - (begins j + 1)) (omega (arith, early))
        where
          not_later : (n : ℕ) → begins j + 1 + n ≡ k → ⊥
          not_later n same = omega (
            arith,
            high,
            with,
            ap (λ (m : ℕ). length (pre_at s m)) same,
            sent_rises s (begins j + 1) n is.plan.site (omega (arith, same, with)),
          )
      by_order low high (inr at) (inl late) = not_earlier (begins j - (k + 1)) (omega (arith, late))
        where
          not_earlier : (n : ℕ) → k + 1 + n ≡ begins j → ⊥
          not_earlier n same = omega (
            arith,
            low,
            with,
            ap (λ (m : ℕ). length (pre_at s m)) same,
            sent_rises s (k + 1) n is.plan.site (omega (arith, same, within)),
          )
      by_order low high (inr at) (inr before_it) = other apart (omega (arith, at, before_it))

  -- where it is sent after all packets, it costs nothing
  last_costs : length (pre_at s (length clear)) ≤ length before → (j : ℕ) → j < length clear →
      is_revoked_in plan u (period_of plan j) ≡ false → confirms s kept j ≡ true
  last_costs last j within free =
      elsewhere_costs j within free (λ low high. never high (length clear - (begins j + 1)) (omega (arith, within)))
    where
      never : length before < length (pre_at s (begins j + 1)) → (n : ℕ) → begins j + 1 + n ≡ length clear → ⊥
      never high n same = omega (
        arith,
        high,
        last,
        ap (λ (m : ℕ). length (pre_at s m)) same,
        sent_rises s (begins j + 1) n is.plan.site (omega (arith, same)),
      )

  -- so it costs a crypto period at most
  pub section_costs : (n : ℕ) × ((j : ℕ) → j < length clear → is_revoked_in plan u (period_of plan j) ≡ false →
      (j < n * crypto_length plan.site) ⊎ (n * crypto_length plan.site + crypto_length plan.site ≤ j) →
      confirms s kept j ≡ true)
  section_costs = by_order (cases_lt (length before) (length (pre_at s (length clear))))
    where
      by_order : (length before < length (pre_at s (length clear)))
          ⊎ (length (pre_at s (length clear)) ≤ length before) →
          (n : ℕ) × ((j : ℕ) → j < length clear → is_revoked_in plan u (period_of plan j) ≡ false →
          (j < n * crypto_length plan.site) ⊎ (n * crypto_length plan.site + crypto_length plan.site ≤ j) →
          confirms s kept j ≡ true)
      by_order (inl sent) =
          let place = sent_with s (length before) (length clear) is.plan.site (omega arith) sent in
          (place.0 / crypto_length plan.site, first_costs place.0 place.1)
      by_order (inr last) = (0, λ j within free apart. last_costs last j within free)
