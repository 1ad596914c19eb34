-- How a broadcast of which packets were lost ends for a receiver.
use Rattle.std.proofs.Common.{◌≡◌, refl, ℕ, zero, suc, ◌+◌, ◌-◌, ◌<◌, ◌||◌, Bool, true, false}
use Rattle.std.proofs.Common.{List, [], ◌∷◌, ◌++◌, length, take, drop, Option, None}
use Rattle.std.proofs.Common.{arith, sym, ap, ◌∙◌, subst, append_assoc}
use Rattle.std.specs.Prelude.{All}
use Rattle.std.specs.List.{list_any}
use Rattle.std.proofs.lemmas.List.Folds.{list_any-append}
use Rattle.sd_base.proofs.Lists.{all_first}
use Rattle.sd_spec.specs.Plan.{period_of, closing_number}
use Rattle.sd_spec.specs.Sent.{Item, Cat, sent, closing_of, item_packet, packets_from}
use Rattle.sd_spec.specs.Sent.{broadcast}
use Rattle.sd_spec.specs.Items.{IsOfBroadcast}
use Rattle.sd_spec.proofs.Items.{all_are_of_broadcast}
use Rattle.sd_spec.proofs.Schedule.{periods_rise}
use Rattle.sd_spec.specs.Tuned.{tuning_of}
use Rattle.sd_spec.specs.Heard.{Heard}
use Rattle.sd_spec.specs.Offered.{heard}
use Rattle.sd_law_losses.specs.Chosen.{chosen}
use Rattle.sd_law_losses.specs.Kept.{after_cat}
use Rattle.sd_law_losses.proofs.Writing.{onto, onto_append, open_upto, Writes, IsOpenUpto}
use Rattle.sd_law_losses.proofs.Setting.{Setting, AreLaws, tuning_at}
use Rattle.sd_law_losses.proofs.Facts.{AreKept, AreHeard}
use Rattle.sd_law_losses.proofs.Hearing.{AreHearable, is_cat_item, heard_from, ComesTo, packets_come, IsTuned}
use Rattle.sd_law_losses.proofs.Remaining.{group_at, rest_at, rest_more, rest_none}
use Rattle.sd_law_losses.proofs.Later.{chosen_append}
use Rattle.sd_law_losses.proofs.Groups.{Goes}
use Rattle.sd_law_losses.proofs.Confirming.{confirmed_in}
use Rattle.sd_law_losses.proofs.Losses.{all_second, packets_chosen}
use Rattle.sd_law_losses.proofs.Untuned.{IsSkipped, packets_skipped, after_none}
use Rattle.sd_law_losses.proofs.Untuned.{sections_at, tail_at}
use Rattle.sd_law_losses.proofs.Tuned.{tuned_goes}
use Rattle.sd_law_losses.proofs.Steps.{Steps, gone_through, here_at, items_of_none}
use Rattle.sd_law_losses.proofs.AnyLoss.{here_goes, taken_tuning, taken_heard, sections_alone}
use Rattle.sd_law_losses.proofs.AnyLoss.{sections_heard}
use Rattle.sd_law_losses.proofs.Ended.{HasEnded, StandsEnded, all_stand, end_stands, sections_then_end}

-- where a receiver stands after what is left
abbrev pub EndsFrom : Setting → List Item → List Item → List Bool → List (List ℕ) → List Item → Type 0
EndsFrom s earlier items fs past kept =
    StandsEnded s (kept ++ chosen fs items) (onto (chosen fs (packets_from s.plan.site earlier items)) past)

-- one group and then the rest
group_stands : (s : Setting) (able : AreHearable s) (k h q m : ℕ) (last : Option ℕ) (fs : List Bool)
    (all group rest earlier kept : List Item) (past : List (List ℕ)) → All (IsOfBroadcast s.plan s.clear)
    (group ++ rest) →
    IsTuned s past →
    (goes : Goes s all k h q m last (kept ++ chosen (take (length group) fs) group) (heard s.card past)
    (heard_from (length past) (chosen (take (length group) fs) group))) →
    (IsTuned s (onto (chosen (take (length group) fs) (packets_from s.plan.site earlier group)) past) →
    AreHeard s h q m goes.next (kept ++ chosen (take (length group) fs) group)
    (heard s.card (onto (chosen (take (length group) fs) (packets_from s.plan.site earlier group)) past)) →
    EndsFrom s (earlier ++ group) rest (drop (length group) fs)
    (onto (chosen (take (length group) fs) (packets_from s.plan.site earlier group)) past)
    (kept ++ chosen (take (length group) fs) group)) →
    EndsFrom s earlier (group ++ rest) fs past kept
group_stands s able k h q m last fs all group rest earlier kept past are tuned goes more =
    subst (λ (items : List Item). StandsEnded s (kept ++ items) (onto (chosen fs (packets_from s.plan.site earlier
    (group ++ rest))) past))
    (sym (chosen_append fs group rest))
    (subst (λ (items : List Item). StandsEnded s items (onto (chosen fs (packets_from s.plan.site earlier
    (group ++ rest))) past))
    (append_assoc kept xs ys)
    (subst (λ (ps : List (List ℕ)). StandsEnded s ((kept ++ xs) ++ ys) ps)
    (sym (ap (λ (ps : List (List ℕ)). onto ps past) (packets_chosen s.plan.site earlier group rest fs)
    ∙ onto_append first others past))
    (more come.tuned (subst (AreHeard s h q m goes.next (kept ++ xs)) (sym come.heard_is) goes.passes.heard_is))))
  where
    xs : List Item
    xs = chosen (take (length group) fs) group

    ys : List Item
    ys = chosen (drop (length group) fs) rest

    first : List (List ℕ)
    first = chosen (take (length group) fs) (packets_from s.plan.site earlier group)

    others : List (List ℕ)
    others = chosen (drop (length group) fs) (packets_from s.plan.site (earlier ++ group) rest)

    come : ComesTo s past first others (heard_from (length past) xs) goes.wrote
    come = packets_come s able group earlier (take (length group) fs) past others goes.wrote
        (all_first (IsOfBroadcast s.plan s.clear) group rest are) tuned
        (open_upto (heard s.card past) (heard_from (length past) xs) goes.passes.heard_is.open_yet) goes.passes.writes

-- from packet k on
pub tuned_ends : (s : Setting) (laws : AreLaws s) (able : AreHearable s) (n k : ℕ) (last : Option ℕ) (fs : List Bool)
    (earlier kept : List Item) (past : List (List ℕ)) → k + n ≡ length s.clear →
    All (IsOfBroadcast s.plan s.clear) (rest_at s k) → IsTuned s past →
    AreKept k (closing_number s.plan.site k) last kept →
    AreHeard s k (period_of s.plan (k - 1)) (closing_number s.plan.site k) last kept (heard s.card past) →
    EndsFrom s earlier (rest_at s k) fs past kept
tuned_ends s laws able zero k last fs earlier kept past count all tuned is are =
    subst (λ (items : List Item). EndsFrom s earlier items fs past kept) (sym ends)
    (end_stands s laws able (period_of s.plan (length s.clear - 1)) last fs earlier kept past
    (subst (All (IsOfBroadcast s.plan s.clear)) ends all) tuned (omega arith)
    (subst (λ (j : ℕ). AreKept j (closing_number s.plan.site j) last kept) here is)
    (subst (λ (j : ℕ). AreHeard s j (period_of s.plan (j - 1)) (closing_number s.plan.site j) last kept
    (heard s.card past)) here are))
  where
    here : k ≡ length s.clear
    here = omega (arith, count)

    ends : rest_at s k ≡ closing_of s.plan s.clear
    ends = ap (rest_at s) here ∙ rest_none s
tuned_ends s laws able (suc n) k last fs earlier kept past count all tuned is are =
    subst (λ (items : List Item). EndsFrom s earlier items fs past kept) (sym parts)
    (group_stands s able k (k + 1) (period_of s.plan k) (closing_number s.plan.site (k + 1)) last fs
    (kept ++ (chosen (take (length (group_at s k)) fs) (group_at s k) ++ chosen (drop (length (group_at s k)) fs)
    (rest_at s (k + 1))))
    (group_at s k) (rest_at s (k + 1)) earlier kept past all_parts tuned goes
    (λ tuned_then heard_then. tuned_ends s laws able n (k + 1) goes.next (drop (length (group_at s k)) fs)
    (earlier ++ group_at s k) (kept ++ chosen (take (length (group_at s k)) fs) (group_at s k))
    (onto (chosen (take (length (group_at s k)) fs) (packets_from s.plan.site earlier (group_at s k))) past)
    (omega (arith, count)) (all_second (IsOfBroadcast s.plan s.clear) (group_at s k) (rest_at s (k + 1)) all_parts)
    tuned_then goes.passes.kept_is
    (subst (λ (j : ℕ). AreHeard s (k + 1) (period_of s.plan j) (closing_number s.plan.site (k + 1)) goes.next
    (kept ++ chosen (take (length (group_at s k)) fs) (group_at s k))
    (heard s.card (onto (chosen (take (length (group_at s k)) fs) (packets_from s.plan.site earlier
    (group_at s k))) past)))
    (omega arith) heard_then)))
  where
    within : k < length s.clear
    within = omega (arith, count)

    parts : rest_at s k ≡ group_at s k ++ rest_at s (k + 1)
    parts = rest_more s k laws.range within

    all_parts : All (IsOfBroadcast s.plan s.clear) (group_at s k ++ rest_at s (k + 1))
    all_parts = subst (All (IsOfBroadcast s.plan s.clear)) parts all

    goes : Goes s (kept ++ (chosen (take (length (group_at s k)) fs) (group_at s k) ++ chosen (drop (length
        (group_at s k)) fs) (rest_at s (k + 1))))
        k (k + 1) (period_of s.plan k) (closing_number s.plan.site (k + 1)) last
        (kept ++ chosen (take (length (group_at s k)) fs) (group_at s k)) (heard s.card past)
        (heard_from (length past) (chosen (take (length (group_at s k)) fs) (group_at s k)))
    goes = tuned_goes s laws n k last fs kept past count is are

-- how it ends where no CAT was taken yet: untuned where none is kept
abbrev pub EndsBefore : Setting → Bool → List Item → List (List ℕ) → Type 0
EndsBefore s true kept past = StandsEnded s (after_cat kept) past
EndsBefore s false kept past = tuning_of s.card.ca past ≡ None

abbrev pub EndsUntuned : Setting → List Item → List Item → List Bool → List (List ℕ) → Type 0
EndsUntuned s earlier items fs past =
    EndsBefore s (list_any is_cat_item (chosen fs items)) (chosen fs items) (onto (chosen fs
    (packets_from s.plan.site earlier items)) past)

without_cat : (s : Setting) (able : AreHearable s) (items earlier : List Item) (fs : List Bool) (past : List (List ℕ)) →
    All (IsOfBroadcast s.plan s.clear) items → tuning_of s.card.ca past ≡ None →
    list_any is_cat_item (chosen fs items) ≡ false → EndsUntuned s earlier items fs past
without_cat s able items earlier fs past all none no_cat =
    rw no_cat ((packets_skipped s able items earlier fs past [] all none no_cat).untuned)

skipped_first : (s : Setting) (able : AreHearable s) (group rest earlier : List Item) (fs : List Bool) (past : List
    (List ℕ)) →
    All (IsOfBroadcast s.plan s.clear) (group ++ rest) → tuning_of s.card.ca past ≡ None →
    list_any is_cat_item (chosen (take (length group) fs) group) ≡ false →
    (tuning_of s.card.ca (onto (chosen (take (length group) fs) (packets_from s.plan.site earlier group)) past) ≡ None →
    EndsUntuned s (earlier ++ group) rest (drop (length group) fs)
    (onto (chosen (take (length group) fs) (packets_from s.plan.site earlier group)) past)) →
    EndsUntuned s earlier (group ++ rest) fs past
skipped_first s able group rest earlier fs past all none no_cat more =
    subst (λ (items : List Item). EndsBefore s (list_any is_cat_item items) items (onto (chosen fs
    (packets_from s.plan.site earlier (group ++ rest))) past))
    (sym (chosen_append fs group rest))
    (subst (λ (ps : List (List ℕ)). EndsBefore s (list_any is_cat_item (xs ++ ys)) (xs ++ ys) ps)
    (sym (ap (λ (ps : List (List ℕ)). onto ps past) (packets_chosen s.plan.site earlier group rest fs)
    ∙ onto_append first others past))
    (subst (λ (b : Bool). EndsBefore s b (xs ++ ys) (onto others (onto first past)))
    (sym (list_any-append is_cat_item xs ys ∙ ap (λ (b : Bool). b || list_any is_cat_item ys) no_cat))
    (by_cat (list_any is_cat_item ys) (more skipped.untuned))))
  where
    xs : List Item
    xs = chosen (take (length group) fs) group

    ys : List Item
    ys = chosen (drop (length group) fs) rest

    first : List (List ℕ)
    first = chosen (take (length group) fs) (packets_from s.plan.site earlier group)

    others : List (List ℕ)
    others = chosen (drop (length group) fs) (packets_from s.plan.site (earlier ++ group) rest)

    skipped : IsSkipped s past first others
    skipped = packets_skipped s able group earlier (take (length group) fs) past others
        (all_first (IsOfBroadcast s.plan s.clear) group rest all) none no_cat

    by_cat : (b : Bool) → EndsBefore s b ys (onto others (onto first past)) → EndsBefore s b (xs ++ ys) (onto others
        (onto first past))
    by_cat true ends = subst (λ (kept : List Item). StandsEnded s kept (onto others (onto first past))) (sym
        (after_none xs ys no_cat)) ends
    by_cat false ends = ends

cat_taken : (s : Setting) (able : AreHearable s) (items earlier : List Item) (fs : List Bool) (past : List (List ℕ)) →
    tuning_of s.card.ca past ≡ None →
    (IsTuned s (item_packet s.plan.site earlier Cat ∷ past) →
    heard s.card (item_packet s.plan.site earlier Cat ∷ past) ≡ [] →
    EndsFrom s (earlier ++ Cat ∷ []) items fs (item_packet s.plan.site earlier Cat ∷ past) []) →
    EndsUntuned s earlier (Cat ∷ items) (true ∷ fs) past
unfolding chosen packets_from after_cat
cat_taken s able items earlier fs past none more =
    more (taken_tuning s able earlier past none) (taken_heard s.card (item_packet s.plan.site earlier Cat) past none)

-- the CAT before packet k is kept
cat_here : (s : Setting) (laws : AreLaws s) (able : AreHearable s) (n k : ℕ) (fs : List Bool) (earlier : List Item)
    (past : List (List ℕ)) → k + suc n ≡ length s.clear →
    All (IsOfBroadcast s.plan s.clear) ((sections_at s (period_of s.plan k) ++ tail_at s k) ++ rest_at s (k + 1)) →
    IsTuned s past → heard s.card past ≡ [] →
    EndsFrom s earlier ((sections_at s (period_of s.plan k) ++ tail_at s k) ++ rest_at s (k + 1)) fs past []
cat_here s laws able n k fs earlier past count all tuned none =
    group_stands s able k (k + 1) (period_of s.plan k) (closing_number s.plan.site (k + 1)) None fs
    ([] ++ (chosen (take (length group) fs) group ++ chosen (drop (length group) fs) (rest_at s (k + 1))))
    group (rest_at s (k + 1)) earlier [] past all tuned goes
    (λ tuned_then heard_then. tuned_ends s laws able n (k + 1) goes.next (drop (length group) fs) (earlier ++ group)
    ([] ++ chosen (take (length group) fs) group) (onto (chosen (take (length group) fs)
    (packets_from s.plan.site earlier group)) past)
    (omega (arith, count)) (all_second (IsOfBroadcast s.plan s.clear) group (rest_at s
    (k + 1)) all) tuned_then goes.passes.kept_is
    (subst (λ (j : ℕ). AreHeard s (k + 1) (period_of s.plan j) (closing_number s.plan.site (k + 1)) goes.next
    (chosen (take (length group) fs) group)
    (heard s.card (onto (chosen (take (length group) fs) (packets_from s.plan.site earlier group)) past)))
    (omega arith) heard_then))
  where
    within : k < length s.clear
    within = omega (arith, count)

    group : List Item
    group = here_at s k

    goes : Goes s ([] ++ (chosen (take (length group) fs) group ++ chosen (drop (length group) fs) (rest_at s
        (k + 1)))) k (k + 1)
        (period_of s.plan k) (closing_number s.plan.site (k + 1)) None ([] ++ chosen (take (length group) fs) group)
        (heard s.card past)
        (heard_from (length past) (chosen (take (length group) fs) group))
    goes = here_goes s laws n k fs past count none

-- the CAT of a broadcast without a packet is kept
sections_ends : (s : Setting) (laws : AreLaws s) (able : AreHearable s) (fs : List Bool) (earlier : List Item)
    (past : List (List ℕ)) → length s.clear ≡ 0 → All (IsOfBroadcast s.plan s.clear) (items_of_none s) →
    IsTuned s past → heard s.card past ≡ [] → EndsFrom s earlier
    (items_of_none s) fs past []
sections_ends s laws able fs earlier past empty all tuned none =
    all_stand s able (items_of_none s) earlier [] fs past (confirmed_in s (chosen fs (items_of_none s)) 0
    (length s.clear)) all tuned
    (subst (λ (hs : List Heard). IsOpenUpto hs (heard_from (length past) (chosen fs (items_of_none s)))) (sym none)
    (sections_heard s laws (length past) fs empty).0)
    (subst (λ (hs : List Heard). Writes s.card (tuning_at s) hs (heard_from (length past) (chosen fs (items_of_none s)))
    (confirmed_in s (chosen fs (items_of_none s)) 0 (length s.clear))) (sym none) (sections_heard s laws
    (length past) fs empty).1)
    (subst (λ (hs : List Heard). HasEnded s (chosen fs (items_of_none s)) (onto (heard_from (length past) (chosen fs
    (items_of_none s))) hs))
    (sym none) (sections_then_end s laws (length s.clear) (period_of s.plan 0) (period_of s.plan 0)
    (length past) None fs
    (sections_at s (period_of s.plan 0)) [] [] (periods_rise s.plan 0 (length s.clear - 1) laws.range (omega arith))
    (sections_alone s laws (length past) fs)))

-- how it ends, step by step
before_cat : (s : Setting) (laws : AreLaws s) (able : AreHearable s) → Steps s (EndsUntuned s)
before_cat s laws able = record {
  without = without_cat s able;
  skipped = skipped_first s able;
  ended = λ fs earlier past empty all none. cat_taken s able (items_of_none s) earlier fs past none
      (sections_ends s laws able fs (earlier ++ Cat ∷ []) (item_packet s.plan.site earlier Cat ∷ past) empty all);
  taken = λ n k fs earlier past count due all none. cat_taken s able (here_at s k ++ rest_at s (k + 1)) earlier fs past
      none (cat_here s laws able n k fs (earlier ++ Cat ∷ []) (item_packet s.plan.site earlier Cat ∷ past) count all);
}

-- Where a receiver stands after a broadcast, whatever is lost of it.
pub losses_stand : (s : Setting) → AreLaws s → AreHearable s → (fs : List Bool) →
    EndsBefore s (list_any is_cat_item (chosen fs (sent s.plan s.clear ++ closing_of s.plan s.clear)))
    (chosen fs (sent s.plan s.clear ++ closing_of s.plan s.clear)) (onto (chosen fs (broadcast s.plan s.clear)) [])
unfolding broadcast tuning_of
losses_stand s laws able fs =
    gone_through s laws (EndsUntuned s) (before_cat s laws able) (length s.clear) 0 (omega arith)
    (all_are_of_broadcast s.plan s.clear) fs [] [] refl
