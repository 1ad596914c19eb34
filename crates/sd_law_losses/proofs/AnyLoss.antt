-- Whatever is lost of a broadcast, a receiver refuses nothing and writes exactly what is confirmed.
use Rattle.std.proofs.Common.{◌≡◌, refl, ℕ, suc, ◌+◌, ◌-◌, ◌%◌, ◌<◌, ◌==◌, Bool, true, false}
use Rattle.std.proofs.Common.{List, [], ◌∷◌, ◌++◌, map, filter, length, take, drop, Option, Some, None, is_none}
use Rattle.std.proofs.Common.{if◌then◌else◌}
use Rattle.std.proofs.Common.{arith, sym, ap, ◌∙◌, subst, append_assoc, append-nil}
use Rattle.std.specs.Prelude.{All}
use Rattle.std.specs.List.{list_any, range_with_len}
use Rattle.std.specs.Option.{option_map_or}
use Rattle.std.proofs.lemmas.List.Elements.{All-nil, All-contains_itself}
use Rattle.sd_base.proofs.Lists.{all_first}
use Rattle.sd_site_cards.specs.SiteFields.{run_name_of as site_name}
use Rattle.sd_message.specs.Period.{emms_of}
use Rattle.sd_message.specs.EcmParts.{parts_of}
use Rattle.sd_spec.specs.Plan.{crypto_length, period_of, closing_number}
use Rattle.sd_spec.specs.Messages.{period_at}
use Rattle.sd_spec.specs.Sent.{Item, Cat, Controls, sent, closing_of, item_packet, packets_from}
use Rattle.sd_spec.specs.Sent.{broadcast}
use Rattle.sd_spec.specs.Items.{IsOfBroadcast}
use Rattle.sd_spec.proofs.Items.{all_are_of_broadcast}
use Rattle.sd_spec.specs.Tuned.{tuning_of, tuned_by}
use Rattle.sd_psi.specs.OurCat.{cat_tuning}
use Rattle.sd_psi.specs.declared.our_cat.Tuning.{Tuning}
use Rattle.sd_spec.specs.Heard.{Heard}
use Rattle.sd_spec.specs.Offered.{Offering, heard, heard_with, offered, out_from, break_from, no_offering}
use Rattle.sd_spec.proofs.Runs.{never_turns}
use Rattle.sd_law_losses.specs.Chosen.{chosen}
use Rattle.sd_law_losses.specs.Kept.{is_carried, has_arrived, after_cat}
use Rattle.sd_law_losses.specs.Confirmed.{confirmed, packets_at}
use Rattle.sd_site_cards.specs.CardFields.{CardFields}
use Rattle.sd_law_losses.proofs.Completing.{IsLater}
use Rattle.sd_law_losses.proofs.Writing.{onto, Writes, writes_append, IsOpenUpto, open_upto, open_append}
use Rattle.sd_law_losses.proofs.Arriving.{is_of}
use Rattle.sd_law_losses.proofs.Setting.{Setting, AreLaws, tuning_at, final, told_by}
use Rattle.sd_law_losses.proofs.Facts.{AreHeard, Passes}
use Rattle.sd_law_losses.proofs.Hearing.{AreHearable, heard_from, heard_append, is_cat_item, IsTuned}
use Rattle.sd_law_losses.proofs.Remaining.{rest_at}
use Rattle.sd_law_losses.proofs.Later.{chosen_append, chosen_fails, numbers_later, packets_later}
use Rattle.sd_law_losses.proofs.Confirming.{confirms, confirmed_in}
use Rattle.sd_law_losses.proofs.Groups.{Goes, goes_after, sections_pass, tail_goes}
use Rattle.sd_law_losses.proofs.Writings.{rest_unconfirmed}
use Rattle.sd_law_losses.proofs.Losses.{all_second, packets_chosen, AreWritten, nothing_more, written_all}
use Rattle.sd_law_losses.proofs.Losses.{closing_written}
use Rattle.sd_law_losses.proofs.Tuned.{IsWrittenFrom, group_written, tuned_written}
use Rattle.sd_law_losses.proofs.OneRun.{IsOfRun}
use Rattle.sd_law_losses.proofs.Untuned.{IsSkipped, packets_skipped, offered_none, untuned_heard, untuned_one_run}
use Rattle.sd_law_losses.proofs.Untuned.{after_none}
use Rattle.sd_law_losses.proofs.Untuned.{after_no_cat}
use Rattle.sd_law_losses.proofs.Untuned.{sections_at, tail_at, due_rest, kept_start}
use Rattle.sd_law_losses.proofs.Untuned.{heard_start}
use Rattle.sd_law_losses.proofs.Steps.{Steps, gone_through, here_at, items_of_none}

-- what is written of what is left, where no CAT was taken
abbrev pub IsWrittenBefore : Setting → List Item → List Item → List Bool → List (List ℕ) → Type 0
IsWrittenBefore s earlier items fs past =
    AreWritten s past (chosen fs (packets_from s.plan.site earlier items))
    (confirmed_in s (after_cat (chosen fs items)) 0 (length s.clear))

-- of things of which none is kept after a CAT nothing is confirmed
nothing_confirmed : (s : Setting) (laws : AreLaws s) → confirmed_in s [] 0 (length s.clear) ≡ []
unfolding has_arrived
nothing_confirmed s laws = rest_unconfirmed s [] 0 None laws.range (λ b. refl)

-- where no CAT is kept
without_cat : (s : Setting) (laws : AreLaws s) (able : AreHearable s) (items earlier : List Item) (fs : List Bool)
    (past : List (List ℕ)) → All (IsOfBroadcast s.plan s.clear) items → tuning_of s.card.ca past ≡ None →
    list_any is_cat_item (chosen fs items) ≡ false → IsWrittenBefore s earlier items fs past
without_cat s laws able items earlier fs past all none no_cat =
    subst (AreWritten s past packets)
    (sym (ap (λ (kept : List Item). confirmed_in s kept 0 (length s.clear)) (after_no_cat (chosen fs items) no_cat)
    ∙ nothing_confirmed s laws))
    (subst (λ (ps : List (List ℕ)). AreWritten s past ps []) (append-nil packets) (record {
      out = skipped.out ∙ (nothing_more s (onto packets past)).out;
      none = skipped.breaks ∙ (nothing_more s (onto packets past)).none;
    }))
  where
    packets : List (List ℕ)
    packets = chosen fs (packets_from s.plan.site earlier items)

    skipped : IsSkipped s past packets []
    skipped = packets_skipped s able items earlier fs past [] all none no_cat

-- things of which no CAT is kept, and then others
skipped_first : (s : Setting) (able : AreHearable s) (group rest earlier : List Item) (fs : List Bool) (past : List
    (List ℕ)) →
    All (IsOfBroadcast s.plan s.clear) (group ++ rest) → tuning_of s.card.ca past ≡ None →
    list_any is_cat_item (chosen (take (length group) fs) group) ≡ false →
    (tuning_of s.card.ca (onto (chosen (take (length group) fs) (packets_from s.plan.site earlier group)) past) ≡ None →
    IsWrittenBefore s (earlier ++ group) rest (drop (length group) fs)
    (onto (chosen (take (length group) fs) (packets_from s.plan.site earlier group)) past)) →
    IsWrittenBefore s earlier (group ++ rest) fs past
skipped_first s able group rest earlier fs past all none no_cat more =
    subst (λ (ps : List (List ℕ)). AreWritten s past ps (confirmed_in s (after_cat (chosen fs (group ++ rest))) 0
    (length s.clear)))
    (sym (packets_chosen s.plan.site earlier group rest fs))
    (subst (AreWritten s past (first ++ others))
    (ap (λ (kept : List Item). confirmed_in s kept 0 (length s.clear))
    (sym (ap after_cat (chosen_append fs group rest)
    ∙ after_none (chosen (take (length group) fs) group) (chosen (drop (length group) fs) rest) no_cat)))
    (record { out = skipped.out ∙ after.out; none = skipped.breaks ∙ after.none }))
  where
    first : List (List ℕ)
    first = chosen (take (length group) fs) (packets_from s.plan.site earlier group)

    others : List (List ℕ)
    others = chosen (drop (length group) fs) (packets_from s.plan.site (earlier ++ group) rest)

    skipped : IsSkipped s past first others
    skipped = packets_skipped s able group earlier (take (length group) fs) past others
        (all_first (IsOfBroadcast s.plan s.clear) group rest all) none no_cat

    after : AreWritten s (onto first past) others (confirmed_in s (after_cat (chosen (drop
        (length group) fs) rest)) 0 (length s.clear))
    after = more skipped.untuned

-- where no CAT was taken, nothing of the first one that is kept is heard
pub taken_heard : (card : CardFields) (packet : List ℕ) (past : List (List ℕ)) → tuning_of card.ca past ≡ None →
    heard card (packet ∷ past) ≡ []
unfolding heard
taken_heard card packet past none =
    ap (λ (t : Option Tuning). heard_with card t (length past) packet (heard card past)) none
    ∙ untuned_heard card past none

cat_tunes : (s : Setting) (able : AreHearable s) (earlier : List Item) (past : List (List ℕ)) →
    tuning_of s.card.ca past ≡ None →
    tuning_of s.card.ca (item_packet s.plan.site earlier Cat ∷ past) ≡ Some (tuning_at s)
unfolding tuning_of
cat_tunes s able earlier past none =
    ap (λ (t : Option Tuning). tuned_by t (cat_tuning s.card.ca (item_packet s.plan.site earlier Cat))) none
    ∙ able.tuning earlier

-- a CAT that is kept is taken, and what is written then
pub taken_tuning : (s : Setting) (able : AreHearable s) (earlier : List Item) (past : List (List ℕ)) →
    tuning_of s.card.ca past ≡ None → IsTuned s (item_packet s.plan.site earlier Cat ∷ past)
taken_tuning s able earlier past none = record {
  tuning = cat_tunes s able earlier past none;
  named = subst (All named) (sym (taken_heard s.card (item_packet s.plan.site earlier Cat) past none)) (All-nil named);
  one = (
    never_turns s.card past (item_packet s.plan.site earlier Cat) none,
    untuned_one_run s.card past none,
  );
}
  where
    named : Heard → Type 0
    named = IsOfRun (site_name s.plan.site)

one_skipped : (s : Setting) (past packets wrote : List (List ℕ)) (packet : List ℕ) →
    offered s.card past packet ≡ no_offering →
    AreWritten s (packet ∷ past) packets wrote → AreWritten s past (packet ∷ packets) wrote
unfolding out_from break_from
one_skipped s past packets wrote packet is rest = record {
  out = ap (λ (o : Offering). o.wrote ++ (if is_none o.fault then out_from s.card
      (packet ∷ past) packets else [])) is ∙ rest.out;
  none = ap (λ (o : Offering). option_map_or Some o.fault (break_from s.card (packet ∷ past) packets)) is ∙ rest.none;
}

cat_taken : (s : Setting) (able : AreHearable s) (items earlier : List Item) (fs : List Bool) (past : List (List ℕ)) →
    tuning_of s.card.ca past ≡ None →
    (IsTuned s (item_packet s.plan.site earlier Cat ∷ past) →
    heard s.card (item_packet s.plan.site earlier Cat ∷ past) ≡ [] →
    IsWrittenFrom s (earlier ++ Cat ∷ []) items fs (item_packet s.plan.site earlier Cat ∷ past) None []) →
    IsWrittenBefore s earlier (Cat ∷ items) (true ∷ fs) past
unfolding chosen packets_from after_cat
cat_taken s able items earlier fs past none more =
    one_skipped s past (chosen fs (packets_from s.plan.site (earlier ++ Cat ∷ []) items))
    (confirmed_in s (chosen fs items) 0 (length s.clear)) (item_packet s.plan.site earlier Cat)
    (offered_none s.card past (item_packet s.plan.site earlier Cat) none)
    (more (taken_tuning s able earlier past none) (taken_heard s.card (item_packet s.plan.site earlier Cat) past none))

-- after the CAT before packet k
pub after_cat_goes : (s : Setting) (laws : AreLaws s) (k i : ℕ) (fs : List Bool) (later : List Item) →
    k < length s.clear →
    IsLater (k + 1) later →
    Goes s ([] ++ (chosen fs (sections_at s (period_of s.plan k) ++ tail_at s k) ++ later)) k (k + 1)
    (period_of s.plan k)
    (closing_number s.plan.site (k + 1)) None ([] ++ chosen fs (sections_at s (period_of s.plan k) ++ tail_at s k)) []
    (heard_from i (chosen fs (sections_at s (period_of s.plan k) ++ tail_at s k)))
after_cat_goes s laws k i fs later within is =
    subst (λ (items : List Item). Goes s ([] ++ (items ++ later)) k (k + 1) (period_of s.plan k)
    (closing_number s.plan.site (k + 1)) None ([] ++ items) [] (heard_from i items))
    (sym (chosen_append fs (sections_at s q) (tail_at s k)))
    (subst (λ (hs : List Heard). Goes s ([] ++ ((xs ++ ys) ++ later)) k (k + 1) q (closing_number s.plan.site
    (k + 1)) None (xs ++ ys) [] hs)
    (sym (heard_append i xs ys))
    (goes_after s ((xs ++ ys) ++ later) k k (k + 1) q q (closing_number s.plan.site k) (closing_number s.plan.site
    (k + 1)) None
    xs (xs ++ ys) [] (heard_from i xs) (heard_from (length xs + i) ys) first
    (subst (λ (all : List Item). Goes s all k (k + 1) q (closing_number s.plan.site (k + 1)) None (xs ++ ys)
    (onto (heard_from i xs) []) (heard_from (length xs + i) ys)) (sym (append_assoc xs ys later))
    (tail_goes s laws k (length xs + i) None (drop (length (sections_at s q)) fs) xs later (onto
    (heard_from i xs) []) within is
    first.kept_is first.heard_is))))
  where
    q : ℕ
    q = period_of s.plan k

    xs : List Item
    xs = chosen (take (length (sections_at s q)) fs) (sections_at s q)

    ys : List Item
    ys = chosen (drop (length (sections_at s q)) fs) (tail_at s k)

    first : Passes s k q (closing_number s.plan.site k) None xs [] (heard_from i xs) []
    first = sections_pass s laws k q (closing_number s.plan.site k) i None (emms_of (period_at s.plan q))
        (take (length (sections_at s q)) fs) [] [] (All-contains_itself (emms_of (period_at s.plan q)))
        (kept_start k (closing_number s.plan.site k)) (heard_start s k q (closing_number s.plan.site k))

-- what stands before packet k, without the CAT

-- what arrives of it, and of what comes after it
abbrev pub came_here : Setting → ℕ → List Bool → List Item
came_here s k fs = chosen (take (length (here_at s k)) fs) (here_at s k)

abbrev pub came_later : Setting → ℕ → List Bool → List Item
came_later s k fs = chosen (drop (length (here_at s k)) fs) (rest_at s (k + 1))

-- after the CAT before packet k that goes first
pub here_goes : (s : Setting) (laws : AreLaws s) (n k : ℕ) (fs : List Bool) (past : List (List ℕ)) →
    k + suc n ≡ length s.clear → heard s.card past ≡ [] →
    Goes s ([] ++ (came_here s k fs ++ came_later s k fs)) k (k + 1) (period_of s.plan k)
    (closing_number s.plan.site (k + 1)) None ([] ++ came_here s k fs) (heard s.card past)
    (heard_from (length past) (came_here s k fs))
here_goes s laws n k fs past count none =
    subst (λ (hs : List Heard). Goes s ([] ++ (came_here s k fs ++ came_later s k fs)) k (k + 1) (period_of s.plan k)
    (closing_number s.plan.site (k + 1)) None ([] ++ came_here s k fs) hs (heard_from (length past) (came_here s k fs)))
    (sym none)
    (after_cat_goes s laws k (length past) (take (length (here_at s k)) fs) (came_later s k fs) within
    (λ j below. chosen_fails (is_carried j) (drop (length (here_at s k)) fs) (rest_at s (k + 1))
    (packets_later s laws n (k + 1) j (omega (arith, count)) below)))
  where
    within : k < length s.clear
    within = omega (arith, count)

-- the CAT before packet k is kept
cat_here : (s : Setting) (laws : AreLaws s) (able : AreHearable s) (n k : ℕ) (fs : List Bool) (earlier : List Item)
    (past : List (List ℕ)) → k + suc n ≡ length s.clear → (k % crypto_length s.plan.site == 0) ≡ true →
    All (IsOfBroadcast s.plan s.clear) ((sections_at s (period_of s.plan k) ++ tail_at s k) ++ rest_at s (k + 1)) →
    IsTuned s past → heard s.card past ≡ [] →
    IsWrittenFrom s earlier ((sections_at s (period_of s.plan k) ++ tail_at s k) ++ rest_at s (k + 1)) fs past None []
cat_here s laws able n k fs earlier past count due all tuned none =
    group_written s laws able k (period_of s.plan k) (period_of s.plan k) (closing_number s.plan.site k)
    (closing_number s.plan.site (k + 1)) None fs group (rest_at s (k + 1)) earlier [] past within refl refl
    (omega arith) all tuned
    (kept_start k (closing_number s.plan.site k)).last_is
    (λ b below. ap (list_any (is_of b)) (sym (due_rest s k laws.range within due)) ∙ numbers_later s laws
    (suc n) k b count below)
    (λ b below. numbers_later s laws n (k + 1) b (omega (arith, count)) below)
    goes
    (λ tuned_then heard_then. tuned_written s laws able n (k + 1) goes.next (drop (length group) fs) (earlier ++ group)
    ([] ++ chosen (take (length group) fs) group) (onto (chosen (take (length group) fs)
    (packets_from s.plan.site earlier group)) past)
    (omega (arith, count)) (all_second (IsOfBroadcast s.plan s.clear) group (rest_at s
    (k + 1)) all) tuned_then goes.passes.kept_is
    (subst (λ (j : ℕ). AreHeard s (k + 1) (period_of s.plan j) (closing_number s.plan.site (k + 1)) goes.next
    (chosen (take (length group) fs) group)
    (heard s.card (onto (chosen (take (length group) fs) (packets_from s.plan.site earlier group)) past)))
    (omega arith) heard_then))
  where
    within : k < length s.clear
    within = omega (arith, count)

    group : List Item
    group = here_at s k

    goes : Goes s ([] ++ (chosen (take (length group) fs) group ++ chosen (drop (length group) fs) (rest_at s
        (k + 1)))) k (k + 1)
        (period_of s.plan k) (closing_number s.plan.site (k + 1)) None ([] ++ chosen (take (length group) fs) group)
        (heard s.card past)
        (heard_from (length past) (chosen (take (length group) fs) group))
    goes = here_goes s laws n k fs past count none

pub sections_alone : (s : Setting) (laws : AreLaws s) (i : ℕ) (fs : List Bool) →
    Passes s (length s.clear) (period_of s.plan 0) (final s) None
    ([] ++ chosen (take (length (sections_at s (period_of s.plan 0))) fs) (sections_at s (period_of s.plan 0))) []
    (heard_from i (chosen (take (length (sections_at s (period_of s.plan 0))) fs) (sections_at s
    (period_of s.plan 0)))) []
sections_alone s laws i fs =
    sections_pass s laws (length s.clear) q (final s) i None (emms_of (period_at s.plan q))
    (take (length (sections_at s q)) fs) [] [] (All-contains_itself (emms_of (period_at s.plan q)))
    (kept_start (length s.clear) (final s)) (heard_start s (length s.clear) q (final s))
  where
    q : ℕ
    q = period_of s.plan 0

pub sections_heard : (s : Setting) (laws : AreLaws s) (i : ℕ) (fs : List Bool) → length s.clear ≡ 0 →
    IsOpenUpto [] (heard_from i (chosen fs (items_of_none s)))
    × Writes s.card (tuning_at s) [] (heard_from i (chosen fs (items_of_none s)))
    (confirmed_in s (chosen fs (items_of_none s)) 0 (length s.clear))
sections_heard s laws i fs empty =
    subst (λ (items : List Item). IsOpenUpto [] (heard_from i items)
    × Writes s.card (tuning_at s) [] (heard_from i items) (confirmed_in s items 0 (length s.clear)))
    (sym (chosen_append fs (sections_at s q) (map Controls (parts_of (told_by s (final s))))))
    (subst (λ (hs : List Heard). IsOpenUpto [] hs × Writes s.card (tuning_at s) [] hs (confirmed_in s (xs ++ ys) 0
    (length s.clear)))
    (sym (heard_append i xs ys)) (
      open_append [] (heard_from i xs) (heard_from (length xs + i) ys)
          (open_upto [] (heard_from i xs) first.heard_is.open_yet) then_is.0,
      writes_append s.card (tuning_at s) [] (heard_from i xs) (heard_from (length xs + i) ys) []
          (confirmed_in s (xs ++ ys) 0 (length s.clear)) first.writes then_is.1,
    ))
  where
    q : ℕ
    q = period_of s.plan 0

    xs : List Item
    xs = chosen (take (length (sections_at s q)) fs) (sections_at s q)

    ys : List Item
    ys = chosen (drop (length (sections_at s q)) fs) (map Controls (parts_of (told_by s (final s))))

    first : Passes s (length s.clear) q (final s) None xs [] (heard_from i xs) []
    first = sections_alone s laws i fs

    first_period : length s.clear - 1 ≡ 0
    first_period = omega (arith, empty)

    then_is : IsOpenUpto (onto (heard_from i xs) []) (heard_from (length xs + i) ys)
        × Writes s.card (tuning_at s) (onto (heard_from i xs) []) (heard_from (length xs + i) ys)
        (confirmed_in s (xs ++ ys) 0 (length s.clear))
    then_is = closing_written s laws q (length xs + i) None (drop (length (sections_at s q)) fs) xs (onto
        (heard_from i xs) [])
        (omega (arith, ap (period_of s.plan) first_period)) first.kept_is first.heard_is

-- the CAT of a broadcast without a packet is kept
sections_end : (s : Setting) (laws : AreLaws s) (able : AreHearable s) (fs : List Bool) (earlier : List Item)
    (past : List (List ℕ)) → length s.clear ≡ 0 → All (IsOfBroadcast s.plan s.clear) (items_of_none s) →
    IsTuned s past → heard s.card past ≡ [] →
    IsWrittenFrom s earlier (items_of_none s) fs past None []
sections_end s laws able fs earlier past empty all tuned none =
    written_all s able (items_of_none s) earlier fs past (confirmed_in s (chosen fs (items_of_none s)) 0
    (length s.clear)) all tuned
    (subst (λ (hs : List Heard). IsOpenUpto hs (heard_from (length past) (chosen fs (items_of_none s)))) (sym none)
    (sections_heard s laws (length past) fs empty).0)
    (subst (λ (hs : List Heard). Writes s.card (tuning_at s) hs (heard_from (length past) (chosen fs (items_of_none s)))
    (confirmed_in s (chosen fs (items_of_none s)) 0 (length s.clear))) (sym none) (sections_heard s laws
    (length past) fs empty).1)

-- what is written, step by step
before_cat : (s : Setting) (laws : AreLaws s) (able : AreHearable s) → Steps s (IsWrittenBefore s)
before_cat s laws able = record {
  without = without_cat s laws able;
  skipped = skipped_first s able;
  ended = λ fs earlier past empty all none. cat_taken s able (items_of_none s) earlier fs past none
      (sections_end s laws able fs (earlier ++ Cat ∷ []) (item_packet s.plan.site earlier Cat ∷ past) empty all);
  taken = λ n k fs earlier past count due all none. cat_taken s able (here_at s k ++ rest_at s (k + 1)) earlier fs past
      none (cat_here s laws able n k fs (earlier ++ Cat ∷ []) (item_packet s.plan.site earlier Cat ∷ past) count due
      all);
}

-- Whatever is lost of a broadcast, a receiver refuses nothing and writes exactly what is confirmed.
pub losses_are_confirmed : (s : Setting) → AreLaws s → AreHearable s → (fs : List Bool) →
    AreWritten s [] (chosen fs (broadcast s.plan s.clear))
    (confirmed s.plan s.card.leaf s.clear (chosen fs (sent s.plan s.clear ++ closing_of s.plan s.clear)))
unfolding broadcast confirmed tuning_of
losses_are_confirmed s laws able fs =
    subst (λ (n : ℕ). AreWritten s [] (chosen fs (broadcast s.plan s.clear))
    (packets_at s.clear (filter (confirms s (after_cat (chosen fs (sent s.plan s.clear ++ closing_of s.plan
    s.clear)))) (range_with_len 0 n))))
    all (gone_through s laws (IsWrittenBefore s) (before_cat s laws able) (length s.clear) 0 (omega arith)
    (all_are_of_broadcast s.plan s.clear) fs [] [] refl)
  where
    all : length s.clear - 0 ≡ length s.clear
    all = omega arith
