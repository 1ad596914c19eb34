-- A receiver that has not yet taken the CAT of a broadcast.
use Rattle.std.proofs.Common.{◌≡◌, refl, ℕ, ◌+◌, ◌-◌, ◌/◌, ◌%◌, ◌<◌, ◌==◌, ◌||◌, Bool, true, false}
use Rattle.std.proofs.Common.{List, [], ◌∷◌, ◌++◌, map, filter, reverse, length, Option, Some, None, is_none}
use Rattle.std.proofs.Common.{if◌then◌else◌}
use Rattle.std.proofs.Common.{arith, sym, ap, ◌∙◌}
use Rattle.std.specs.Prelude.{All, Contains}
use Rattle.std.specs.List.{list_any, range_with_len}
use Rattle.std.specs.Option.{option_map_or}
use Rattle.std.proofs.lemmas.List.Elements.{All-nil, All-head, All-tail}
use Rattle.std.proofs.lemmas.List.Folds.{list_any-append}
use Rattle.std.proofs.lemmas.Bool.{or_parts}
use Rattle.sd_site_cards.specs.SiteFields.{AreInRange}
use Rattle.sd_site_cards.specs.CardFields.{CardFields}
use Rattle.sd_message.specs.Period.{emms_of}
use Rattle.sd_message.specs.declared.emm.Emm.{Emm}
use Rattle.sd_message.specs.EcmParts.{parts_of}
use Rattle.sd_message.specs.declared.ecm_part.EcmPart.{EcmPart}
use Rattle.sd_spec.specs.Plan.{crypto_length, period_of}
use Rattle.sd_spec.specs.Messages.{period_at}
use Rattle.sd_spec.specs.Sent.{Item, Cat, Entitles, Controls, Carries, tables_at, item_packet, packets_from}
use Rattle.sd_spec.specs.Items.{IsOfBroadcast}
use Rattle.sd_spec.specs.Tuned.{tuning_of, tuned_by}
use Rattle.sd_psi.specs.OurCat.{cat_tuning}
use Rattle.sd_psi.specs.declared.our_cat.Tuning.{Tuning}
use Rattle.sd_spec.specs.Stretches.{messages, newest_message, counted_parts, current, sections_seen, is_closed, others}
use Rattle.sd_spec.specs.Keys.{key_in}
use Rattle.sd_spec.specs.Offered.{Offering, heard, heard_with, offered, tuned_offering, out_from, break_from}
use Rattle.sd_spec.specs.Offered.{no_offering}
use Rattle.sd_spec.proofs.Runs.{never_turns}
use Rattle.sd_law_losses.specs.Chosen.{chosen}
use Rattle.sd_law_losses.specs.Kept.{is_kept, kept_in, has_arrived, after_cat}
use Rattle.sd_law_losses.proofs.Taking.{how_many_none}
use Rattle.sd_law_losses.proofs.Facts.{is_told}
use Rattle.sd_law_losses.proofs.Writing.{onto}
use Rattle.sd_law_losses.proofs.OneRun.{AreOneRun}
use Rattle.sd_law_losses.proofs.Setting.{Setting, told_by, carried_at}
use Rattle.sd_law_losses.proofs.Facts.{AreKept, AreHeard}
use Rattle.sd_law_losses.proofs.Carrying.{carrying}
use Rattle.sd_law_losses.proofs.Hearing.{AreHearable, is_cat_item}
use Rattle.sd_law_losses.proofs.Remaining.{parts_before, rest_at, rest_more}

-- with a CAT a receiver stays tuned
untuned_before : (card : CardFields) (packet : List ℕ) (past : List (List ℕ)) → tuning_of card.ca
    (packet ∷ past) ≡ None →
    tuning_of card.ca past ≡ None
unfolding tuning_of
untuned_before card packet past none = by_tuning (tuning_of card.ca past) none
  where
    by_tuning : (t : Option Tuning) → tuned_by t (cat_tuning card.ca packet) ≡ None → t ≡ None
    by_tuning None none = refl
    by_tuning (Some tuning) none = none

-- without one nothing is heard
pub untuned_heard : (card : CardFields) (past : List (List ℕ)) → tuning_of card.ca past ≡ None → heard card past ≡ []
unfolding heard
untuned_heard card [] none = refl
untuned_heard card (packet ∷ past) none =
    ap (λ (t : Option Tuning). heard_with card t (length past) packet (heard card past))
    (untuned_before card packet past none)
    ∙ untuned_heard card past (untuned_before card packet past none)

-- and no run begins
pub untuned_one_run : (card : CardFields) (past : List (List ℕ)) → tuning_of card.ca past ≡ None → AreOneRun card past
untuned_one_run card [] none = tt
untuned_one_run card (packet ∷ past) none = (
  never_turns card past packet (untuned_before card packet past none),
  untuned_one_run card past (untuned_before card packet past none),
)

-- nothing comes of packets without a CAT
pub record IsSkipped (s : Setting) (past packets more : List (List ℕ)) : Type 0 where
  pub out : out_from s.card past (packets ++ more) ≡ out_from s.card (onto packets past) more
  pub breaks : break_from s.card past (packets ++ more) ≡ break_from s.card (onto packets past) more
  pub untuned : tuning_of s.card.ca (onto packets past) ≡ None

pub offered_none : (card : CardFields) (past : List (List ℕ)) (packet : List ℕ) → tuning_of card.ca past ≡ None →
    offered card past packet ≡ no_offering
unfolding offered
offered_none card past packet none =
    ap (λ (t : Option Tuning). tuned_offering card t (length past) (heard card past) packet) none

untuned_more : (card : CardFields) (past : List (List ℕ)) (packet : List ℕ) → tuning_of card.ca past ≡ None →
    cat_tuning card.ca packet ≡ None → tuning_of card.ca (packet ∷ past) ≡ None
unfolding tuning_of
untuned_more card past packet none other = ap (λ (t : Option Tuning). tuned_by t (cat_tuning card.ca packet)) none
    ∙ other

skip_first : (s : Setting) (past packets more : List (List ℕ)) (packet : List ℕ) →
    offered s.card past packet ≡ no_offering →
    IsSkipped s (packet ∷ past) packets more → IsSkipped s past (packet ∷ packets) more
unfolding out_from break_from
skip_first s past packets more packet is rest = record {
  out = ap (λ (o : Offering). o.wrote ++ (if is_none o.fault then out_from s.card (packet ∷ past)
      (packets ++ more) else [])) is ∙ rest.out;
  breaks = ap (λ (o : Offering). option_map_or Some o.fault (break_from s.card (packet ∷ past)
      (packets ++ more))) is ∙ rest.breaks;
  untuned = rest.untuned;
}

pub packets_skipped : (s : Setting) (able : AreHearable s) (items earlier : List Item) (fs : List Bool)
    (past more : List (List ℕ)) → All (IsOfBroadcast s.plan s.clear) items → tuning_of s.card.ca past ≡ None →
    list_any is_cat_item (chosen fs items) ≡ false → IsSkipped s past (chosen fs
    (packets_from s.plan.site earlier items)) more
unfolding chosen packets_from
packets_skipped s able [] earlier [] past more all none no_cat = record { out = refl; breaks = refl; untuned = none }
packets_skipped s able [] earlier (f ∷ fs) past more all none no_cat = record {
  out = refl;
  breaks = refl;
  untuned =
      none;
}
packets_skipped s able (item ∷ items) earlier [] past more all none no_cat = record {
  out = refl;
  breaks = refl;
  untuned = none;
}
packets_skipped s able (item ∷ items) earlier (false ∷ fs) past more all none no_cat =
    packets_skipped s able items (earlier ++ item ∷ []) fs past more (All-tail
    (IsOfBroadcast s.plan s.clear) item items all) none no_cat
packets_skipped s able (item ∷ items) earlier (true ∷ fs) past more all none no_cat =
    let packet = item_packet s.plan.site earlier item in
    let parts = or_parts (is_cat_item item) (list_any is_cat_item (chosen fs items)) no_cat in
    skip_first s past (chosen fs (packets_from s.plan.site (earlier ++ item ∷ []) items)) more packet
    (offered_none s.card past packet none)
    (packets_skipped s able items (earlier ++ item ∷ []) fs (packet ∷ past) more
    (All-tail (IsOfBroadcast s.plan s.clear) item items all)
    (untuned_more s.card past packet none
    (able.untuned earlier item (All-head (IsOfBroadcast s.plan s.clear) item items all) parts.0)) parts.1)

-- what stands after the first CAT of two lists, the first of which has none
pub after_none : (xs ys : List Item) → list_any is_cat_item xs ≡ false → after_cat (xs ++ ys) ≡ after_cat ys
unfolding after_cat
after_none [] ys none = refl
after_none (Cat ∷ xs) ys none = absurd (cc none)
after_none (Entitles emm ∷ xs) ys none = after_none xs ys none
after_none (Controls part ∷ xs) ys none = after_none xs ys none
after_none (Carries k packet ∷ xs) ys none = after_none xs ys none

pub after_no_cat : (xs : List Item) → list_any is_cat_item xs ≡ false → after_cat xs ≡ []
unfolding after_cat
after_no_cat [] none = refl
after_no_cat (Cat ∷ xs) none = absurd (cc none)
after_no_cat (Entitles emm ∷ xs) none = after_no_cat xs none
after_no_cat (Controls part ∷ xs) none = after_no_cat xs none
after_no_cat (Carries k packet ∷ xs) none = after_no_cat xs none

pub no_section_cat : (emms : List Emm) → list_any is_cat_item (map Entitles emms) ≡ false
no_section_cat [] = refl
no_section_cat (emm ∷ emms) = no_section_cat emms

pub no_part_cat : (parts : List EcmPart) → list_any is_cat_item (map Controls parts) ≡ false
no_part_cat [] = refl
no_part_cat (part ∷ parts) = no_part_cat parts

-- what is sent with packet k after the CAT
abbrev pub sections_at : Setting → ℕ → List Item
sections_at s q = map Entitles (emms_of (period_at s.plan q))

abbrev pub tail_at : Setting → ℕ → List Item
tail_at s k = parts_before s k ++ carrying s k ∷ []

pub no_tail_cat : (s : Setting) (k : ℕ) → list_any is_cat_item (tail_at s k) ≡ false
no_tail_cat s k = list_any-append is_cat_item (parts_before s k) (carrying s k ∷ [])
    ∙ ap (λ (b : Bool). b || false) (by_test (k % s.plan.site.every == 0))
  where
    by_test : (b : Bool) → list_any is_cat_item (if b then map Controls (parts_of (told_by s
        (k / s.plan.site.every))) else []) ≡ false
    by_test true = no_part_cat (parts_of (told_by s (k / s.plan.site.every)))
    by_test false = refl

-- where the tables stand before packet k, and where they don't
pub due_rest : (s : Setting) (k : ℕ) → AreInRange s.plan.site → k < length s.clear →
    (k % crypto_length s.plan.site == 0) ≡ true →
    rest_at s k ≡ Cat ∷ ((sections_at s (period_of s.plan k) ++ tail_at s k) ++ rest_at s (k + 1))
unfolding tables_at
due_rest s k range within due = rest_more s k range within
    ∙ ap (λ (b : Bool). ((if b then tables_at s.plan k else []) ++ tail_at s k) ++ rest_at s (k + 1)) due

pub other_rest : (s : Setting) (k : ℕ) → AreInRange s.plan.site → k < length s.clear →
    (k % crypto_length s.plan.site == 0) ≡ false → rest_at s k ≡ tail_at s k ++ rest_at s (k + 1)
other_rest s k range within not_due = rest_more s k range within
    ∙ ap (λ (b : Bool). ((if b then tables_at s.plan k else []) ++ tail_at s k) ++ rest_at s (k + 1)) not_due

-- what holds after the CAT
pub kept_start : (k n : ℕ) → AreKept k n None []
unfolding has_arrived
kept_start k n = record { last_is = λ b. refl; none = λ a above. refl; passed = λ j above. refl }

none_kept : (low high : ℕ) → kept_in [] low high ≡ []
unfolding kept_in
none_kept low high = none_of (range_with_len low (high - low))
  where
    none_of : (js : List ℕ) → filter (is_kept []) js ≡ []
    none_of [] = refl
    none_of (j ∷ js) = none_of js

none_arrived_yet : (n : ℕ) → filter (has_arrived []) (range_with_len 0 n) ≡ []
unfolding has_arrived
none_arrived_yet n = none_of (range_with_len 0 n)
  where
    none_of : (ns : List ℕ) → filter (has_arrived []) ns ≡ []
    none_of [] = refl
    none_of (n ∷ ns) = none_of ns

pub heard_start : (s : Setting) (k p n : ℕ) → AreHeard s k p n None [] []
unfolding is_closed current sections_seen key_in newest_message counted_parts others messages
heard_start s k p n = record {
  open_yet = refl;
  now = omega arith;
  sections = λ q. All-nil (Contains (emms_of (period_at s.plan q)));
  keys = λ q. refl;
  message = refl;
  keyed = tt;
  parts = All-nil (λ part. part.number < n);
  held = ap (map (carried_at s)) (sym (none_kept 0 k));
  begun = omega arith;
  indexes = λ q x. refl;
  taken = λ bound above. sym (how_many_none (λ q. is_told s q []) bound (λ q. refl));
  told = ap (λ (ns : List ℕ). map (told_by s) (reverse ns)) (sym (none_arrived_yet n));
}
