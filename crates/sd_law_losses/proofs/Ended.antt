-- Where a receiver stands at the end of a broadcast of which packets were lost.
use Rattle.std.proofs.Common.{◌≡◌, refl, ℕ, ◌+◌, ◌-◌, ◌≤◌, ◌==◌, Bool, true, false}
use Rattle.std.proofs.Common.{List, [], ◌∷◌, ◌++◌, map, filter, reverse, length, take, drop, Option, Some}
use Rattle.std.proofs.Common.{if◌then◌else◌}
use Rattle.std.proofs.Common.{arith, sym, ap, ◌∙◌, subst, append_assoc}
use Rattle.std.specs.Prelude.{All, Contains, option_map}
use Rattle.std.specs.List.{list_any, range_with_len}
use Rattle.std.proofs.lemmas.List.{reverse-append}
use Rattle.std.proofs.lemmas.List.Elements.{All-weaker}
use Rattle.std.proofs.lemmas.Bool.Decides.{nat_tests}
use Rattle.sd_message.specs.Period.{emms_of}
use Rattle.sd_message.specs.EcmParts.{Message, parts_of}
use Rattle.sd_message.specs.declared.ecm_part.EcmPart.{EcmPart}
use Rattle.sd_law_losses.proofs.Confirming.{confirmed_in}
use Rattle.sd_spec.specs.Plan.{period_of}
use Rattle.sd_spec.specs.Messages.{period_at, message_at}
use Rattle.sd_spec.specs.Sent.{Item, Controls, tables_at, closing_of, packets_from}
use Rattle.sd_spec.specs.Items.{IsOfBroadcast}
use Rattle.sd_spec.specs.Heard.{Heard, Controls as HeardControls}
use Rattle.sd_spec.specs.Stretches.{messages, newest_message, current, sections_seen, is_closed, completes}
use Rattle.sd_spec.specs.Keys.{key_at, key_in}
use Rattle.sd_spec.specs.Offered.{heard}
use Rattle.sd_law_losses.specs.Chosen.{chosen}
use Rattle.sd_law_losses.specs.Kept.{is_section_item, has_arrived}
use Rattle.sd_law_losses.specs.Taken.{how_many}
use Rattle.sd_law_losses.proofs.Taking.{keys_of, how_many_agree}
use Rattle.sd_law_losses.proofs.Writing.{onto, onto_append, Writes, IsOpenUpto}
use Rattle.sd_law_losses.proofs.Coming.{counting, Same, all_kept, Come as PartsCome}
use Rattle.sd_law_losses.proofs.Setting.{Setting, AreLaws, tuning_at, final, told_by, key_where}
use Rattle.sd_law_losses.proofs.Pairs.{closing_is, number_is}
use Rattle.sd_law_losses.proofs.Facts.{AreKept, AreHeard, Passes, IsLast, from_last, is_told}
use Rattle.sd_law_losses.proofs.Completing.{same_seen, arrived_with, parts_at, arrives, still_last, now_last, same_told}
use Rattle.sd_law_losses.proofs.Completing.{calm_heard}
use Rattle.sd_law_losses.proofs.Heeding.{what_comes, lost_arrived}
use Rattle.sd_law_losses.proofs.Hearing.{AreHearable, heard_from, heard_append, heard_parts, packets_come, IsTuned}
use Rattle.sd_law_losses.proofs.Remaining.{closing_items}
use Rattle.sd_law_losses.proofs.Later.{chosen_append, chosen_map}
use Rattle.sd_law_losses.proofs.Groups.{tables_pass, may_rise}
use Rattle.sd_law_losses.proofs.Tuned.{end_heard}

-- the last period of the broadcast
abbrev pub reach : Setting → ℕ
reach s = period_of s.plan (length s.clear - 1)

-- After all that is sent: the messages that were told are those that have arrived, a closing one is among them where
-- the last has, and of each period the key is had and the indexes were seen that are kept.
pub record HasEnded (s : Setting) (kept : List Item) (past : List Heard) : Type 0 where
  pub last : Option ℕ
  pub last_is : IsLast (final s + 1) kept last
  pub closed : is_closed past ≡ has_arrived kept (final s)
  pub message : (newest_message past).message ≡ option_map (told_by s) last
  pub keys : (q : ℕ) → key_at s.card past q ≡ key_where s q (is_told s q kept)
  pub sections : (q : ℕ) → All (Contains (emms_of (period_at s.plan q))) (sections_seen q past)
  pub indexes : (q x : ℕ) → list_any (λ emm. emm.index == x) (sections_seen q past) ≡ list_any (is_section_item q x)
      kept
  pub told : messages past ≡ map (told_by s) (reverse (filter (has_arrived kept) (range_with_len 0 (final s + 1))))
  pub taken : keys_of s.card past ≡ how_many (λ q. is_told s q kept) (reach s + 1)

-- where the closing message doesn't arrive
ended_open : (s : Setting) (k p : ℕ) (last : Option ℕ) (kept : List Item) (past : List Heard) → has_arrived kept
    (final s) ≡ false →
    IsLast (final s + 1) kept last → p ≤ reach s → AreHeard s k p (final s + 1) last kept past → HasEnded s kept past
ended_open s k p last kept past none is low are = record {
  last = last;
  last_is = is;
  closed = are.open_yet ∙ sym none;
  message = are.message;
  keys = are.keys;
  sections = are.sections;
  indexes = are.indexes;
  told = are.told;
  taken = are.taken (reach s + 1) (omega (arith, low));
}

-- and where it does
ended_closed : (s : Setting) (laws : AreLaws s) (k p : ℕ) (last : Option ℕ) (fs : List Bool) (kept : List Item)
    (past mid : List Heard) (part : EcmPart) → AreKept k (final s) last kept → p ≤ reach s → AreHeard s k p
    (final s) last kept past →
    Same past mid → completes mid (HeardControls part) ≡ Some (told_by s (final s)) →
    all_kept fs (parts_of (told_by s (final s))) ≡ true →
    HasEnded s (kept ++ map Controls (parts_at s (final s) fs)) (HeardControls part ∷ mid)
unfolding newest_message current sections_seen is_closed messages message_at
ended_closed s laws k p last fs kept past mid part is low are same done all = record {
  last = Some z;
  last_is = now_last s laws k z last fs kept (omega arith) is all;
  closed = rw (same.closed ∙ are.open_yet) (rw done (ap (λ (m : Message). m.closing) (closing_is s z (omega arith))))
      ∙ sym (arrives s laws z fs kept (omega arith) (is.none z (omega arith)) ∙ all);
  message = rw done refl;
  keys = λ q. ap (key_in s.card) (same.seen q)
      ∙ (are.keys q ∙ ap (key_where s q) (sym (same_told s q kept (parts_at s z fs))));
  sections = λ q. subst (All (Contains (emms_of (period_at s.plan q)))) (sym (same.seen q)) (are.sections q);
  indexes = λ q x. ap (list_any (λ emm. emm.index == x)) (same.seen q)
      ∙ (are.indexes q x ∙ sym (same_seen q x kept (parts_at s z fs)));
  taken = omega arith ∙ (same.taken s.card ∙ (are.taken (reach s + 1) (omega (arith, low))
      ∙ how_many_agree (λ q. is_told s q kept) (λ q. is_told s q (kept ++ map Controls (parts_at s z fs))) (reach s + 1)
      (λ q. sym (same_told s q kept (parts_at s z fs)))));
  told = rw done (ap (λ (ms : List Message). told_by s z ∷ ms) (same.messages ∙ are.told)
      ∙ (ap (map (told_by s)) (sym (reverse-append (filter (has_arrived kept) (range_with_len 0 z)) (z ∷ [])))
      ∙ ap (λ (ns : List ℕ). map (told_by s) (reverse ns)) (sym (arrived_with s laws k z last fs kept (omega arith) is
      ∙ ap (λ (b : Bool). filter (has_arrived kept) (range_with_len 0 z) ++ (if b then z ∷ [] else [])) all))));
}
  where
    z : ℕ
    z = final s

-- so at the end of the closing parts
closing_ends : (s : Setting) (laws : AreLaws s) (k p : ℕ) (last : Option ℕ) (fs : List Bool) (kept : List Item)
    (past : List Heard) → AreKept k (final s) last kept → p ≤ reach s → AreHeard s k p (final s) last kept past →
    (b : Bool) → all_kept fs (parts_of (told_by s (final s))) ≡ b →
    PartsCome b s.card (tuning_at s) (told_by s (final s)) past (map HeardControls (parts_at s (final s) fs)) →
    HasEnded s (kept ++ map Controls (parts_at s (final s) fs)) (onto (map HeardControls (parts_at s
    (final s) fs)) past)
closing_ends s laws k p last fs kept past is low are true all come =
    subst (λ (hs : List Heard). HasEnded s (kept ++ map Controls (parts_at s (final s) fs)) (onto hs past))
    (sym come.split)
    (subst (HasEnded s (kept ++ map Controls (parts_at s (final s) fs))) (sym (onto_append come.first
    (HeardControls come.part ∷ []) past))
    (ended_closed s laws k p last fs kept past (onto come.first past) come.part is low are come.same come.completes
    all))
closing_ends s laws k p last fs kept past is low are false lost come =
    ended_open s k p last (kept ++ map Controls (parts_at s z fs)) (onto (map HeardControls (parts_at s z fs)) past)
    (arrives s laws z fs kept (omega arith) (is.none z (omega arith)) ∙ lost)
    (still_last s laws k z last fs kept (omega arith) is lost) low
    (calm_heard s k p z z last kept past (onto (map HeardControls (parts_at s z fs)) past) (parts_at s z fs) come.same
    (All-weaker (λ part. part.number ≤ (told_by s z).number) (λ part. part.number ≤ z)
    (λ part less. omega (arith, less, number_is s z)) (counting (onto (map HeardControls
    (parts_at s z fs)) past)) come.counted)
    (lost_arrived s laws k z last fs kept (omega arith) is lost) are)
  where
    z : ℕ
    z = final s

parts_end : (s : Setting) (laws : AreLaws s) (k p i : ℕ) (last : Option ℕ) (fs : List Bool) (kept : List Item)
    (past : List Heard) →
    AreKept k (final s) last kept → p ≤ reach s → AreHeard s k p (final s) last kept past →
    HasEnded s (kept ++ chosen fs (map Controls (parts_of (told_by s (final s)))))
    (onto (heard_from i (chosen fs (map Controls (parts_of (told_by s (final s)))))) past)
parts_end s laws k p i last fs kept past is low are =
    subst (λ (items : List Item). HasEnded s (kept ++ items) (onto (heard_from i items) past))
    (sym (chosen_map Controls fs (parts_of (told_by s (final s)))))
    (subst (λ (hs : List Heard). HasEnded s (kept ++ map Controls (parts_at s (final s) fs)) (onto hs past))
    (sym (heard_parts i (parts_at s (final s) fs)))
    (closing_ends s laws k p last fs kept past is low are (all_kept fs (parts_of (told_by s (final s)))) refl
    (what_comes s laws k p (final s) last fs kept past (omega arith) is are)))

-- the same after sections
pub sections_then_end : (s : Setting) (laws : AreLaws s) (k p q i : ℕ) (last : Option ℕ) (fs : List Bool)
    (group kept : List Item)
    (past : List Heard) → q ≤ reach s →
    Passes s k q (final s) last (kept ++ chosen (take (length group) fs) group) past (heard_from i (chosen (take
    (length group) fs) group)) [] →
    HasEnded s (kept ++ chosen fs (group ++ map Controls (parts_of (told_by s (final s)))))
    (onto (heard_from i (chosen fs (group ++ map Controls (parts_of (told_by s (final s)))))) past)
sections_then_end s laws k p q i last fs group kept past low first =
    subst (λ (items : List Item). HasEnded s (kept ++ items) (onto (heard_from i items) past))
    (sym (chosen_append fs group (map Controls (parts_of (told_by s (final s))))))
    (subst (λ (hs : List Heard). HasEnded s (kept ++ (xs ++ ys)) (onto hs past)) (sym (heard_append i xs ys))
    (subst (HasEnded s (kept ++ (xs ++ ys))) (sym (onto_append (heard_from i xs) (heard_from (length xs + i) ys) past))
    (subst (λ (items : List Item). HasEnded s items (onto (heard_from (length xs + i) ys) (onto
    (heard_from i xs) past))) (append_assoc kept xs ys)
    (parts_end s laws k q (length xs + i) last (drop (length group) fs) (kept ++ xs) (onto
    (heard_from i xs) past) first.kept_is low first.heard_is))))
  where
    xs : List Item
    xs = chosen (take (length group) fs) group

    ys : List Item
    ys = chosen (drop (length group) fs) (map Controls (parts_of (told_by s (final s))))

-- what is left after the last packet
end_ends : (s : Setting) (laws : AreLaws s) (p i : ℕ) (last : Option ℕ) (fs : List Bool) (kept : List Item)
    (past : List Heard)
    (some : Bool) → (length s.clear == 0) ≡ some → p ≤ period_of s.plan (length s.clear - 1) →
    AreKept (length s.clear) (final s) last kept → AreHeard s (length s.clear) p (final s) last kept past →
    HasEnded s (kept ++ chosen fs ((if some then tables_at s.plan 0 else []) ++ map Controls (parts_of (told_by s
    (final s)))))
    (onto (heard_from i (chosen fs ((if some then tables_at s.plan 0 else []) ++ map Controls (parts_of (told_by s
    (final s)))))) past)
end_ends s laws p i last fs kept past false is rises kept_is are =
    parts_end s laws (length s.clear) p i last fs kept past kept_is rises are
end_ends s laws p i last fs kept past true is rises kept_is are =
    sections_then_end s laws (length s.clear) p (period_of s.plan 0) i last fs (tables_at s.plan 0) kept past
    (omega (arith, ap (period_of s.plan) first_period))
    (tables_pass s laws 0 (length s.clear) (final s) i last (take (length (tables_at s.plan 0)) fs) kept past kept_is
    (may_rise s (length s.clear) p (period_of s.plan 0) (final s) last kept past
    (omega (arith, rises, ap (period_of s.plan) first_period)) are))
  where
    empty : length s.clear ≡ 0
    empty = grind (arith, nat_tests, is)

    first_period : length s.clear - 1 ≡ 0
    first_period = omega (arith, empty)

-- where a receiver stands after these packets
pub record StandsEnded (s : Setting) (kept : List Item) (past : List (List ℕ)) : Type 0 where
  pub ended : HasEnded s kept (heard s.card past)
  pub tuned : IsTuned s past

-- all packets of some things, up to the end
pub all_stand : (s : Setting) (able : AreHearable s) (items earlier kept : List Item) (fs : List Bool) (past : List
    (List ℕ))
    (wrote : List (List ℕ)) → All (IsOfBroadcast s.plan s.clear) items → IsTuned s past →
    IsOpenUpto (heard s.card past) (heard_from (length past) (chosen fs items)) →
    Writes s.card (tuning_at s) (heard s.card past) (heard_from (length past) (chosen fs items)) wrote →
    HasEnded s (kept ++ chosen fs items) (onto (heard_from (length past) (chosen fs items)) (heard s.card past)) →
    StandsEnded s (kept ++ chosen fs items) (onto (chosen fs (packets_from s.plan.site earlier items)) past)
all_stand s able items earlier kept fs past wrote all tuned opened writes ends =
    let come = packets_come s able items earlier fs past [] wrote all tuned opened writes in
    record { ended = subst (HasEnded s (kept ++ chosen fs items)) (sym come.heard_is) ends; tuned = come.tuned }

pub end_stands : (s : Setting) (laws : AreLaws s) (able : AreHearable s) (p : ℕ) (last : Option ℕ) (fs : List Bool)
    (earlier kept : List Item) (past : List (List ℕ)) → All (IsOfBroadcast s.plan s.clear) (closing_of s.plan s.clear) →
    IsTuned s past → p ≤ period_of s.plan (length s.clear - 1) →
    AreKept (length s.clear) (final s) last kept → AreHeard s (length s.clear) p (final s) last kept
    (heard s.card past) →
    StandsEnded s (kept ++ chosen fs (closing_of s.plan s.clear)) (onto (chosen fs (packets_from s.plan.site earlier
    (closing_of s.plan s.clear))) past)
end_stands s laws able p last fs earlier kept past all tuned rises is are =
    subst (λ (items : List Item). All (IsOfBroadcast s.plan s.clear) items →
    StandsEnded s (kept ++ chosen fs items) (onto (chosen fs (packets_from s.plan.site earlier items)) past)) (sym
    (closing_items s))
    (λ all_items. all_stand s able items earlier kept fs past
    (confirmed_in s (kept ++ chosen fs items) (from_last s last) (length s.clear)) all_items tuned
    (end_heard s laws p (length past) last fs kept (heard s.card past) (length s.clear == 0) refl rises is are).0
    (end_heard s laws p (length past) last fs kept (heard s.card past) (length s.clear == 0) refl rises is are).1
    (end_ends s laws p (length past) last fs kept (heard s.card past) (length s.clear == 0) refl rises is are)) all
  where
    items : List Item
    items = (if length s.clear == 0 then tables_at s.plan 0 else []) ++ map Controls (parts_of (told_by s (final s)))
