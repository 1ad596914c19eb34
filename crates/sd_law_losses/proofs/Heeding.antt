-- One control message of a broadcast, of which parts may be lost.
use Rattle.std.proofs.Common.{◌≡◌, refl, ℕ, ◌+◌, ◌<◌, ◌≤◌, ◌==◌, Bool, true, false}
use Rattle.std.proofs.Common.{List, [], ◌∷◌, ◌++◌, map, filter, reverse, Option, Some, None}
use Rattle.std.proofs.Common.{arith, sym, ap, ◌∙◌, subst, append_assoc, append-nil}
use Rattle.std.specs.Prelude.{if◌then◌else◌, All, Contains, option_map}
use Rattle.std.specs.List.{list_any, range_with_len}
use Rattle.std.proofs.lemmas.List.{reverse-append}
use Rattle.std.proofs.lemmas.List.Elements.{All-nil, All-weaker}
use Rattle.sd_message.specs.Period.{emms_of}
use Rattle.sd_message.specs.EcmParts.{Message, parts_of}
use Rattle.sd_message.specs.declared.ecm_part.EcmPart.{EcmPart}
use Rattle.sd_spec.specs.Plan.{period_of}
use Rattle.sd_spec.specs.Messages.{period_at, message_at}
use Rattle.sd_spec.specs.Sent.{Item, Controls}
use Rattle.sd_spec.specs.Heard.{Heard, Controls as HeardControls}
use Rattle.sd_spec.specs.Stretches.{messages, newest_message, counted_parts, current, sections_seen, is_closed, others}
use Rattle.sd_spec.specs.Stretches.{completes}
use Rattle.sd_spec.specs.Keys.{key_at, key_in}
use Rattle.sd_spec.specs.Offered.{heard_offering, message_offering, part_offering}
use Rattle.sd_law_losses.specs.Kept.{has_arrived, is_entitled_before, is_last_part}
use Rattle.sd_law_losses.proofs.Writing.{onto, onto_append, Writes, writes_append, IsOpenUpto, open_upto}
use Rattle.sd_law_losses.proofs.Writing.{open_upto_last}
use Rattle.sd_law_losses.proofs.Coming.{counting, Same, IsBelow, all_kept, Complete, Come as PartsCome, parts_come}
use Rattle.sd_law_losses.proofs.Taking.{how_many_agree}
use Rattle.sd_law_losses.proofs.Arriving.{chosen_all, entitled_before, last_there}
use Rattle.sd_law_losses.proofs.Setting.{Setting, AreLaws, tuning_at, final, told_by, carried_at, key_where}
use Rattle.sd_law_losses.proofs.Pairs.{start_of, end_of, number_is, before_packet}
use Rattle.sd_law_losses.proofs.Tracking.{nothing_in}
use Rattle.sd_law_losses.proofs.Facts.{AreKept, AreHeard, Passes, IsLast, is_told}
use Rattle.sd_law_losses.proofs.Completing.{same_seen, arrived_with, parts_at, after_parts, still_last, now_last}
use Rattle.sd_law_losses.proofs.Completing.{same_told, calm_heard, written_at, IsLater, complete_offering}

-- the last message that arrived, and what is written, by whether all parts came
abbrev pub next_last : Bool → Option ℕ → ℕ → Option ℕ
next_last true last a = Some a
next_last false last a = last

abbrev pub written_where : Bool → Setting → List Item → Option ℕ → ℕ → List (List ℕ)
written_where true s kept last a = written_at s kept last a
written_where false s kept last a = []

-- a message whose parts are kept up to the last one is what the last part completes
pub last_writes : (s : Setting) (laws : AreLaws s) (k p a : ℕ) (last : Option ℕ) (kept later : List Item)
    (past things : List Heard) → a ≤ final s → k ≡ end_of s a → p ≤ (told_by s a).period → IsLater k later →
    AreKept k a last kept → AreHeard s k p a last kept past →
    Complete s.card (tuning_at s) (told_by s a) past things →
    Writes s.card (tuning_at s) past things (written_at s (kept ++ later) last a)
last_writes s laws k p a last kept later past things within here period is kept_is are come =
    subst (λ (hs : List Heard). Writes s.card (tuning_at s) past hs (written_at s (kept ++ later) last a))
    (sym come.split)
    (writes_append s.card (tuning_at s) past come.first (HeardControls come.part ∷ []) [] (written_at s
    (kept ++ later) last a)
    come.calm (
      written_at s (kept ++ later) last a,
      [],
      offers,
      refl,
      sym (append-nil (written_at s
          (kept ++ later) last a)),
    ))
  where
    mid : List Heard
    mid = onto come.first past

    offers : (n : ℕ) → heard_offering s.card (tuning_at s) n mid (HeardControls come.part)
        ≡ record { wrote = written_at s (kept ++ later) last a; fault = None }
    offers n =
        ap (λ fault. part_offering n fault (message_offering s.card (tuning_at s) n mid (completes mid
        (HeardControls come.part)))) come.good
        ∙ (ap (message_offering s.card (tuning_at s) n mid) come.completes
        ∙ complete_offering s laws k p a n last kept later past mid within here period is kept_is come.same are)

-- what holds once it is complete, where it isn't the closing one
complete_heard : (s : Setting) (laws : AreLaws s) (p a : ℕ) (last : Option ℕ) (fs : List Bool) (kept : List Item)
    (past mid : List Heard) (part : EcmPart) → a < final s → (told_by s a).period ≡ p →
    AreKept (start_of s a) a last kept → AreHeard s (start_of s a) p a last kept past → Same past mid →
    completes mid (HeardControls part) ≡ Some (told_by s a) → all_kept fs (parts_of (told_by s a)) ≡ true →
    AreHeard s (start_of s a) p (a + 1) (Some a) (kept ++ map Controls (parts_at s a fs)) (HeardControls part ∷ mid)
unfolding newest_message current sections_seen is_closed counted_parts others messages message_at
complete_heard s laws p a last fs kept past mid part below period kept_is are same done all = record {
  open_yet = rw (same.closed ∙ are.open_yet) (rw done (ap (λ (m : Message). m.closing) (before_packet s a below)));
  now = rw done (omega (arith, period, same.current, are.now));
  sections = λ q. subst (All (Contains (emms_of (period_at s.plan q)))) (sym (same.seen q)) (are.sections q);
  keys = λ q. keys_are q;
  message = rw done refl;
  keyed = λ later. rw done (keyed_is later);
  parts = rw done (All-nil (λ part. part.number < a + 1));
  held = rw done (ap (map (carried_at s)) (sym (nothing_in (kept ++ map Controls (parts_at s a fs)) (start_of s a))));
  begun = omega arith;
  indexes = λ q x. ap (list_any (λ emm. emm.index == x)) (same.seen q)
      ∙ (are.indexes q x ∙ sym (same_seen q x kept (parts_at s a fs)));
  taken = λ bound above. omega arith ∙ (same.taken s.card ∙ (are.taken bound above
      ∙ how_many_agree (λ q. is_told s q kept) (λ q. is_told s q (kept ++ map Controls (parts_at s a fs))) bound
      (λ q. sym (same_told s q kept (parts_at s a fs)))));
  told = rw done (ap (λ (ms : List Message). told_by s a ∷ ms) (same.messages ∙ are.told)
      ∙ (ap (map (told_by s)) (sym (reverse-append (filter (has_arrived kept) (range_with_len 0 a)) (a ∷ [])))
      ∙ ap (λ (ns : List ℕ). map (told_by s) (reverse ns)) (sym (arrived_with s laws (start_of s a) a last fs kept
      (omega (arith, below)) kept_is
      ∙ ap (λ (b : Bool). filter (has_arrived kept) (range_with_len 0 a) ++ (if b then a ∷ [] else [])) all))));
}
  where
    keys_are : (q : ℕ) → key_at s.card (HeardControls part ∷ mid) q
        ≡ key_where s q (is_told s q (kept ++ map Controls (parts_at s a fs)))
    keys_are q = ap (key_in s.card) (same.seen q)
        ∙ (are.keys q ∙ ap (key_where s q) (sym (same_told s q kept (parts_at s a fs))))

    q : ℕ
    q = period_of s.plan (start_of s a)

    ps : List EcmPart
    ps = parts_of (told_by s a)

    before_it : (later : List Item) →
        is_entitled_before s.plan.site.height s.card.leaf q a ((kept ++ map Controls
        (parts_at s a fs)) ++ later) ≡ is_told s q kept
    before_it later =
        ap (is_entitled_before s.plan.site.height s.card.leaf q a)
        (append_assoc kept (map Controls (parts_at s a fs)) later
        ∙ ap (λ (xs : List EcmPart). kept ++ (map Controls xs ++ later)) (chosen_all fs ps all))
        ∙ entitled_before s.plan.site.height s.card.leaf q a kept ps later (kept_is.none a (omega arith))
        (ap (λ (n : ℕ). list_any (is_last_part n) (map Controls ps)) (sym (number_is s a))
        ∙ last_there (told_by s a) ps [] (laws.parts a (omega (arith, below))) (laws.some a (omega (arith, below))))

    keyed_is : (later : List Item) → key_at s.card mid q ≡ key_where s q
        (is_entitled_before s.plan.site.height s.card.leaf q a ((kept ++ map Controls (parts_at s a fs)) ++ later))
    keyed_is later = ap (key_in s.card) (same.seen q) ∙ (are.keys q ∙ ap (key_where s q) (sym (before_it later)))

-- the number of the message that was newest is below this one's
earlier_message : (s : Setting) (n a : ℕ) (last : Option ℕ) (kept : List Item) (past : List Heard) → n ≤ a →
    IsLast n kept last → (newest_message past).message ≡ option_map (told_by s) last → IsBelow (told_by s a).number
    (newest_message past).message
earlier_message s n a last kept past above is same =
    subst (IsBelow (told_by s a).number) (sym same) (by_last last is)
  where
    by_last : (last : Option ℕ) → IsLast n kept last → IsBelow (told_by s a).number (option_map (told_by s) last)
    by_last None none = tt
    by_last (Some c) is = omega (arith, is.0, above, number_is s c, number_is s a)

-- what comes of its parts
pub what_comes : (s : Setting) (laws : AreLaws s) (k p a : ℕ) (last : Option ℕ) (fs : List Bool) (kept : List Item)
    (past : List Heard) → a ≤ final s → AreKept k a last kept → AreHeard s k p a last kept past →
    PartsCome (all_kept fs (parts_of (told_by s a))) s.card (tuning_at s) (told_by s a) past (map HeardControls
    (parts_at s a fs))
what_comes s laws k p a last fs kept past within is are =
    parts_come s.card (tuning_at s) (told_by s a) fs (parts_of (told_by s a)) past (laws.parts a within)
    (laws.some a within)
    (earlier_message s a a last kept past (omega arith) is.last_is are.message)
    (All-weaker (λ part. part.number < a) (λ part. part.number < (told_by s a).number)
    (λ part less. omega (arith, less, number_is s a)) (counting past) are.parts)

-- where a part is lost no message more has arrived
pub lost_arrived : (s : Setting) (laws : AreLaws s) (k a : ℕ) (last : Option ℕ) (fs : List Bool) (kept : List Item) →
    a ≤ final s → AreKept k a last kept → all_kept fs (parts_of (told_by s a)) ≡ false →
    filter (has_arrived (kept ++ map Controls (parts_at s a fs))) (range_with_len 0 (a + 1))
    ≡ filter (has_arrived kept) (range_with_len 0 a)
lost_arrived s laws k a last fs kept within is lost = arrived_with s laws k a last fs kept within is
    ∙ (ap (λ (b : Bool). filter (has_arrived kept) (range_with_len 0 a) ++ (if b then a ∷ [] else [])) lost
    ∙ append-nil (filter (has_arrived kept) (range_with_len 0 a)))

-- a message before a packet
pub message_comes : (s : Setting) (laws : AreLaws s) (p a : ℕ) (last : Option ℕ) (fs : List Bool)
    (kept later : List Item)
    (past : List Heard) → a < final s → start_of s a ≡ end_of s a → (told_by s a).period ≡ p → IsLater
    (start_of s a) later →
    AreKept (start_of s a) a last kept → AreHeard s (start_of s a) p a last kept past →
    (all : Bool) → all_kept fs (parts_of (told_by s a)) ≡ all →
    PartsCome all s.card (tuning_at s) (told_by s a) past (map HeardControls (parts_at s a fs)) →
    Passes s (start_of s a) p (a + 1) (next_last all last a) (kept ++ map Controls (parts_at s a fs)) past
    (map HeardControls (parts_at s a fs)) (written_where all s (kept ++ later) last a)
message_comes s laws p a last fs kept later past below here period is kept_is are true all come = record {
  kept_is = after_parts s laws (start_of s a) a last (Some a) fs kept (omega (arith, below)) kept_is
      (now_last s laws (start_of s a) a last fs kept (omega (arith, below)) kept_is all);
  heard_is = subst (λ (hs : List Heard). AreHeard s (start_of s a) p (a + 1) (Some a) (kept ++ map Controls
      (parts_at s a fs)) (onto hs past))
      (sym come.split)
      (subst (AreHeard s (start_of s a) p (a + 1) (Some a) (kept ++ map Controls (parts_at s a fs)))
      (sym (onto_append come.first (HeardControls come.part ∷ []) past))
      (complete_heard s laws p a last fs kept past (onto come.first past) come.part below period kept_is are come.same
      come.completes all));
  writes = last_writes s laws (start_of s a) p a last kept later past (map HeardControls (parts_at s a fs)) (omega
      (arith, below)) here
      (omega (arith, period)) is kept_is are come;
}
message_comes s laws p a last fs kept later past below here period is kept_is are false lost come = record {
  kept_is = after_parts s laws (start_of s a) a last last fs kept (omega (arith, below)) kept_is
      (still_last s laws (start_of s a) a last fs kept (omega (arith, below)) kept_is lost);
  heard_is = calm_heard s (start_of s a) p a a last kept past (onto (map HeardControls (parts_at s a fs)) past)
      (parts_at s a fs) come.same
      (All-weaker (λ part. part.number ≤ (told_by s a).number) (λ part. part.number ≤ a)
      (λ part less. omega (arith, less, number_is s a)) (counting (onto (map HeardControls
      (parts_at s a fs)) past)) come.counted)
      (lost_arrived s laws (start_of s a) a last fs kept (omega (arith, below)) kept_is lost) are;
  writes = come.calm;
}

-- what comes of the closing message
pub record Closes (s : Setting) (k n : ℕ) (last : Option ℕ) (kept : List Item) (past things : List Heard)
    (wrote : List (List ℕ)) : Type 0 where
  pub kept_is : AreKept k n last kept
  pub open_upto : IsOpenUpto past things
  pub writes : Writes s.card (tuning_at s) past things wrote

pub closing_comes : (s : Setting) (laws : AreLaws s) (k p a : ℕ) (last : Option ℕ) (fs : List Bool)
    (kept later : List Item)
    (past : List Heard) → a ≤ final s → k ≡ end_of s a → p ≤ (told_by s a).period → IsLater k later →
    AreKept k a last kept → AreHeard s k p a last kept past →
    (all : Bool) → all_kept fs (parts_of (told_by s a)) ≡ all →
    PartsCome all s.card (tuning_at s) (told_by s a) past (map HeardControls (parts_at s a fs)) →
    Closes s k (a + 1) (next_last all last a) (kept ++ map Controls (parts_at s a fs)) past
    (map HeardControls (parts_at s a fs)) (written_where all s (kept ++ later) last a)
closing_comes s laws k p a last fs kept later past within here period is kept_is are true all come = record {
  kept_is = after_parts s laws k a last (Some a) fs kept within kept_is
      (now_last s laws k a last fs kept within kept_is all);
  open_upto = subst (IsOpenUpto past) (sym come.split)
      (open_upto_last past come.first (HeardControls come.part) (come.same.closed ∙ are.open_yet));
  writes = last_writes s laws k p a last kept later past (map HeardControls
      (parts_at s a fs)) within here period is kept_is are come;
}
closing_comes s laws k p a last fs kept later past within here period is kept_is are false lost come = record {
  kept_is = after_parts s laws k a last last fs kept within kept_is (still_last s laws k a last fs kept within kept_is
      lost);
  open_upto = open_upto past (map HeardControls (parts_at s a fs)) (come.same.closed ∙ are.open_yet);
  writes = come.calm;
}
