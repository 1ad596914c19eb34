-- A receiver that took the CAT of a broadcast, from some clear packet on.
use Rattle.std.proofs.Common.{◌≡◌, refl, ℕ, zero, suc, ◌+◌, ◌-◌, ◌<◌, ◌≤◌, ◌==◌, Bool, true, false}
use Rattle.std.proofs.Common.{List, [], ◌++◌, map, length, take, drop, Option, Some, if◌then◌else◌}
use Rattle.std.proofs.Common.{arith, sym, ap, ◌∙◌, subst, append_assoc}
use Rattle.std.specs.Prelude.{All}
use Rattle.std.specs.List.{list_any}
use Rattle.std.proofs.lemmas.Bool.Decides.{nat_tests}
use Rattle.sd_base.proofs.Lists.{all_first}
use Rattle.sd_message.specs.EcmParts.{parts_of}
use Rattle.sd_spec.specs.Plan.{period_of, closing_number}
use Rattle.sd_spec.specs.Sent.{Item, Controls, tables_at, closing_of, packets_from}
use Rattle.sd_spec.specs.Items.{IsOfBroadcast}
use Rattle.sd_spec.proofs.Schedule.{periods_rise}
use Rattle.sd_spec.specs.Heard.{Heard}
use Rattle.sd_spec.specs.Offered.{heard}
use Rattle.sd_law_losses.specs.Chosen.{chosen}
use Rattle.sd_law_losses.specs.Kept.{is_carried, has_arrived}
use Rattle.sd_law_losses.proofs.Writing.{onto, Writes, writes_append, IsOpenUpto, open_upto, open_append}
use Rattle.sd_law_losses.proofs.Arriving.{is_of, arrived_stays}
use Rattle.sd_law_losses.proofs.Setting.{Setting, AreLaws, tuning_at, final, told_by}
use Rattle.sd_law_losses.proofs.Facts.{AreKept, AreHeard, Passes, IsLast, from_last}
use Rattle.sd_law_losses.proofs.Hearing.{AreHearable, heard_from, heard_append, ComesTo, packets_come, IsTuned}
use Rattle.sd_law_losses.proofs.Remaining.{group_at, rest_at, rest_more, rest_none, closing_items}
use Rattle.sd_law_losses.proofs.Later.{chosen_append, chosen_fails, numbers_later, packets_later}
use Rattle.sd_law_losses.proofs.Confirming.{confirmed_in}
use Rattle.sd_law_losses.proofs.Groups.{Goes, tables_pass, group_goes, may_rise}
use Rattle.sd_law_losses.proofs.Writings.{IsLastBefore, last_before, moves_confirmed}
use Rattle.sd_law_losses.proofs.Losses.{all_second, packets_chosen, AreWritten, written_first, written_all}
use Rattle.sd_law_losses.proofs.Losses.{closing_written}

-- what is written of what is left, after these things
abbrev pub IsWrittenFrom : Setting → List Item → List Item → List Bool → List (List ℕ) → Option ℕ → List Item → Type 0
IsWrittenFrom s earlier items fs past last kept =
    AreWritten s past (chosen fs (packets_from s.plan.site earlier items))
    (confirmed_in s (kept ++ chosen fs items) (from_last s last) (length s.clear))

-- the closing message, and the tables before it where there is no packet
pub end_heard : (s : Setting) (laws : AreLaws s) (p i : ℕ) (last : Option ℕ) (fs : List Bool) (kept : List Item)
    (past : List Heard)
    (some : Bool) → (length s.clear == 0) ≡ some →
    p ≤ period_of s.plan (length s.clear - 1) → AreKept (length s.clear) (final s) last kept →
    AreHeard s (length s.clear) p (final s) last kept past →
    (IsOpenUpto past (heard_from i (chosen fs ((if some then tables_at s.plan 0 else []) ++ map Controls (parts_of
    (told_by s (final s))))))
    × Writes s.card (tuning_at s) past
    (heard_from i (chosen fs ((if some then tables_at s.plan 0 else []) ++ map Controls (parts_of (told_by s
    (final s))))))
    (confirmed_in s (kept ++ chosen fs ((if some then tables_at s.plan 0 else []) ++ map Controls (parts_of
    (told_by s (final s)))))
    (from_last s last) (length s.clear)))
end_heard s laws p i last fs kept past false is rises kept_is are = closing_written s laws p i last fs kept past rises
    kept_is are
end_heard s laws p i last fs kept past true is rises kept_is are =
    subst (λ (items : List Item). IsOpenUpto past (heard_from i items) × Writes s.card (tuning_at s) past
    (heard_from i items)
    (confirmed_in s (kept ++ items) (from_last s last) (length s.clear)))
    (sym (chosen_append fs (tables_at s.plan 0) (map Controls (parts_of (told_by s (final s))))))
    (subst (λ (hs : List Heard). IsOpenUpto past hs × Writes s.card (tuning_at s) past hs
    (confirmed_in s (kept ++ (xs ++ ys)) (from_last s last) (length s.clear))) (sym (heard_append i xs ys)) (
      open_append past (heard_from i xs) (heard_from (length xs + i) ys)
          (open_upto past (heard_from i xs) first.heard_is.open_yet) then_is.0,
      subst (Writes s.card (tuning_at s) past (heard_from i xs ++ heard_from (length xs + i) ys))
          (ap (λ (all : List Item). confirmed_in s all (from_last s last) (length s.clear)) (append_assoc kept xs ys))
          (writes_append s.card (tuning_at s) past (heard_from i xs) (heard_from (length xs + i) ys) []
          (confirmed_in s ((kept ++ xs) ++ ys) (from_last s last) (length s.clear)) first.writes then_is.1),
    ))
  where
    xs : List Item
    xs = chosen (take (length (tables_at s.plan 0)) fs) (tables_at s.plan 0)

    ys : List Item
    ys = chosen (drop (length (tables_at s.plan 0)) fs) (map Controls (parts_of (told_by s (final s))))

    empty : length s.clear ≡ 0
    empty = grind (arith, nat_tests, is)

    first_period : length s.clear - 1 ≡ 0
    first_period = omega (arith, empty)

    first : Passes s (length s.clear) (period_of s.plan 0) (final s) last (kept ++ xs) past (heard_from i xs) []
    first = tables_pass s laws 0 (length s.clear) (final s) i last (take (length
        (tables_at s.plan 0)) fs) kept past kept_is
        (may_rise s (length s.clear) p (period_of s.plan 0) (final s) last kept past
        (omega (arith, rises, ap (period_of s.plan) first_period)) are)

    then_is : IsOpenUpto (onto (heard_from i xs) past) (heard_from (length xs + i) ys)
        × Writes s.card (tuning_at s) (onto (heard_from i xs) past) (heard_from (length xs + i) ys)
        (confirmed_in s ((kept ++ xs) ++ ys) (from_last s last) (length s.clear))
    then_is = closing_written s laws (period_of s.plan 0) (length xs + i) last (drop (length
        (tables_at s.plan 0)) fs) (kept ++ xs)
        (onto (heard_from i xs) past) (omega (arith, ap (period_of s.plan) first_period)) first.kept_is first.heard_is

-- what is left after the last packet
end_written : (s : Setting) (laws : AreLaws s) (able : AreHearable s) (p : ℕ) (last : Option ℕ) (fs : List Bool)
    (earlier kept : List Item) (past : List (List ℕ)) → All (IsOfBroadcast s.plan s.clear) (closing_of s.plan s.clear) →
    IsTuned s past → p ≤ period_of s.plan (length s.clear - 1) →
    AreKept (length s.clear) (final s) last kept → AreHeard s (length s.clear) p (final s) last kept
    (heard s.card past) →
    IsWrittenFrom s earlier (closing_of s.plan s.clear) fs past last kept
end_written s laws able p last fs earlier kept past all tuned rises is are =
    written_all s able (closing_of s.plan s.clear) earlier fs past
    (confirmed_in s (kept ++ chosen fs (closing_of s.plan s.clear)) (from_last s last)
    (length s.clear)) all tuned ends.0 ends.1
  where
    ends : IsOpenUpto (heard s.card past) (heard_from (length past) (chosen fs (closing_of s.plan s.clear)))
        × Writes s.card (tuning_at s) (heard s.card past) (heard_from (length past) (chosen fs
        (closing_of s.plan s.clear)))
        (confirmed_in s (kept ++ chosen fs (closing_of s.plan s.clear)) (from_last s last) (length s.clear))
    ends = subst (λ (items : List Item). IsOpenUpto (heard s.card past) (heard_from (length past) (chosen fs items))
        × Writes s.card (tuning_at s) (heard s.card past) (heard_from (length past) (chosen fs items))
        (confirmed_in s (kept ++ chosen fs items) (from_last s last) (length s.clear))) (sym (closing_items s))
        (end_heard s laws p (length past) last fs kept (heard s.card past) (length s.clear == 0) refl rises is are)

-- what was heard of a group comes to what is written of it, and then the rest
pub group_written : (s : Setting) (laws : AreLaws s) (able : AreHearable s) (k p q n m : ℕ) (last : Option ℕ)
    (fs : List Bool)
    (group rest earlier kept : List Item) (past : List (List ℕ)) → k < length s.clear →
    closing_number s.plan.site k ≡ n →
    closing_number s.plan.site (k + 1) ≡ m → from_last s last ≤ k →
    All (IsOfBroadcast s.plan s.clear) (group ++ rest) →
    IsTuned s past → IsLast n kept last →
    ((b : ℕ) → b < n → list_any (is_of b) (group ++ rest) ≡ false) →
    ((b : ℕ) → b < m → list_any (is_of b) rest ≡ false) →
    (goes : Goes s (kept ++ (chosen (take (length group) fs) group ++ chosen (drop (length group) fs) rest)) k
    (k + 1) q m last
    (kept ++ chosen (take (length group) fs) group) (heard s.card past)
    (heard_from (length past) (chosen (take (length group) fs) group))) →
    (IsTuned s (onto (chosen (take (length group) fs) (packets_from s.plan.site earlier group)) past) →
    AreHeard s (k + 1) q m goes.next (kept ++ chosen (take (length group) fs) group)
    (heard s.card (onto (chosen (take (length group) fs) (packets_from s.plan.site earlier group)) past)) →
    IsWrittenFrom s (earlier ++ group) rest (drop (length group) fs)
    (onto (chosen (take (length group) fs) (packets_from s.plan.site earlier group)) past) goes.next
    (kept ++ chosen (take (length group) fs) group)) →
    IsWrittenFrom s earlier (group ++ rest) fs past last kept
group_written s laws able k p q n m last fs group rest earlier kept past within number next_number begun all tuned
    lasts none none_later goes more =
    subst (λ (ps : List (List ℕ)). AreWritten s past ps (confirmed_in s (kept ++ chosen fs (group ++ rest))
    (from_last s last) (length s.clear)))
    (sym (packets_chosen s.plan.site earlier group rest fs))
    (subst (AreWritten s past (chosen (take (length group) fs) (packets_from s.plan.site earlier group)
    ++ chosen (drop (length group) fs) (packets_from s.plan.site (earlier ++ group) rest))) joined
    (written_first s past (chosen (take (length group) fs) (packets_from s.plan.site earlier group))
    (chosen (drop (length group) fs) (packets_from s.plan.site (earlier ++ group) rest))
    (heard_from (length past) xs) goes.wrote (confirmed_in s ((kept ++ xs) ++ ys) (from_last s goes.next)
    (length s.clear)) come
    (more come.tuned (subst (AreHeard s (k + 1) q m goes.next (kept ++ xs)) (sym come.heard_is) goes.passes.heard_is))))
  where
    xs : List Item
    xs = chosen (take (length group) fs) group

    ys : List Item
    ys = chosen (drop (length group) fs) rest

    come : ComesTo s past (chosen (take (length group) fs) (packets_from s.plan.site earlier group))
        (chosen (drop (length group) fs) (packets_from s.plan.site (earlier ++ group) rest)) (heard_from
        (length past) xs) goes.wrote
    come = packets_come s able group earlier (take (length group) fs) past
        (chosen (drop (length group) fs) (packets_from s.plan.site (earlier ++ group) rest)) goes.wrote
        (all_first (IsOfBroadcast s.plan s.clear) group rest all) tuned
        (open_upto (heard s.card past) (heard_from (length past) xs) goes.passes.heard_is.open_yet) goes.passes.writes

    there : (a : ℕ) → closing_number s.plan.site k ≡ a → goes.next ≡ Some a → has_arrived (kept ++ (xs ++ ys)) a ≡ true
    there a number is =
        let known : IsLast m (kept ++ xs) (Some a) = subst (IsLast m (kept ++ xs)) is goes.passes.kept_is.last_is in
        ap (λ (items : List Item). has_arrived items a) (sym (append_assoc kept xs ys))
        ∙ (arrived_stays (kept ++ xs) ys a (chosen_fails (is_of a) (drop (length group) fs) rest
        (none_later a known.0)) ∙ known.1)

    before : IsLastBefore (kept ++ (xs ++ ys)) last (closing_number s.plan.site k)
    before = subst (λ (items : List Item). IsLastBefore (kept ++ items) last (closing_number s.plan.site k))
        (chosen_append fs group rest)
        (subst (IsLastBefore (kept ++ chosen fs (group ++ rest)) last) (sym number)
        (last_before kept (chosen fs (group ++ rest)) last n lasts
        (λ b below. chosen_fails (is_of b) fs (group ++ rest) (none b below))))

    joined : goes.wrote ++ confirmed_in s ((kept ++ xs) ++ ys) (from_last s goes.next) (length s.clear)
        ≡ confirmed_in s (kept ++ chosen fs (group ++ rest)) (from_last s last) (length s.clear)
    joined = ap (λ (items : List Item). goes.wrote ++ confirmed_in s items (from_last s goes.next) (length s.clear))
        (append_assoc kept xs ys)
        ∙ (moves_confirmed s (kept ++ (xs ++ ys)) k last goes.next goes.wrote laws.range within begun goes.moves there
        before
        ∙ ap (λ (items : List Item). confirmed_in s (kept ++ items) (from_last s last) (length s.clear)) (sym
        (chosen_append fs group rest)))

-- of the packets from k on those of packet k go first
pub tuned_goes : (s : Setting) (laws : AreLaws s) (n k : ℕ) (last : Option ℕ) (fs : List Bool) (kept : List Item)
    (past : List (List ℕ)) → k + suc n ≡ length s.clear → AreKept k (closing_number s.plan.site k) last kept →
    AreHeard s k (period_of s.plan (k - 1)) (closing_number s.plan.site k) last kept (heard s.card past) →
    Goes s (kept ++ (chosen (take (length (group_at s k)) fs) (group_at s k) ++ chosen (drop (length
    (group_at s k)) fs) (rest_at s (k + 1))))
    k (k + 1) (period_of s.plan k) (closing_number s.plan.site (k + 1)) last
    (kept ++ chosen (take (length (group_at s k)) fs) (group_at s k)) (heard s.card past)
    (heard_from (length past) (chosen (take (length (group_at s k)) fs) (group_at s k)))
tuned_goes s laws n k last fs kept past count is are =
    group_goes s laws k (period_of s.plan (k - 1)) (length past) last (take (length (group_at s k)) fs) kept
    (chosen (drop (length (group_at s k)) fs) (rest_at s (k + 1))) (heard s.card past) within
    (periods_rise s.plan (k - 1) k laws.range (omega arith))
    (λ j below. chosen_fails (is_carried j) (drop (length (group_at s k)) fs) (rest_at s (k + 1))
    (packets_later s laws n (k + 1) j (omega (arith, count)) below)) is are
  where
    within : k < length s.clear
    within = omega (arith, count)

-- so what is written from packet k on is what is confirmed from the last message on
pub tuned_written : (s : Setting) (laws : AreLaws s) (able : AreHearable s) (n k : ℕ) (last : Option ℕ) (fs : List Bool)
    (earlier kept : List Item) (past : List (List ℕ)) → k + n ≡ length s.clear →
    All (IsOfBroadcast s.plan s.clear) (rest_at s k) → IsTuned s past →
    AreKept k (closing_number s.plan.site k) last kept →
    AreHeard s k (period_of s.plan (k - 1)) (closing_number s.plan.site k) last kept (heard s.card past) →
    IsWrittenFrom s earlier (rest_at s k) fs past last kept
tuned_written s laws able zero k last fs earlier kept past count all tuned is are =
    subst (λ (items : List Item). IsWrittenFrom s earlier items fs past last kept) (sym ends)
    (end_written s laws able (period_of s.plan (length s.clear - 1)) last fs earlier kept past
    (subst (All (IsOfBroadcast s.plan s.clear)) ends all) tuned (omega arith)
    (subst (λ (j : ℕ). AreKept j (closing_number s.plan.site j) last kept) here is)
    (subst (λ (j : ℕ). AreHeard s j (period_of s.plan (j - 1)) (closing_number s.plan.site j) last kept
    (heard s.card past)) here are))
  where
    here : k ≡ length s.clear
    here = omega (arith, count)

    ends : rest_at s k ≡ closing_of s.plan s.clear
    ends = ap (rest_at s) here ∙ rest_none s
tuned_written s laws able (suc n) k last fs earlier kept past count all tuned is are =
    subst (λ (items : List Item). IsWrittenFrom s earlier items fs past last kept) (sym parts)
    (group_written s laws able k (period_of s.plan (k - 1)) (period_of s.plan k) (closing_number s.plan.site k)
    (closing_number s.plan.site (k + 1)) last fs (group_at s k) (rest_at s
    (k + 1)) earlier kept past within refl refl are.begun
    all_parts tuned is.last_is
    (λ b below. ap (list_any (is_of b)) (sym parts) ∙ numbers_later s laws (suc n) k b count below)
    (λ b below. numbers_later s laws n (k + 1) b (omega (arith, count)) below)
    goes
    (λ tuned_then heard_then. tuned_written s laws able n (k + 1) goes.next (drop (length (group_at s k)) fs)
    (earlier ++ group_at s k) (kept ++ chosen (take (length (group_at s k)) fs) (group_at s k))
    (onto (chosen (take (length (group_at s k)) fs) (packets_from s.plan.site earlier (group_at s k))) past)
    (omega (arith, count)) (all_second (IsOfBroadcast s.plan s.clear) (group_at s k) (rest_at s (k + 1)) all_parts)
    tuned_then goes.passes.kept_is
    (subst (λ (j : ℕ). AreHeard s (k + 1) (period_of s.plan j) (closing_number s.plan.site (k + 1)) goes.next
    (kept ++ chosen (take (length (group_at s k)) fs) (group_at s k))
    (heard s.card (onto (chosen (take (length (group_at s k)) fs) (packets_from s.plan.site earlier
    (group_at s k))) past)))
    (omega arith) heard_then)))
  where
    within : k < length s.clear
    within = omega (arith, count)

    parts : rest_at s k ≡ group_at s k ++ rest_at s (k + 1)
    parts = rest_more s k laws.range within

    all_parts : All (IsOfBroadcast s.plan s.clear) (group_at s k ++ rest_at s (k + 1))
    all_parts = subst (All (IsOfBroadcast s.plan s.clear)) parts all

    goes : Goes s (kept ++ (chosen (take (length (group_at s k)) fs) (group_at s k) ++ chosen (drop (length
        (group_at s k)) fs) (rest_at s (k + 1))))
        k (k + 1) (period_of s.plan k) (closing_number s.plan.site (k + 1)) last
        (kept ++ chosen (take (length (group_at s k)) fs) (group_at s k)) (heard s.card past)
        (heard_from (length past) (chosen (take (length (group_at s k)) fs) (group_at s k)))
    goes = tuned_goes s laws n k last fs kept past count is are
