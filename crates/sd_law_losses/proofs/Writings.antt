-- What is written up to a message is what is confirmed.
use Rattle.std.proofs.Common.{◌≡◌, ℕ, ◌+◌, ◌-◌, ◌*◌, ◌<◌, ◌≤◌, true, false}
use Rattle.std.proofs.Common.{List, [], ◌++◌, map, filter, length, Option, Some, None}
use Rattle.std.proofs.Common.{arith, sym, ap, ◌∙◌, inl, inr, subst}
use Rattle.std.specs.List.{list_any, range_with_len}
use Rattle.std.proofs.lemmas.List.{map-append}
use Rattle.std.proofs.lemmas.List.Elements.{filter-append}
use Rattle.sd_base.proofs.Ranges.{range_parts}
use Rattle.sd_site_cards.specs.SiteFields.{AreInRange}
use Rattle.sd_spec.specs.Plan.{closing_number}
use Rattle.sd_spec.specs.Sent.{Item}
use Rattle.sd_law_losses.specs.Kept.{has_arrived}
use Rattle.sd_law_losses.specs.Confirmed.{packet_at}
use Rattle.sd_law_losses.proofs.Arriving.{is_of, arrived_stays}
use Rattle.sd_law_losses.proofs.Setting.{Setting, final}
use Rattle.sd_law_losses.proofs.Pairs.{start_of, end_of}
use Rattle.sd_law_losses.proofs.Facts.{IsLast, from_last}
use Rattle.sd_law_losses.proofs.Completing.{written_at}
use Rattle.sd_law_losses.proofs.Confirming.{confirms, confirmed_in, pair_confirmed, none_before, none_after}
use Rattle.sd_law_losses.proofs.Groups.{Moves}

-- the last message that has arrived before number a
abbrev pub IsLastBefore : List Item → Option ℕ → ℕ → Type 0
IsLastBefore kept None a = (b : ℕ) → b < a → has_arrived kept b ≡ false
IsLastBefore kept (Some c) a =
    (c < a) × (has_arrived kept c ≡ true) × ((b : ℕ) → c < b → b < a → has_arrived kept b ≡ false)

-- it is so with what comes later, which has no part of an earlier message
pub last_before : (kept more : List Item) (last : Option ℕ) (a : ℕ) → IsLast a kept last →
    ((b : ℕ) → b < a → list_any (is_of b) more ≡ false) → IsLastBefore (kept ++ more) last a
last_before kept more None a is none = λ b below. arrived_stays kept more b (none b below) ∙ is b
last_before kept more (Some c) a is none = (
  is.0,
  arrived_stays kept more c (none c is.0) ∙ is.1,
  λ b above below. arrived_stays kept more b (none b below) ∙ is.2 b above,
)

-- what is written with message a, after the last one before it
pub written_confirmed : (s : Setting) (kept : List Item) (last : Option ℕ) (a : ℕ) → AreInRange s.plan.site →
    a ≤ final s →
    has_arrived kept a ≡ true → IsLastBefore kept last a →
    written_at s kept last a ≡ confirmed_in s kept (from_last s last) (end_of s a)
written_confirmed s kept None a range within there none = sym (none_before s kept a (end_of s a) range
    (omega arith) none)
written_confirmed s kept (Some c) a range within there before =
    pair_confirmed s kept c a range (record { below = before.0; within = within }) before.1 there before.2

-- what is confirmed in two parts
pub confirmed_parts : (s : Setting) (kept : List Item) (low mid high : ℕ) → low ≤ mid → mid ≤ high →
    confirmed_in s kept low mid ++ confirmed_in s kept mid high ≡ confirmed_in s kept low high
confirmed_parts s kept low mid high below within =
    let all : high - low ≡ (mid - low) + (high - mid) = omega (arith, below, within) in
    let from : low + (mid - low) ≡ mid = omega (arith, below) in
    sym (ap (λ (n : ℕ). map (packet_at s.clear) (filter (confirms s kept) (range_with_len low n))) all
    ∙ (ap (λ (js : List ℕ). map (packet_at s.clear) (filter (confirms s kept) js)) (range_parts low (mid - low)
    (high - mid))
    ∙ (ap (map (packet_at s.clear)) (filter-append (confirms s kept) (range_with_len low (mid - low)) (range_with_len
    (low + (mid - low)) (high - mid)))
    ∙ (map-append (packet_at s.clear) (filter (confirms s kept) (range_with_len low (mid - low)))
    (filter (confirms s kept) (range_with_len (low + (mid - low)) (high - mid)))
    ∙ ap (λ (n : ℕ). confirmed_in s kept low mid ++ map (packet_at s.clear) (filter (confirms s kept)
    (range_with_len n (high - mid)))) from))))

-- what is written with packet k and what is confirmed from then on
pub moves_confirmed : (s : Setting) (kept : List Item) (k : ℕ) (last next : Option ℕ) (wrote : List (List ℕ)) →
    AreInRange s.plan.site → k < length s.clear → from_last s last ≤ k → Moves s kept last k next wrote →
    ((a : ℕ) → closing_number s.plan.site k ≡ a → next ≡ Some a → has_arrived kept a ≡ true) →
    IsLastBefore kept last (closing_number s.plan.site k) →
    wrote ++ confirmed_in s kept (from_last s next) (length s.clear) ≡ confirmed_in s kept (from_last s last)
    (length s.clear)
moves_confirmed s kept k last next wrote range within begun (inl (same, none)) there before =
    ap (λ (w : List (List ℕ)). w ++ confirmed_in s kept (from_last s next) (length s.clear)) none
    ∙ ap (λ (l : Option ℕ). confirmed_in s kept (from_last s l) (length s.clear)) same
moves_confirmed s kept k last next wrote range within begun (inr (a, inside, here, number, is, writes)) there before =
    let at : start_of s a ≡ k = omega (arith, here, within) in
    let first : wrote ≡ confirmed_in s kept (from_last s last) k =
    writes ∙ (written_confirmed s kept last a range inside (there a number is)
    (subst (IsLastBefore kept last) number before)
    ∙ ap (confirmed_in s kept (from_last s last)) here) in
    ap (λ (w : List (List ℕ)). w ++ confirmed_in s kept (from_last s next) (length s.clear)) first
    ∙ (ap (λ (l : Option ℕ). confirmed_in s kept (from_last s last) k ++ confirmed_in s kept (from_last s l)
    (length s.clear)) is
    ∙ (ap (λ (n : ℕ). confirmed_in s kept (from_last s last) k ++ confirmed_in s kept n (length s.clear)) at
    ∙ confirmed_parts s kept (from_last s last) k (length s.clear) begun (omega (arith, within))))

-- after the last message that arrives none is confirmed
pub rest_unconfirmed : (s : Setting) (kept : List Item) (n : ℕ) (last : Option ℕ) → AreInRange s.plan.site →
    IsLast n kept last → confirmed_in s kept (from_last s last) (length s.clear) ≡ []
rest_unconfirmed s kept n None range none =
    none_before s kept (length s.clear) (length s.clear) range (grown (length s.clear) s.plan.site.every (omega
    (arith, range.every.0)))
    (λ b below. none b)
  where
    grown : (m e : ℕ) → 0 < e → m ≤ m * e
    grown m e some = grind arith
rest_unconfirmed s kept n (Some c) range is = none_after s kept c (length s.clear) range is.2
