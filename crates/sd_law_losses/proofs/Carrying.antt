-- What a receiver makes of a clear packet of a broadcast, as it is carried.
use Rattle.std.proofs.Common.{◌≡◌, refl, ℕ, ◌+◌, ◌-◌, ◌<◌, ◌≤◌, ◌==◌, ◌||◌, Bool, true, false}
use Rattle.std.proofs.Common.{List, [], ◌∷◌, ◌++◌, map, Option, arith, sym, ap, ◌∙◌}
use Rattle.std.specs.List.{list_any}
use Rattle.std.proofs.lemmas.List.{map-append, reverse-append}
use Rattle.std.proofs.lemmas.List.Folds.{list_any-append}
use Rattle.std.proofs.lemmas.Bool.Decides.{nat_tests}
use Rattle.sd_base.proofs.Ranges.{filter_range}
use Rattle.sd_spec.specs.Sent.{Item, Carries}
use Rattle.sd_spec.specs.Heard.{Heard, Other}
use Rattle.sd_spec.specs.Stretches.{messages, newest_message, counted_parts, current, sections_seen, is_closed, others}
use Rattle.sd_spec.specs.Stretches.{held_in}
use Rattle.sd_law_losses.specs.Kept.{is_kept, is_carried, kept_in, entitles, is_section_item}
use Rattle.sd_law_losses.proofs.Tracking.{kept_more, kept_none}
use Rattle.sd_law_losses.proofs.Arriving.{is_of}
use Rattle.sd_law_losses.proofs.Setting.{Setting, carried_at, key_where}
use Rattle.sd_law_losses.proofs.Between.{packets_held}
use Rattle.sd_law_losses.proofs.Facts.{AreKept, AreHeard, from_last, last_stays, keyed_stays, any_last, any_more}
use Rattle.sd_law_losses.proofs.Facts.{told_same, keys_same}

-- the packet that is carried
abbrev pub carrying : Setting → ℕ → Item
carrying s k = Carries k (carried_at s k)

-- items that carry no packet below high leave what is kept below it
pub kept_below : (kept later : List Item) (low high : ℕ) → ((j : ℕ) → j < high → list_any
    (is_carried j) later ≡ false) →
    low ≤ high → kept_in (kept ++ later) low high ≡ kept_in kept low high
unfolding kept_in
kept_below kept later low high none within =
    filter_range (is_kept (kept ++ later)) (is_kept kept) low (high - low)
    (λ j from below. list_any-append (is_carried j) kept later
    ∙ (ap (λ (b : Bool). list_any (is_carried j) kept || b) (none j (omega (arith, from, below, within)))
    ∙ or_none (list_any (is_carried j) kept)))
  where
    or_none : (b : Bool) → (b || false) ≡ b
    or_none true = refl
    or_none false = refl

not_carried : (s : Setting) (k j : ℕ) → (k == j) ≡ false → list_any (is_carried j) (carrying s k ∷ []) ≡ false
not_carried s k j other = rw other refl

-- a clear packet that is kept
pub carried_kept : (s : Setting) (k n : ℕ) (last : Option ℕ) (kept : List Item) → AreKept k n last kept →
    AreKept (k + 1) n last (kept ++ carrying s k ∷ [])
carried_kept s k n last kept are = record {
  last_is = last_stays n last kept (carrying s k ∷ []) (λ a. refl) are.last_is;
  none = λ a above. any_last (is_of a) kept (carrying s k) (are.none a above) refl;
  passed = λ j above. any_last (is_carried j) kept (carrying s k) (are.passed j (omega (arith, above)))
      (grind (arith, nat_tests, above));
}

-- it is the last one that is kept
kept_with : (s : Setting) (kept : List Item) (low k : ℕ) → low ≤ k →
    kept_in (kept ++ carrying s k ∷ []) low (k + 1) ≡ kept_in kept low k ++ k ∷ []
kept_with s kept low k from =
    kept_more (kept ++ carrying s k ∷ []) low k from there
    ∙ ap (λ (js : List ℕ). js ++ k ∷ []) (kept_below kept (carrying s k ∷ []) low k
    (λ j below. not_carried s k j (grind (arith, nat_tests, below))) from)
  where
    itself : (k == k) ≡ true
    itself = grind (arith, nat_tests)

    or_true : (b : Bool) → (b || true) ≡ true
    or_true true = refl
    or_true false = refl

    there : is_kept (kept ++ carrying s k ∷ []) k ≡ true
    there = list_any-append (is_carried k) kept (carrying s k ∷ []) ∙ (rw itself (or_true (list_any
        (is_carried k) kept)))

pub carried_heard : (s : Setting) (k p n i : ℕ) (last : Option ℕ) (kept : List Item) (past : List Heard) →
    AreHeard s k p n last kept past →
    AreHeard s (k + 1) p n last (kept ++ carrying s k ∷ []) (Other i (carried_at s k) ∷ past)
unfolding is_closed current sections_seen newest_message counted_parts others messages
carried_heard s k p n i last kept past are = record {
  open_yet = rw (are.open_yet) refl;
  now = omega (arith, are.now);
  sections = are.sections;
  keys = λ q. are.keys q
      ∙ ap (key_where s q) (sym (any_more (entitles s.plan.site.height s.card.leaf q) kept (carrying s k) refl));
  message = are.message;
  keyed = keyed_stays s kept past (Other i (carried_at s k) ∷ past) last (carrying s k ∷ []) refl are.keyed;
  parts = are.parts;
  held = ap packets_held (reverse-append ((i, carried_at s k) ∷ []) (others (newest_message past).after))
      ∙ (map-append (λ held. held.1) (held_in (newest_message past)) ((i, carried_at s k) ∷ [])
      ∙ (ap (λ (ps : List (List ℕ)). ps ++ carried_at s k ∷ []) are.held
      ∙ (sym (map-append (carried_at s) (kept_in kept (from_last s last) k) (k ∷ []))
      ∙ ap (map (carried_at s)) (sym (kept_with s kept (from_last s last) k are.begun)))));
  begun = omega (arith, are.begun);
  indexes = λ q x. are.indexes q x ∙ sym (any_more (is_section_item q x) kept (carrying s k) refl);
  told = are.told ∙ told_same s n kept (carrying s k ∷ []) (λ a. refl);
  taken = λ bound above. keys_same s kept (carrying s k ∷ []) past (Other i (carried_at s k)) p bound refl
      (λ q. any_more (entitles s.plan.site.height s.card.leaf q) kept (carrying s k) refl) (are.taken bound above);
}

-- and one that is lost
pub lost_kept : (k n : ℕ) (last : Option ℕ) (kept : List Item) → AreKept k n last kept → AreKept (k + 1) n last kept
lost_kept k n last kept are = record {
  last_is = are.last_is;
  none = are.none;
  passed = λ j above. are.passed j (omega (arith, above));
}

pub lost_heard : (s : Setting) (k p n : ℕ) (last : Option ℕ) (kept : List Item) (past : List Heard) →
    AreKept k n last kept → AreHeard s k p n last kept past → AreHeard s (k + 1) p n last kept past
lost_heard s k p n last kept past is are = record {
  open_yet = are.open_yet;
  now = are.now;
  sections = are.sections;
  keys = are.keys;
  message = are.message;
  keyed = are.keyed;
  parts = are.parts;
  held = are.held ∙ ap (map (carried_at s)) (sym (kept_none kept (from_last s last) k are.begun (is.passed k
      (omega arith))));
  begun = omega (arith, are.begun);
  indexes = are.indexes;
  told = are.told;
  taken = are.taken;
}
