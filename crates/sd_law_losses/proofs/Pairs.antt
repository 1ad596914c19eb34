-- What is written between two messages of a broadcast.
use Rattle.std.proofs.Common.{◌≡◌, refl, ℕ, ◌-◌, ◌*◌, ◌<◌, ◌≤◌, true, false}
use Rattle.std.proofs.Common.{nat_lt, List, map, length, take}
use Rattle.std.proofs.Common.{arith, sym, ap, ◌∙◌, inl, inr}
use Rattle.std.specs.Option.{option_map_or}
use Rattle.std.proofs.lemmas.List.{take_all}
use Rattle.std.proofs.lemmas.Bool.{cases_lt}
use Rattle.std.proofs.lemmas.Bool.Decides.{nat_tests}
use Rattle.std.proofs.Math.Nat.{mul-le-mul_right}
use Rattle.sd_packet.specs.Positions.{moved_by}
use Rattle.sd_site_cards.specs.SiteFields.{AreInRange}
use Rattle.sd_message.specs.EcmParts.{Message}
use Rattle.sd_message.specs.declared.ecm_part.Place.{Place}
use Rattle.sd_spec.specs.Plan.{word_of, period_of, since_of}
use Rattle.sd_spec.specs.Messages.{message_at, places_after}
use Rattle.sd_spec.specs.Sent.{Item}
use Rattle.sd_spec.proofs.Schedule.{closing_covers, closing_needed}
use Rattle.sd_spec.specs.Confirmed.{Segment, tracked, position_in}
use Rattle.sd_law_losses.specs.Kept.{is_kept, kept_in}
use Rattle.sd_law_losses.specs.Confirmed.{packet_at, upto}
use Rattle.sd_law_losses.proofs.Places.{told_start}
use Rattle.sd_law_losses.proofs.Traced.{moved_alike}
use Rattle.sd_law_losses.proofs.Tracking.{true_at, near_at}
use Rattle.sd_law_losses.proofs.Setting.{Setting, AreLaws, final, told_by, carried_at}

-- the number of the packet before which message a stands
abbrev pub start_of : Setting → ℕ → ℕ
start_of s a = a * s.plan.site.every

-- and of those before the next ones
abbrev pub end_of : Setting → ℕ → ℕ
end_of s b = upto s.plan s.clear b

-- a message that isn't the last stands before a packet
pub before_packet : (s : Setting) (a : ℕ) → a < final s →
    told_by s a ≡ message_at s.plan (take (start_of s a) s.clear) a (start_of s a) false
unfolding told_by
before_packet s a below = let test : nat_lt a (final s) ≡ true = grind (arith, nat_tests, below) in rw test refl

pub closing_is : (s : Setting) (a : ℕ) → final s ≤ a →
    told_by s a ≡ message_at s.plan s.clear a (length s.clear - 1) true
unfolding told_by
closing_is s a above = let test : nat_lt a (final s) ≡ false = grind (arith, nat_tests, above) in rw test refl

pub number_is : (s : Setting) (a : ℕ) → (told_by s a).number ≡ a
unfolding message_at
number_is s a = elim (cases_lt a (final s)) [
  | inl below ↦ ap (λ (m : Message). m.number) (before_packet s a below)
  | inr above ↦ ap (λ (m : Message). m.number) (closing_is s a above)
]

pub since_is : (s : Setting) (a : ℕ) → (told_by s a).since ≡ since_of s.plan.site.messages s.plan.site.cryptos a
unfolding message_at
since_is s a = elim (cases_lt a (final s)) [
  | inl below ↦ ap (λ (m : Message). m.since) (before_packet s a below)
  | inr above ↦ ap (λ (m : Message). m.since) (closing_is s a above)
]

pub period_is : (s : Setting) (a : ℕ) → a < final s → (told_by s a).period ≡ period_of s.plan (start_of s a)
unfolding message_at
period_is s a below = ap (λ (m : Message). m.period) (before_packet s a below)

pub word_is : (s : Setting) (a : ℕ) → a < final s → (told_by s a).word ≡ word_of s.plan.site (start_of s a)
unfolding message_at
word_is s a below = ap (λ (m : Message). m.word) (before_packet s a below)

-- the clear packets before a message that isn't the last
pub end_is : (s : Setting) (a : ℕ) → AreInRange s.plan.site → a < final s → end_of s a ≡ start_of s a
end_is s a range below = omega (arith, closing_needed s.plan.site (length s.clear) a range below)

pub end_is_all : (s : Setting) (b : ℕ) → AreInRange s.plan.site → b ≡ final s → end_of s b ≡ length s.clear
end_is_all s b range last =
    let covers = closing_covers s.plan.site (length s.clear) range in
    rw last (omega (arith, covers))

pub places_are : (s : Setting) (b : ℕ) → AreInRange s.plan.site → b ≤ final s →
    (told_by s b).places ≡ places_after (take (end_of s b) s.clear)
unfolding message_at
places_are s b range within = elim (cases_lt b (final s)) [
  | inl below ↦ ap (λ (m : Message). m.places) (before_packet s b below)
      ∙ ap (λ (n : ℕ). places_after (take n s.clear)) (sym (end_is s b range below))
  | inr above ↦ ap (λ (m : Message). m.places) (closing_is s b above)
      ∙ ap places_after (sym (ap (λ (n : ℕ). take n s.clear) (end_is_all s b range (omega (arith, within, above)))
      ∙ take_all (length s.clear) s.clear (omega arith)))
]

-- two messages, the second one later
pub record IsPair (s : Setting) (a b : ℕ) : Type 0 where
  pub below : a < b
  pub within : b ≤ final s

pub starts_within : (s : Setting) (a b : ℕ) → AreInRange s.plan.site → IsPair s a b →
    (start_of s a ≤ end_of s b) × (end_of s b ≤ length s.clear)
starts_within s a b range pair =
    let inside = closing_needed s.plan.site (length s.clear) a range (omega (arith, pair.below, pair.within)) in
    let order : start_of s a ≤ b * s.plan.site.every = mul-le-mul_right s.plan.site.every (omega (arith, pair.below)) in
    (omega (arith, inside, order), omega arith)

-- the segment between them, under this word
abbrev pub segment_of : Setting → List Item → ℕ → ℕ → List ℕ → Segment
segment_of s kept a b word = record {
  first = told_by s a;
  last = told_by s b;
  word = word;
  ca = s.card.ca;
  ecm = s.plan.site.ecm;
  packets = map (carried_at s) (kept_in kept (start_of s a) (end_of s b));
}

-- a tracked position of the receiver is the one of the kept clear packets
pub tracked_is : (s : Setting) (laws : AreLaws s) (kept : List Item) (a pid j : ℕ) → a < final s → 0x20 ≤ pid →
    pid ≤ 0x1FEF → start_of s a ≤ j → j ≤ length s.clear →
    tracked (told_by s a) pid (map (carried_at s) (kept_in kept (start_of s a) j)) ≡ near_at s.clear kept
    (start_of s a) pid j
unfolding tracked kept_in
tracked_is s laws kept a pid j below low high from within =
    ap (λ (places : List Place). moved_by pid (option_map_or (λ p. p) (position_in places pid) 15)
    (map (carried_at s) (kept_in kept (start_of s a) j)))
    (places_are s a laws.range (omega (arith, below)) ∙ ap (λ (n : ℕ). places_after (take n s.clear))
    (end_is s a laws.range below))
    ∙ (ap (λ (x : ℕ). moved_by pid x (map (carried_at s) (kept_in kept (start_of s a) j)))
    (told_start (take (start_of s a) s.clear) pid low high)
    ∙ moved_alike pid (carried_at s) (packet_at s.clear) (is_kept kept) (start_of s a) (j - start_of s a)
    (λ i x above before. laws.moves i pid x (omega (arith, above, before, from, within)))
    (true_at s.clear pid (start_of s a)))
