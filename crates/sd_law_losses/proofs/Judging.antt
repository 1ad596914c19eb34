-- How the packets held between two messages of a broadcast are judged.
use Rattle.std.proofs.Common.{◌≡◌, refl, ℕ, ◌+◌, ◌%◌, ◌<◌, ◌≤◌, ◌==◌, ◌&&◌, ◌||◌, Bool, true, false}
use Rattle.std.proofs.Common.{not, nat_le, List, [], ◌∷◌, ◌++◌, map, length, take, Option, Some}
use Rattle.std.proofs.Common.{arith, sym, ap, ◌∙◌, inl, inr, ◌⊎◌}
use Rattle.std.specs.Prelude.{if◌then◌else◌, Ok}
use Rattle.std.specs.Option.{option_map_or}
use Rattle.std.proofs.lemmas.List.{get_or-take, length-take, map-append}
use Rattle.std.proofs.lemmas.List.Folds.{list_any_at}
use Rattle.std.proofs.lemmas.Bool.{cases_Bool}
use Rattle.std.proofs.lemmas.Bool.Decides.{nat_tests}
use Rattle.sd_packet.specs.Header.{pid_of, scrambling_of}
use Rattle.sd_packet.specs.Positions.{is_placed, is_moving}
use Rattle.sd_packet.proofs.Positions.{next_position, own_moves}
use Rattle.sd_tree_keys.specs.Keys.{control_word_of}
use Rattle.sd_cipher.specs.Scrambling.{descrambled}
use Rattle.sd_message.specs.declared.ecm_part.Place.{Place}
use Rattle.sd_spec.specs.Plan.{word_of, since_of}
use Rattle.sd_spec.specs.Kinds.{kind_of, has_moved, is_scrambled}
use Rattle.sd_spec.specs.Carried.{place_after}
use Rattle.sd_spec.specs.Sent.{Item}
use Rattle.sd_spec.proofs.Schedule.{same_word}
use Rattle.sd_spec.specs.Confirmed.{Segment, tracked, is_confirmed, judged_packet, is_foreign, position_in}
use Rattle.sd_law_losses.specs.Kept.{is_kept, kept_in}
use Rattle.sd_law_losses.specs.Confirmed.{packet_at, tracked_position, is_traced}
use Rattle.sd_law_losses.proofs.Places.{told_position}
use Rattle.sd_law_losses.proofs.Tracking.{true_at, near_at, kept_more, near_exact}
use Rattle.sd_law_losses.proofs.Setting.{Setting, AreLaws, IsOpen, IsVeiled, told_by, carried_at}
use Rattle.sd_law_losses.proofs.Pairs.{start_of, end_of, IsPair, starts_within, segment_of, tracked_is, places_are}
use Rattle.sd_law_losses.proofs.Pairs.{word_is}

-- the PID of a placed packet is positional
placed_low : (packet : List ℕ) → is_placed packet ≡ true → 0x20 ≤ pid_of packet
placed_low packet placed = grind (arith, nat_tests, placed)

placed_high : (packet : List ℕ) → is_placed packet ≡ true → pid_of packet ≤ 0x1FEF
placed_high packet placed = grind (arith, nat_tests, placed)

-- a PID has moved once a packet of it came
moved_by_one : (clear : List (List ℕ)) (j high : ℕ) → j < high → high ≤ length clear →
    is_placed (packet_at clear j) ≡ true → has_moved (take high clear) (pid_of (packet_at clear j)) ≡ true
moved_by_one clear j high below within placed =
    list_any_at (is_moving (pid_of (packet_at clear j))) (take high clear) j []
    (omega (arith, length-take high clear, below, within))
    (ap (is_moving (pid_of (packet_at clear j))) (get_or-take high clear j [] below) ∙ own_moves
    (packet_at clear j) placed)

-- a packet behind message a and before message b, and its PID
module _ (s : Setting) (laws : AreLaws s) (kept : List Item) (a b j : ℕ) (pair : IsPair s a b)
    (below : j < end_of s b) where
  abbrev p : List ℕ
  p = packet_at s.clear j

  abbrev pid : ℕ
  pid = pid_of p

  bounds : (start_of s a ≤ end_of s b) × (end_of s b ≤ length s.clear)
  bounds = starts_within s a b laws.range pair

  -- the receiver confirms a PID exactly where its kept packets do
  pub confirmed_is : (word : List ℕ) → is_placed p ≡ true →
      is_confirmed (segment_of s kept a b word) pid ≡ is_traced s.plan s.clear kept a b pid
  unfolding is_confirmed is_traced tracked_position
  confirmed_is word placed =
      ap (λ (told : Option ℕ). option_map_or (λ position. nat_le (tracked (told_by s a) pid held) position
      && nat_le position (tracked (told_by s a) pid held + 15)) told false)
      told_there
      ∙ ap (λ (x : ℕ). nat_le x (true_at s.clear pid (end_of s b))
      && nat_le (true_at s.clear pid (end_of s b)) (x + 15))
      (tracked_is s laws kept a pid (end_of s b) (omega (arith, pair.below, pair.within)) (placed_low p placed)
      (placed_high p placed) bounds.0 bounds.1)
    where
      held : List (List ℕ)
      held = map (carried_at s) (kept_in kept (start_of s a) (end_of s b))

      told_there : position_in (told_by s b).places pid ≡ Some (true_at s.clear pid (end_of s b))
      told_there = ap (λ (places : List Place). position_in places pid) (places_are s b laws.range pair.within)
          ∙ (told_position (take (end_of s b) s.clear) pid (placed_low p placed) (placed_high p placed)
          ∙ rw (moved_by_one s.clear j (end_of s b) below bounds.1 placed) refl)

  -- the tracked position of a kept scrambled packet is its own where its PID is traced
  exact_place : start_of s a ≤ j → is_kept kept j ≡ true → IsVeiled s j →
      is_traced s.plan s.clear kept a b pid ≡ true →
      tracked (told_by s a) (pid_of (carried_at s j))
      (map (carried_at s) (kept_in kept (start_of s a) j) ++ carried_at s j ∷ []) ≡ place_after (take j s.clear) p
  unfolding is_traced tracked_position
  exact_place from is veiled near =
      ap (λ (x : ℕ). tracked (told_by s a) x (map (carried_at s) (kept_in kept
      (start_of s a) j) ++ carried_at s j ∷ [])) veiled.pid
      ∙ (ap (tracked (told_by s a) pid) (sym (map-append (carried_at s) (kept_in kept (start_of s a) j) (j ∷ []))
      ∙ ap (map (carried_at s)) (sym (kept_more kept (start_of s a) j from is)))
      ∙ (tracked_is s laws kept a pid (j + 1) (omega (arith, pair.below, pair.within))
      (placed_low p veiled.clear_placed) (placed_high p veiled.clear_placed) (omega (arith, from))
      (omega (arith, below, bounds.1))
      ∙ (near_exact s.clear kept (start_of s a) pid j (end_of s b) from below bounds.1 is
      (own_moves p veiled.clear_placed) close
      ∙ next_position pid j s.clear (omega (arith, below, bounds.1)))))
    where
      close : true_at s.clear pid (end_of s b) ≤ near_at s.clear kept (start_of s a) pid (end_of s b) + 15
      close = grind (arith, nat_tests, near)

-- clear packet j is written where the segment is
abbrev pub is_let : Setting → List Item → ℕ → ℕ → ℕ → Bool
is_let s kept a b j = not (is_scrambled (kind_of (take j s.clear) (packet_at s.clear j)))
    || is_traced s.plan s.clear kept a b (pid_of (packet_at s.clear j))

abbrev pub let_by : Setting → List Item → ℕ → ℕ → ℕ → List (List ℕ)
let_by s kept a b j = if is_let s kept a b j then packet_at s.clear j ∷ [] else []

-- the word of the segment is that of its packets
pub one_word : (s : Setting) (laws : AreLaws s) (a b j : ℕ) → IsPair s a b →
    since_of s.plan.site.messages s.plan.site.cryptos b ≤ a → start_of s a ≤ j → j < end_of s b →
    (told_by s a).word ≡ word_of s.plan.site j
one_word s laws a b j pair since from below =
    word_is s a (omega (arith, pair.below, pair.within))
    ∙ sym (same_word s.plan.site s.plan.site.messages a b j laws.range since pair.below from (omega (arith, below)))

-- a segment under the control word of its first message
abbrev pub segment_at : Setting → List Item → ℕ → ℕ → Segment
segment_at s kept a b = segment_of s kept a b (control_word_of s.plan.site.master (told_by s a).word)

-- what a packet that isn't scrambled becomes
judged_open : (s : Setting) (segment : Segment) (j n : ℕ) (before : List (List ℕ)) → IsOpen s j →
    segment.ca ≡ s.card.ca → segment.ecm ≡ s.plan.site.ecm →
    judged_packet segment before (n, carried_at s j) ≡ Ok (packet_at s.clear j ∷ [])
unfolding judged_packet
judged_open s segment j n before is ca ecm = rw is.clear (ap (λ (p : List ℕ). Ok (p ∷ [])) (is.again segment ca ecm))

-- and a scrambled one, under these tests
judged_by : (segment : Segment) (before : List (List ℕ)) (n : ℕ) (packet : List ℕ) (lets : Bool) →
    (scrambling_of packet == 0) ≡ false → is_foreign segment packet ≡ false →
    is_confirmed segment (pid_of packet) ≡ lets → judged_packet segment before (n, packet)
    ≡ (if lets then Ok (descrambled packet segment.word (tracked segment.first (pid_of packet)
    (before ++ packet ∷ [])) ∷ [])
    else Ok [])
unfolding judged_packet
judged_by segment before n packet lets veiled good same = rw veiled (rw good (rw same refl))

not_odd : (s : Setting) (laws : AreLaws s) (kept : List Item) (a b j : ℕ) → IsPair s a b →
    since_of s.plan.site.messages s.plan.site.cryptos b ≤ a → start_of s a ≤ j → j < end_of s b → IsVeiled s j →
    is_foreign (segment_at s kept a b) (carried_at s j) ≡ false
not_odd s laws kept a b j pair since from below is =
    rw is.placed (ap (λ (t : ℕ). not (scrambling_of (carried_at s j) == 2 + t % 2))
    (one_word s laws a b j pair since from below)
    ∙ ap not is.parity)

-- so each held packet is judged: none is refused, and the clear packet is written where it is to be
pub judged_is : (s : Setting) (laws : AreLaws s) (kept : List Item) (a b j n : ℕ) → IsPair s a b →
    since_of s.plan.site.messages s.plan.site.cryptos b ≤ a → start_of s a ≤ j → j < end_of s b →
    is_kept kept j ≡ true →
    judged_packet (segment_at s kept a b) (map (carried_at s) (kept_in kept (start_of s a) j)) (n, carried_at s j)
    ≡ Ok (let_by s kept a b j)
judged_is s laws kept a b j n pair since from below is =
    by_kind (cases_Bool (is_scrambled (kind_of (take j s.clear) (packet_at s.clear j))))
  where
    inside : j < length s.clear
    inside = omega (arith, below, (starts_within s a b laws.range pair).1)

    held : List (List ℕ)
    held = map (carried_at s) (kept_in kept (start_of s a) j)

    p : List ℕ
    p = packet_at s.clear j

    by_trace : IsVeiled s j → (t : Bool) → is_traced s.plan s.clear kept a b (pid_of p) ≡ t →
        judged_packet (segment_at s kept a b) held (n, carried_at s j) ≡ Ok (if t then p ∷ [] else [])
    by_trace v true near =
        judged_by (segment_at s kept a b) held n (carried_at s j) true v.veiled
        (not_odd s laws kept a b j pair since from below v)
        (ap (is_confirmed (segment_at s kept a b)) v.pid
        ∙ (confirmed_is s laws kept a b j pair below (control_word_of s.plan.site.master
        (told_by s a).word) v.clear_placed ∙ near))
        ∙ ap (λ (q : List ℕ). Ok (q ∷ []))
        (ap (λ (t : ℕ). descrambled (carried_at s j) (control_word_of s.plan.site.master t)
        (tracked (told_by s a) (pid_of (carried_at s j)) (held ++ carried_at s j ∷ [])))
        (one_word s laws a b j pair since from below)
        ∙ (ap (descrambled (carried_at s j) (control_word_of s.plan.site.master (word_of s.plan.site j)))
        (exact_place s laws kept a b j pair below from is v near) ∙ v.again))
    by_trace v false far =
        judged_by (segment_at s kept a b) held n (carried_at s j) false v.veiled
        (not_odd s laws kept a b j pair since from below v)
        (ap (is_confirmed (segment_at s kept a b)) v.pid
        ∙ (confirmed_is s laws kept a b j pair below (control_word_of s.plan.site.master
        (told_by s a).word) v.clear_placed ∙ far))

    by_kind : (is_scrambled (kind_of (take j s.clear) p) ≡ true) ⊎ (is_scrambled (kind_of (take j s.clear) p) ≡ false) →
        judged_packet (segment_at s kept a b) held (n, carried_at s j) ≡ Ok (let_by s kept a b j)
    by_kind (inl scrambled) =
        rw scrambled (by_trace (laws.veiled j inside scrambled) (is_traced s.plan s.clear kept a b (pid_of p)) refl)
    by_kind (inr opened) =
        rw opened (judged_open s (segment_at s kept a b) j n held (laws.opened j inside opened) refl refl)
