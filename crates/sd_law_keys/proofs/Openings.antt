-- What is written comes from packets that are clear, or that two messages open.
use Rattle.std.proofs.Common.{◌≡◌, ◌⊎◌, ℕ, ◌+◌, ◌%◌, ◌==◌, ◌&&◌, ◌≤◌, Bool, true, false, not, nat_le}
use Rattle.std.proofs.Common.{List, [], ◌∷◌, ◌++◌, map, Some, None, refl, sym, ap, subst, ◌∙◌, inl, inr, arith}
use Rattle.std.proofs.Common.{append_assoc, append-nil}
use Rattle.std.specs.Prelude.{Contains, Option, Result, Ok, Err, is_none, if◌then◌else◌}
use Rattle.std.specs.Option.{option_map_or}
use Rattle.std.proofs.lemmas.Bool.{and_parts, or_parts, not-false}
use Rattle.std.proofs.lemmas.Bool.Decides.{nat_tests}
use Rattle.std.proofs.lemmas.List.Elements.{Contains-append_cases}
use Rattle.sd_cover_tracing.proofs.Lists.{no_member, only_member}
use Rattle.sd_packet.specs.Header.{pid_of, scrambling_of}
use Rattle.sd_packet.specs.Positions.{is_placed, moved_by}
use Rattle.sd_packet.proofs.Positions.{moved_by_near, more_packets}
use Rattle.sd_psi.specs.Rewriting.{pmt_without_descriptor, restore_fault}
use Rattle.sd_cipher.specs.Scrambling.{descrambled}
use Rattle.sd_psi.specs.declared.our_cat.Tuning.{Tuning}
use Rattle.sd_site_cards.specs.CardFields.{CardFields}
use Rattle.sd_spec.specs.Confirmed.{Segment, WrittenPackets, is_confirmed, is_foreign, judged_packet, position_in}
use Rattle.sd_spec.specs.Confirmed.{position_or_first}
use Rattle.sd_spec.specs.Confirmed.{then_segment_output, tracked, unmarked, written_from}
use Rattle.sd_law_keys.specs.Written.{IsFramed, IsWrittenClear, as_it_came, as_it_was}

-- a packet that is written of these: the one that it is written of, after those before it
pub record IsFrom (s : Segment) (before : List (List ℕ)) (helds : List (ℕ × List ℕ)) (out : List ℕ) : Type 0 where
  pub first : List (ℕ × List ℕ)
  pub held : ℕ × List ℕ
  pub rest : List (ℕ × List ℕ)
  pub packets : List (List ℕ)
  pub stands : helds ≡ first ++ held ∷ rest
  pub is_judged : judged_packet s (before ++ map (λ (one : ℕ × List ℕ). one.1) first) held ≡ Ok packets
  pub here : Contains packets out

-- it is of the first packet, or of a later one
from_first : (s : Segment) (before : List (List ℕ)) (held : ℕ × List ℕ) (more : List (ℕ × List ℕ)) (out : List ℕ)
    (packets : List (List ℕ)) → judged_packet s before held ≡ Ok packets → Contains packets out
    → IsFrom s before (held ∷ more) out
from_first s before held more out packets is here = record {
  first = [];
  held = held;
  rest = more;
  packets = packets;
  stands = refl;
  is_judged = ap (λ (l : List (List ℕ)). judged_packet s l held) (append-nil before) ∙ is;
  here = here;
}

from_later : (s : Segment) (before : List (List ℕ)) (held : ℕ × List ℕ) (more : List (ℕ × List ℕ)) (out : List ℕ)
    → IsFrom s (before ++ held.1 ∷ []) more out → IsFrom s before (held ∷ more) out
from_later s before held more out is = record {
  first = held ∷ is.first;
  held = is.held;
  rest = is.rest;
  packets = is.packets;
  stands = ap (λ (l : List (ℕ × List ℕ)). held ∷ l) is.stands;
  is_judged = ap (λ (l : List (List ℕ)). judged_packet s l is.held)
      (sym (append_assoc before (held.1 ∷ []) (map (λ (one : ℕ × List ℕ). one.1) is.first))) ∙ is.is_judged;
  here = is.here;
}

from_one : (s : Segment) (before : List (List ℕ)) (held : ℕ × List ℕ) (more : List (ℕ × List ℕ)) (out : List ℕ)
    (result : Result (List (List ℕ)) ℕ) (rest : WrittenPackets) → judged_packet s before held ≡ result
    → (Contains rest.packets out → IsFrom s (before ++ held.1 ∷ []) more out)
    → Contains (then_segment_output result rest).packets out → IsFrom s before (held ∷ more) out
from_one s before held more out (Err n) rest is later here = absurd (no_member out here)
from_one s before held more out (Ok packets) rest is later here =
    elim (Contains-append_cases packets rest.packets out here) [
      | inl first ↦ from_first s before held more out packets is first
      | inr other ↦ from_later s before held more out (later other)
    ]

pub written_is_from : (s : Segment) (before : List (List ℕ)) (helds : List (ℕ × List ℕ)) (out : List ℕ)
    → Contains (written_from s before helds).packets out → IsFrom s before helds out
unfolding written_from
written_is_from s before [] out here = absurd (no_member out here)
written_is_from s before (held ∷ more) out here =
    from_one s before held more out (judged_packet s before held) (written_from s (before ++ held.1 ∷ []) more) refl
    (λ other. written_is_from s (before ++ held.1 ∷ []) more out other) here

-- a packet that is written under the segment's control word
pub record IsDescrambled (s : Segment) (before : List (List ℕ)) (held out : List ℕ) : Type 0 where
  pub even : is_foreign s held ≡ false
  pub confirmed : is_confirmed s (pid_of held) ≡ true
  pub opened : out ≡ descrambled held s.word (tracked s.first (pid_of held) (before ++ held ∷ []))

-- what is written of one packet is it in the clear, or descrambled
judged_by : (s : Segment) (before : List (List ℕ)) (held : ℕ × List ℕ) (out : List ℕ) (packets : List (List ℕ))
    (plain odd sure : Bool) → (scrambling_of held.1 == 0) ≡ plain → is_foreign s held.1 ≡ odd
    → is_confirmed s (pid_of held.1) ≡ sure
    → (if plain then Ok (unmarked s held.1 ∷ []) else if odd then Err held.0
    else if sure then Ok (descrambled held.1 s.word (tracked s.first (pid_of held.1) (before ++ held.1 ∷ [])) ∷ [])
    else Ok []) ≡ Ok packets → Contains packets out
    → ((scrambling_of held.1 ≡ 0) × (out ≡ unmarked s held.1)) ⊎ IsDescrambled s before held.1 out
judged_by s before held out packets true odd sure p o c is here =
    let one : unmarked s held.1 ∷ [] ≡ packets = cc in
    inl (
      grind (arith, nat_tests, p),
      only_member (unmarked s held.1) out (subst (λ (l : List (List ℕ)). Contains l out)
          (sym one) here),
    )
judged_by s before held out packets false true sure p o c is here = absurd cc
judged_by s before held out packets false false true p o c is here =
    let one : descrambled held.1 s.word (tracked s.first (pid_of held.1) (before ++ held.1 ∷ [])) ∷ [] ≡ packets = cc in
    inr (record {
      even = o;
      confirmed = c;
      opened = only_member (descrambled held.1 s.word (tracked s.first (pid_of held.1) (before ++ held.1 ∷ []))) out
          (subst (λ (l : List (List ℕ)). Contains l out) (sym one) here);
    })
judged_by s before held out packets false false false p o c is here =
    let none : [] ≡ packets = cc in
    absurd (no_member out (subst (λ (l : List (List ℕ)). Contains l out) (sym none) here))

pub judged_is : (s : Segment) (before : List (List ℕ)) (held : ℕ × List ℕ) (out : List ℕ) (packets : List (List ℕ))
    → judged_packet s before held ≡ Ok packets → Contains packets out
    → ((scrambling_of held.1 ≡ 0) × (out ≡ unmarked s held.1)) ⊎ IsDescrambled s before held.1 out
unfolding judged_packet
judged_is s before held out packets is here =
    judged_by s before held out packets (scrambling_of held.1 == 0) (is_foreign s held.1) (is_confirmed s (pid_of
    held.1))
    refl refl refl is here

-- a packet in the clear is written as it came, or restored
plain_by : (card : CardFields) (tuning : Tuning) (held out : List ℕ) (b : Bool)
    → (is_placed held && is_none (restore_fault card.ca tuning.ecm held)) ≡ b
    → out ≡ (if b then pmt_without_descriptor held else held) → IsWrittenClear card tuning held out
plain_by card tuning held out false other is = subst (IsWrittenClear card tuning held) (sym is) (as_it_came other)
plain_by card tuning held out true marked is =
    let tests = and_parts (is_placed held) (is_none (restore_fault card.ca tuning.ecm held)) marked in
    subst (IsWrittenClear card tuning held) (sym is)
    (as_it_was tests.0 (none_of (restore_fault card.ca tuning.ecm held) tests.1))
  where
    none_of : {X : Type 0} (o : Option X) → is_none o ≡ true → o ≡ None
    none_of None none = refl
    none_of (Some x) none = absurd cc

pub plain_is : (card : CardFields) (tuning : Tuning) (s : Segment) (held out : List ℕ) → s.ca ≡ card.ca
    → s.ecm ≡ tuning.ecm → out ≡ unmarked s held → IsWrittenClear card tuning held out
unfolding unmarked
plain_is card tuning s held out ca ecm is =
    plain_by card tuning held out (is_placed held && is_none (restore_fault card.ca tuning.ecm held)) refl
    (subst (λ (e : ℕ). out ≡ (if is_placed held && is_none (restore_fault card.ca e held)
    then pmt_without_descriptor held else held))
    ecm
    (subst (λ (c : ℕ). out ≡ (if is_placed held && is_none (restore_fault c s.ecm held)
    then pmt_without_descriptor held else held))
    ca is))

-- a packet that isn't odd has the parity of the word
pub parity_is : (s : Segment) (held : List ℕ) → is_foreign s held ≡ false → scrambling_of held ≡ 2 + s.first.word % 2
parity_is s held even =
    let tests = or_parts (not (is_placed held)) (not (scrambling_of held == 2 + s.first.word % 2)) even in
    let same = not-false (scrambling_of held == 2 + s.first.word % 2) tests.1 in
    grind (arith, nat_tests, same)

pub placed_is : (s : Segment) (held : List ℕ) → is_foreign s held ≡ false → is_placed held ≡ true
placed_is s held even =
    let tests = or_parts (not (is_placed held)) (not (scrambling_of held == 2 + s.first.word % 2)) even in
    not-false (is_placed held) tests.0

-- the second message has a position, at most 15 above the tracked one and not below it
framed_by : (tracked_to : ℕ) (place : Option ℕ)
    → option_map_or (λ position. nat_le tracked_to position && nat_le position (tracked_to + 15)) place false ≡ true
    → (p : ℕ) × (place ≡ Some p) × (tracked_to ≤ p) × (p ≤ tracked_to + 15)
framed_by tracked_to None sure = absurd cc
framed_by tracked_to (Some p) sure =
    let tests = and_parts (nat_le tracked_to p) (nat_le p (tracked_to + 15)) sure in
    (p, refl, grind (arith, nat_tests, tests.0), grind (arith, nat_tests, tests.1))

pub framed : (s : Segment) (pid : ℕ) (before rest : List (List ℕ)) → s.packets ≡ before ++ rest
    → is_confirmed s pid ≡ true → IsFramed s.first s.last pid s.packets (tracked s.first pid before)
unfolding is_confirmed tracked
framed s pid before rest stands sure =
    let (place, named, below, near) = framed_by (tracked s.first pid s.packets) (position_in s.last.places pid) sure in
    let start : ℕ = position_or_first s.first.places pid in
    let all : tracked s.first pid s.packets ≡ moved_by pid (moved_by pid start before) rest =
    ap (moved_by pid start) stands ∙ more_packets pid start before rest in record {
      place = place;
      above = (moved_by_near pid start before).0;
      named = named;
      below = omega (arith, below, all, (moved_by_near pid (moved_by pid start before) rest).0);
      near = near;
    }
