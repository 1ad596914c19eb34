-- What the packets and the break of a stream are, by what stands first.
use Rattle.std.proofs.Common.{ℕ, zero, suc, ◌+◌, ◌*◌, ◌/◌, ◌%◌, ◌<◌, ◌≤◌, ◌≡◌, ◌≢◌, false, ◌==◌, List, [], ◌∷◌, length}
use Rattle.std.proofs.Common.{take, drop, length-drop, cond, refl, sym, ap, ◌∙◌, arith, inl, inr}
use Rattle.std.specs.Prelude.{nat_lt, slice_index, if◌then◌else◌, Option, Some, None}
use Rattle.std.specs.List.{take_while}
use Rattle.std.proofs.lemmas.Bool.{eq-eqb, ne_eqb, lt-ltb, le-ltb, cond-true, cond-false, cases_lt}
use Rattle.std.proofs.lemmas.List.{get_or-take, get_or-drop, nil_from_length}
use Rattle.std.proofs.lemmas.List.Sums.{take_while-cons}
use Rattle.sd_engine.specs.Stream.{pieces, is_packet, packets_of, break_after, break_of, ArePackets, torn, no_sync}
use Rattle.sd_engine.specs.declared.fault.StreamBreak.{StreamBreak}

-- why bytes break, by how many packets and whole packets' bytes there are, and how many bytes are left over
abbrev break_by : ℕ → ℕ → ℕ → ℕ → Option StreamBreak
break_by k packets whole left =
    if nat_lt packets whole then Some (no_sync (k + packets)) else if left == 0 then None else Some (torn (k + whole))

break_is : (k : ℕ) (bytes : List ℕ) → break_after k bytes ≡ break_by k (length (packets_of bytes)) (length bytes / 188)
    (length bytes % 188)
unfolding break_after
break_is k bytes = refl

-- no whole packet's bytes are there
pub no_piece : (bytes : List ℕ) → length bytes < 188 → packets_of bytes ≡ []
unfolding packets_of pieces
no_piece bytes h = let none : length bytes / 188 ≡ 0 = omega arith in ap
    (λ (n : ℕ). take_while is_packet (pieces n bytes)) none

-- those of one are there
one_piece : (bytes : List ℕ) → 188 ≤ length bytes →
    packets_of bytes ≡ cond (slice_index bytes 0 == 0x47) (take 188 bytes ∷ packets_of (drop 188 bytes)) []
unfolding packets_of pieces
one_piece bytes h =
    let count : length bytes / 188 ≡ suc (length (drop 188 bytes) / 188) = omega (arith, length-drop 188 bytes) in
    let first : slice_index (take 188 bytes) 0 ≡ slice_index bytes 0 = get_or-take 188 bytes 0 0 (omega arith) in
    ap (λ (n : ℕ). take_while is_packet (pieces n bytes)) count
    ∙ take_while-cons is_packet (take 188 bytes) (pieces (length (drop 188 bytes) / 188) (drop 188 bytes))
    ∙ ap (λ (b : ℕ). cond (b == 0x47) (take 188 bytes ∷ packets_of (drop 188 bytes)) []) first

-- a packet more before them changes only the numbers
break_more : (k packets whole left : ℕ) → break_by k (suc packets) (suc whole) left ≡ break_by (k + 1) packets whole
    left
break_more k packets whole left =
    let p : k + suc packets ≡ k + 1 + packets = omega arith in
    let w : k + suc whole ≡ k + 1 + whole = omega arith in
    elim (cases_lt packets whole) [
      | inl few ↦
          cond-true (nat_lt (suc packets) (suc whole)) _ _ (lt-ltb (suc packets) (suc whole) (omega arith))
          ∙ ap (λ (n : ℕ). Some (no_sync n)) p ∙ sym (cond-true (nat_lt packets whole) _ _ (lt-ltb packets whole few))
      | inr all ↦
          cond-false (nat_lt (suc packets) (suc whole)) _ _ (le-ltb (suc packets) (suc whole) (omega arith))
          ∙ ap (λ (n : ℕ). if left == 0 then None else Some (torn n)) w
          ∙ sym (cond-false (nat_lt packets whole) _ _ (le-ltb packets whole all))
    ]

-- at the end there is no packet, and no break
pub none_at_end : (k : ℕ) → break_after k [] ≡ None
unfolding break_after packets_of pieces
none_at_end k = refl

-- fewer bytes than a packet has
pub torn_here : (rest : List ℕ) (number : ℕ) → 0 < length rest → length rest < 188 →
    (packets_of rest ≡ []) × (break_after number rest ≡ Some (torn number))
torn_here rest number some few =
    let none : packets_of rest ≡ [] = no_piece rest few in
    let whole : length rest / 188 ≡ 0 = omega (arith, few) in
    let left : (length rest % 188 == 0) ≡ false = ne_eqb (length rest % 188) 0 (λ e. omega (arith, e, some, few)) in (
      none,
      break_is number rest
          ∙ ap (λ (p : List (List ℕ)). break_by number (length p) (length rest / 188) (length rest % 188)) none
          ∙ ap (λ (n : ℕ). break_by number 0 n (length rest % 188)) whole
          ∙ cond-false (length rest % 188 == 0) _ _ left
          ∙ ap (λ (n : ℕ). Some (torn n)) (omega arith),
    )

-- bytes of a packet that don't begin with the sync byte
pub no_sync_here : (rest : List ℕ) (number : ℕ) → 188 ≤ length rest → slice_index rest 0 ≢ 0x47 →
    (packets_of rest ≡ []) × (break_after number rest ≡ Some (no_sync number))
no_sync_here rest number long apart =
    let other : (slice_index rest 0 == 0x47) ≡ false = ne_eqb (slice_index rest 0) 0x47 apart in
    let none : packets_of rest ≡ [] = one_piece rest long ∙ cond-false (slice_index rest 0 == 0x47) _ _ other in (
      none,
      break_is number rest
          ∙ ap (λ (p : List (List ℕ)). break_by number (length p) (length rest / 188) (length rest % 188)) none
          ∙ cond-true (nat_lt 0 (length rest / 188)) _ _ (lt-ltb 0 (length rest / 188) (omega (arith, long)))
          ∙ ap (λ (n : ℕ). Some (no_sync n)) (omega arith),
    )

-- the packets and the break, where a packet stands first
pub packets_more : (bytes : List ℕ) → 188 ≤ length bytes → slice_index bytes 0 ≡ 0x47 → packets_of bytes
    ≡ take 188 bytes ∷ packets_of (drop 188 bytes)
packets_more bytes long sync = one_piece bytes long ∙ cond-true (slice_index bytes 0 == 0x47) _ _
    (eq-eqb (slice_index bytes 0) 0x47 sync)

pub break_after_more : (k : ℕ) (bytes : List ℕ) → 188 ≤ length bytes → slice_index bytes 0 ≡ 0x47 →
    break_after k bytes ≡ break_after (k + 1) (drop 188 bytes)
break_after_more k bytes long sync =
    let after : List ℕ = drop 188 bytes in
    let whole : length bytes / 188 ≡ suc (length after / 188) = omega (arith, length-drop 188 bytes) in
    let left : length bytes % 188 ≡ length after % 188 = omega (arith, length-drop 188 bytes) in
    break_is k bytes
    ∙ ap (λ (p : List (List ℕ)). break_by k (length p) (length bytes / 188) (length bytes % 188))
    (packets_more bytes long sync)
    ∙ ap (λ (n : ℕ). break_by k (suc (length (packets_of after))) n (length bytes % 188)) whole
    ∙ ap (λ (n : ℕ). break_by k (suc (length (packets_of after))) (suc (length after / 188)) n) left
    ∙ break_more k (length (packets_of after)) (length after / 188) (length after % 188)
    ∙ sym (break_is (k + 1) after)

-- after the first of some packets stand the others
pub others : (n : ℕ) (bytes : List ℕ) → ArePackets (suc n) bytes → ArePackets n (drop 188 bytes)
others n bytes are = record {
  long = omega (arith, are.long, length-drop 188 bytes);
  sync = λ k h. get_or-drop 188 bytes (188 * k) 0 ∙ ap (λ (i : ℕ). slice_index bytes i) (omega arith) ∙ are.sync (suc k)
      (omega arith);
}

-- all of them are taken
pub all_taken : (n : ℕ) (bytes : List ℕ) → ArePackets n bytes → packets_of bytes ≡ pieces n bytes
unfolding pieces
all_taken zero bytes are = no_piece bytes (omega (arith, are.long))
all_taken (suc n) bytes are =
    packets_more bytes (omega (arith, are.long)) (are.sync 0 (omega arith))
    ∙ ap (λ (p : List (List ℕ)). take 188 bytes ∷ p) (all_taken n (drop 188 bytes) (others n bytes are))

-- no break stands after them
all_unbroken : (n k : ℕ) (bytes : List ℕ) → ArePackets n bytes → break_after k bytes ≡ None
all_unbroken zero k bytes are =
    let nothing : bytes ≡ [] = nil_from_length bytes (omega (arith, are.long)) in ap (break_after k) nothing
    ∙ none_at_end k
all_unbroken (suc n) k bytes are =
    break_after_more k bytes (omega (arith, are.long)) (are.sync 0 (omega arith)) ∙ all_unbroken n (k + 1)
    (drop 188 bytes) (others n bytes are)

pub none_broken : (n : ℕ) (bytes : List ℕ) → ArePackets n bytes → break_of bytes ≡ None
none_broken n bytes are = all_unbroken n 0 bytes are

-- there are as many as were cut
pub all_counted : (n : ℕ) (bytes : List ℕ) → length (pieces n bytes) ≡ n
unfolding pieces
all_counted zero bytes = refl
all_counted (suc n) bytes = ap suc (all_counted n (drop 188 bytes))
