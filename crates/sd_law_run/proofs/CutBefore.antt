-- What is read of the bytes before a packet.
use Rattle.std.proofs.Common.{◌≡◌, ◌⊎◌, refl, ℕ, zero, suc, ◌+◌, ◌-◌, ◌*◌, ◌<◌, ◌≤◌, ◌==◌, Bool, true, false}
use Rattle.std.proofs.Common.{List, [], ◌∷◌, length, take, sym, ap, ◌∙◌, inl, inr, arith, length-take}
use Rattle.std.specs.Prelude.{nat_lt, slice_index, ◌&&◌, ◌^◌, if◌then◌else◌}
use Rattle.std.proofs.lemmas.Bool.{both_ways, cases_Bool, cond-true, cond-false, ne_eqb, cases_lt}
use Rattle.std.proofs.lemmas.List.{get_or-take, get_or_past, length-take-le}
use Rattle.sd_engine.specs.Cut.{begins_packet, cut_packets, cut_after, read_from, readable, skipped_before, skips_few}
use Rattle.sd_engine.proofs.Begins.{followed, parts_of}
use Rattle.sd_law_formats.specs.Cuts.{packet_index}
use Rattle.sd_law_formats.proofs.Finds.{before_place}

-- how many bytes there are before packet k, or before the end, if the first n are of a packet that was cut
abbrev before_packet : ℕ → ℕ → List ℕ → ℕ
before_packet k n [] = 0
before_packet k (suc n) (byte ∷ bytes) = suc (before_packet k n bytes)
before_packet k zero (byte ∷ bytes) =
    if begins_packet (byte ∷ bytes) then (if k == 0 then 0 else suc (before_packet (k - 1) 187 bytes))
    else suc (before_packet k zero bytes)

-- where a packet begins
at_first : (byte : ℕ) (bytes : List ℕ) → begins_packet (byte ∷ bytes) ≡ true →
    before_packet 0 zero (byte ∷ bytes) ≡ 0
at_first byte bytes begins = cond-true (begins_packet (byte ∷ bytes)) _ _ begins

at_later : (k byte : ℕ) (bytes : List ℕ) → begins_packet (byte ∷ bytes) ≡ true →
    before_packet (suc k) zero (byte ∷ bytes) ≡ suc (before_packet k 187 bytes)
at_later k byte bytes begins =
    let less : suc k - 1 ≡ k = omega arith in
    cond-true (begins_packet (byte ∷ bytes)) _ _ begins
    ∙ cond-false (suc k == 0) _ _ (ne_eqb (suc k) 0 (λ e. omega (arith, e)))
    ∙ ap (λ (i : ℕ). suc (before_packet i 187 bytes)) less

-- and where none does
at_none : (k byte : ℕ) (bytes : List ℕ) → begins_packet (byte ∷ bytes) ≡ false →
    before_packet k zero (byte ∷ bytes) ≡ suc (before_packet k zero bytes)
at_none k byte bytes other = cond-false (begins_packet (byte ∷ bytes)) _ _ other

-- there are so many bytes
within : (k n : ℕ) (bytes : List ℕ) → before_packet k n bytes ≤ length bytes
within k n [] = omega arith
within k (suc n) (byte ∷ bytes) = omega (arith, within k n bytes)
within zero zero (byte ∷ bytes) = elim (cases_Bool (begins_packet (byte ∷ bytes))) [
  | inl begins ↦ omega (arith, at_first byte bytes begins)
  | inr other ↦ omega (arith, at_none zero byte bytes other, within zero zero bytes)
]
within (suc k) zero (byte ∷ bytes) = elim (cases_Bool (begins_packet (byte ∷ bytes))) [
  | inl begins ↦ omega (arith, at_later k byte bytes begins, within k 187 bytes)
  | inr other ↦ omega (arith, at_none (suc k) byte bytes other, within (suc k) zero bytes)
]

-- the rest of a packet that was cut is before them
least : (k n : ℕ) (bytes : List ℕ) → n ≤ length bytes → n ≤ before_packet k n bytes
least k zero bytes long = omega arith
least k (suc n) [] long = absurd (omega (arith, long))
least k (suc n) (byte ∷ bytes) long = omega (arith, least k n bytes (omega (arith, long)))

-- the end is there, or a sync byte
ends_or_begins : (k n : ℕ) (bytes : List ℕ) → (before_packet k n bytes ≡ length bytes)
    ⊎ (slice_index bytes (before_packet k n bytes) ≡ 0x47)
ends_or_begins k n [] = inl refl
ends_or_begins k (suc n) (byte ∷ bytes) = elim (ends_or_begins k n bytes) [
  | inl end ↦ inl (ap suc end)
  | inr sync ↦ inr sync
]
ends_or_begins zero zero (byte ∷ bytes) = elim (cases_Bool (begins_packet (byte ∷ bytes))) [
  | inl begins ↦ inr (ap (slice_index (byte ∷ bytes)) (at_first byte bytes begins) ∙ (parts_of _ begins).sync)
  | inr other ↦ elim (ends_or_begins zero zero bytes) [
    | inl end ↦ inl (at_none zero byte bytes other ∙ ap suc end)
    | inr sync ↦ inr (ap (slice_index (byte ∷ bytes)) (at_none zero byte bytes other) ∙ sync)
  ]
]
ends_or_begins (suc k) zero (byte ∷ bytes) = elim (cases_Bool (begins_packet (byte ∷ bytes))) [
  | inl begins ↦ elim (ends_or_begins k 187 bytes) [
    | inl end ↦ inl (at_later k byte bytes begins ∙ ap suc end)
    | inr sync ↦ inr (ap (slice_index (byte ∷ bytes)) (at_later k byte bytes begins) ∙ sync)
  ]
  | inr other ↦ elim (ends_or_begins (suc k) zero bytes) [
    | inl end ↦ inl (at_none (suc k) byte bytes other ∙ ap suc end)
    | inr sync ↦ inr (ap (slice_index (byte ∷ bytes)) (at_none (suc k) byte bytes other) ∙ sync)
  ]
]

-- a packet still begins where the bytes go on to its end at least
begins_cut : (byte p : ℕ) (bytes : List ℕ) → begins_packet (byte ∷ bytes) ≡ true → 187 ≤ p → p ≤ length bytes →
    begins_packet (byte ∷ take p bytes) ≡ true
begins_cut byte p bytes begins far low =
    let parts = parts_of (byte ∷ bytes) begins in
    let long : length (take p bytes) ≡ p = length-take-le p bytes low in
    followed (byte ∷ take p bytes) parts.sync (omega (arith, long, far)) (next parts.next (cases_lt 187 p))
  where
    next : (length (byte ∷ bytes) ≡ 188) ⊎ (slice_index (byte ∷ bytes) 188 ≡ 0x47) → (187 < p) ⊎ (p ≤ 187) →
        (length (byte ∷ take p bytes) ≡ 188) ⊎ (slice_index (byte ∷ take p bytes) 188 ≡ 0x47)
    next (inl end) (inr here) = inl (omega (arith, length-take-le p bytes low, far, here))
    next (inl end) (inl behind) = absurd (omega (arith, end, behind, low))
    next (inr sync) (inr here) = inl (omega (arith, length-take-le p bytes low, far, here))
    next (inr sync) (inl behind) = inr (get_or-take p bytes 187 0 behind ∙ sync)

-- none begins before a packet, or the end, where none began
none_cut : (byte p : ℕ) (bytes : List ℕ) → begins_packet (byte ∷ bytes) ≡ false → p ≤ length bytes →
    (p ≡ length bytes) ⊎ (slice_index bytes p ≡ 0x47) → begins_packet (byte ∷ take p bytes) ≡ false
none_cut byte p bytes other low stands = elim (cases_Bool (begins_packet (byte ∷ take p bytes))) [
  | inr none ↦ none
  | inl begins ↦
      let parts = parts_of (byte ∷ take p bytes) begins in
      let long : length (take p bytes) ≡ p = length-take-le p bytes low in
      absurd (both_ways (begins_packet (byte ∷ bytes)) other (followed (byte ∷ bytes) parts.sync
      (omega (arith, parts.long, long, low)) (next parts.next stands (cases_lt 187 p))))
]
  where
    next : (length (byte ∷ take p bytes) ≡ 188) ⊎ (slice_index (byte ∷ take p bytes) 188 ≡ 0x47) →
        (p ≡ length bytes) ⊎ (slice_index bytes p ≡ 0x47) → (187 < p) ⊎ (p ≤ 187) →
        (length (byte ∷ bytes) ≡ 188) ⊎ (slice_index (byte ∷ bytes) 188 ≡ 0x47)
    next (inl end) (inl all) at = inl (omega (arith, end, all, length-take-le p bytes low))
    next (inl end) (inr sync) at =
        let here : p ≡ 187 = omega (arith, end, length-take-le p bytes low) in
        inr (ap (slice_index bytes) (sym here) ∙ sync)
    next (inr again) stands (inr here) =
        absurd (omega (
          arith,
          again,
          get_or_past (take p bytes) 187 0 (omega (
            arith,
            length-take-le p bytes low,
            here,
          )),
        ))
    next (inr again) stands (inl behind) = inr (sym (get_or-take p bytes 187 0 behind) ∙ again)

-- where a packet begins, and where none does, so many bytes are in no packet before packet j
later_skipped : (j byte : ℕ) (bytes : List ℕ) → begins_packet (byte ∷ bytes) ≡ true →
    skipped_before (suc j) zero (byte ∷ bytes) ≡ skipped_before j 187 bytes
unfolding skipped_before
later_skipped j byte bytes begins =
    let less : suc j - 1 ≡ j = omega arith in
    cond-true (begins_packet (byte ∷ bytes)) _ _ begins
    ∙ cond-false (suc j == 0) _ _ (ne_eqb (suc j) 0 (λ e. omega (arith, e)))
    ∙ ap (λ (i : ℕ). skipped_before i 187 bytes) less

first_skipped : (byte : ℕ) (bytes : List ℕ) → begins_packet (byte ∷ bytes) ≡ true →
    skipped_before zero zero (byte ∷ bytes) ≡ 0
unfolding skipped_before
first_skipped byte bytes begins = cond-true (begins_packet (byte ∷ bytes)) _ _ begins

none_skipped : (j byte : ℕ) (bytes : List ℕ) → begins_packet (byte ∷ bytes) ≡ false →
    skipped_before j zero (byte ∷ bytes) ≡ 1 + skipped_before j zero bytes
unfolding skipped_before
none_skipped j byte bytes other = cond-false (begins_packet (byte ∷ bytes)) _ _ other

empty_skipped : (j n : ℕ) → skipped_before j n [] ≡ 0
unfolding skipped_before
empty_skipped j n = refl

skipped_inside : (k n byte : ℕ) (bytes : List ℕ) → skipped_before k (suc n) (byte ∷ bytes) ≡ skipped_before k n bytes
unfolding skipped_before
skipped_inside k n byte bytes = refl

skipped_part : (k n j : ℕ) (bytes : List ℕ) → n ≤ length bytes → j ≤ k →
    skipped_before j n (take (before_packet k n bytes) bytes) ≡ skipped_before j n bytes
unfolding skipped_before
skipped_part k n j [] long low = refl
skipped_part k (suc n) j (byte ∷ bytes) long low = skipped_part k n j bytes (omega (arith, long)) low
skipped_part zero zero (suc j) (byte ∷ bytes) long low = absurd (omega (arith, low))
skipped_part zero zero zero (byte ∷ bytes) long low = elim (cases_Bool (begins_packet (byte ∷ bytes))) [
  | inl begins ↦
      ap (λ (p : ℕ). skipped_before zero zero (take p (byte ∷ bytes))) (at_first byte bytes begins)
      ∙ sym (first_skipped byte bytes begins)
  | inr other ↦
      let p : ℕ = before_packet zero zero bytes in
      ap (λ (p : ℕ). skipped_before zero zero (take p (byte ∷ bytes))) (at_none zero byte bytes other)
      ∙ none_skipped zero byte (take p bytes)
      (none_cut byte p bytes other (within zero zero bytes) (ends_or_begins zero zero bytes))
      ∙ ap (λ (i : ℕ). 1 + i) (skipped_part zero zero zero bytes (omega arith) low)
      ∙ sym (none_skipped zero byte bytes other)
]
skipped_part (suc k) zero j (byte ∷ bytes) long low = elim (cases_Bool (begins_packet (byte ∷ bytes))) [
  | inl begins ↦
      let p : ℕ = before_packet k 187 bytes in
      let whole : 187 ≤ length bytes = omega (arith, (parts_of (byte ∷ bytes) begins).long) in
      let still = begins_cut byte p bytes begins (least k 187 bytes whole) (within k 187 bytes) in
      ap (λ (p : ℕ). skipped_before j zero (take p (byte ∷ bytes))) (at_later k byte bytes begins)
      ∙ by j low begins still (λ i under. skipped_part k 187 i bytes whole under)
  | inr other ↦
      let p : ℕ = before_packet (suc k) zero bytes in
      ap (λ (p : ℕ). skipped_before j zero (take p (byte ∷ bytes))) (at_none (suc k) byte bytes other)
      ∙ none_skipped j byte (take p bytes)
      (none_cut byte p bytes other (within (suc k) zero bytes) (ends_or_begins (suc k) zero bytes))
      ∙ ap (λ (i : ℕ). 1 + i) (skipped_part (suc k) zero j bytes (omega arith) low)
      ∙ sym (none_skipped j byte bytes other)
]
  where
    by : (j : ℕ) → j ≤ suc k → begins_packet (byte ∷ bytes) ≡ true →
        begins_packet (byte ∷ take (before_packet k 187 bytes) bytes) ≡ true →
        ((i : ℕ) → i ≤ k → skipped_before i 187 (take (before_packet k 187 bytes) bytes)
        ≡ skipped_before i 187 bytes) →
        skipped_before j zero (byte ∷ take (before_packet k 187 bytes) bytes) ≡ skipped_before j zero (byte ∷ bytes)
    by zero low begins still rest =
        first_skipped byte (take (before_packet k 187 bytes) bytes) still ∙ sym (first_skipped byte bytes begins)
    by (suc j) low begins still rest =
        later_skipped j byte (take (before_packet k 187 bytes) bytes) still
        ∙ rest j (omega (arith, low))
        ∙ sym (later_skipped j byte bytes begins)

-- before packet k are the packets before it, and what is in none
place_is : (k n : ℕ) (bytes : List ℕ) → n ≤ length bytes → k ≤ length (cut_after n bytes) →
    before_packet k n bytes ≡ n + (188 * k + skipped_before k n bytes)
unfolding cut_after
place_is k zero [] long few = omega (arith, few, empty_skipped k zero)
place_is k (suc n) [] long few = absurd (omega (arith, long))
place_is k (suc n) (byte ∷ bytes) long few =
    let ih = place_is k n bytes (omega (arith, long)) few in
    omega (arith, ih, skipped_inside k n byte bytes)
place_is zero zero (byte ∷ bytes) long few = elim (cases_Bool (begins_packet (byte ∷ bytes))) [
  | inl begins ↦ omega (arith, at_first byte bytes begins, first_skipped byte bytes begins)
  | inr other ↦ omega (
    arith,
    at_none zero byte bytes other,
    none_skipped zero byte bytes other,
    place_is zero zero bytes (omega arith) (omega arith),
  )
]
place_is (suc k) zero (byte ∷ bytes) long few = elim (cases_Bool (begins_packet (byte ∷ bytes))) [
  | inl begins ↦
      let whole : 187 ≤ length bytes = omega (arith, (parts_of (byte ∷ bytes) begins).long) in
      let cuts = ap length (cond-true (begins_packet (byte ∷ bytes)) (take 188 (byte ∷ bytes) ∷ cut_after 187 bytes)
      (cut_after zero bytes) begins) in
      omega (
        arith,
        at_later k byte bytes begins,
        later_skipped k byte bytes begins,
        place_is k 187 bytes whole (omega (arith, few, cuts)),
      )
  | inr other ↦
      let cuts = ap length (cond-false (begins_packet (byte ∷ bytes)) (take 188 (byte ∷ bytes) ∷ cut_after 187 bytes)
      (cut_after zero bytes) other) in
      omega (
        arith,
        at_none (suc k) byte bytes other,
        none_skipped (suc k) byte bytes other,
        place_is (suc k) zero bytes (omega arith) (omega (arith, few, cuts)),
      )
]

-- of the first of some packets those are read that are read of them all
taken_if : (b : Bool) (m : ℕ) (packet : List ℕ) (first all : List (List ℕ)) → first ≡ take m all →
    (if b then packet ∷ first else []) ≡ take (suc m) (if b then packet ∷ all else [])
taken_if true m packet first all is = ap (λ (ps : List (List ℕ)). packet ∷ ps) is
taken_if false m packet first all is = refl

read_first : (bytes : List ℕ) (i m : ℕ) (packets : List (List ℕ)) →
    read_from bytes i (take m packets) ≡ take m (read_from bytes i packets)
unfolding read_from
read_first bytes i zero packets = refl
read_first bytes i (suc m) [] = refl
read_first bytes i (suc m) (packet ∷ packets) =
    taken_if (nat_lt i (2 ^ 48) && skips_few bytes i) m packet (read_from bytes (i + 1) (take m packets))
    (read_from bytes (i + 1) packets) (read_first bytes (i + 1) m packets)

-- no more are read than there are
few_if : (b : Bool) (packet : List ℕ) (read packets : List (List ℕ)) → length read ≤ length packets →
    length (if b then packet ∷ read else []) ≤ suc (length packets)
few_if true packet read packets few = omega (arith, few)
few_if false packet read packets few = omega arith

read_few : (bytes : List ℕ) (i : ℕ) (packets : List (List ℕ)) → length (read_from bytes i packets) ≤ length packets
unfolding read_from
read_few bytes i [] = omega arith
read_few bytes i (packet ∷ packets) =
    few_if (nat_lt i (2 ^ 48) && skips_few bytes i) packet (read_from bytes (i + 1) packets) packets
    (read_few bytes (i + 1) packets)

pub readable_few : (bytes : List ℕ) → length (readable bytes) ≤ length (cut_packets bytes)
readable_few bytes = read_few bytes 0 (cut_packets bytes)

-- packets are read alike of bytes in which as many are in no packet before each of them
read_alike : (one other : List ℕ) (i : ℕ) (packets : List (List ℕ)) →
    ((j : ℕ) → i ≤ j → j < i + length packets → skipped_before j zero one ≡ skipped_before j zero other) →
    read_from one i packets ≡ read_from other i packets
unfolding read_from
read_alike one other i [] same = refl
read_alike one other i (packet ∷ packets) same =
    let here = same i (omega arith) (omega arith) in
    let rest = read_alike one other (i + 1) packets
    (λ j from under. same j (omega (arith, from)) (omega (arith, under))) in
    ap (λ (s : ℕ).
    if nat_lt i (2 ^ 48) && nat_lt s (2 ^ 64 - 1) then packet ∷ read_from one (i + 1) packets else []) here
    ∙ ap (λ (ps : List (List ℕ)). if nat_lt i (2 ^ 48) && skips_few other i then packet ∷ ps else []) rest

-- it is where packet k begins
place_at : (k : ℕ) (bytes : List ℕ) → k ≤ length (cut_packets bytes) → before_packet k zero bytes ≡ packet_index k bytes
place_at k bytes few = omega (arith, place_is k zero bytes (omega arith) few)

pub place_low : (k : ℕ) (bytes : List ℕ) → k ≤ length (cut_packets bytes) → packet_index k bytes ≤ length bytes
place_low k bytes few = omega (arith, place_at k bytes few, within k zero bytes)

-- of the bytes before packet k as many are in no packet before each of those before it
pub skipped_till : (k j : ℕ) (bytes : List ℕ) → k ≤ length (cut_packets bytes) → j ≤ k →
    skipped_before j zero (take (packet_index k bytes) bytes) ≡ skipped_before j zero bytes
skipped_till k j bytes few low =
    ap (λ (n : ℕ). skipped_before j zero (take n bytes)) (sym (place_at k bytes few))
    ∙ skipped_part k zero j bytes (omega arith) low

-- and the packets before it are read of them
pub read_till : (k : ℕ) (bytes : List ℕ) → k ≤ length (cut_packets bytes) →
    readable (take (packet_index k bytes) bytes) ≡ take k (readable bytes)
read_till k bytes few =
    let first : List ℕ = take (packet_index k bytes) bytes in
    ap (read_from first 0) (before_place k bytes few)
    ∙ read_alike first bytes 0 (take k (cut_packets bytes)) (λ j from under.
    skipped_till k j bytes few (omega (arith, under, length-take k (cut_packets bytes))))
    ∙ read_first bytes 0 k (cut_packets bytes)
