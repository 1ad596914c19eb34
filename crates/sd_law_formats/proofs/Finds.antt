-- What is found in bytes that may be damaged, and where.
use Rattle.std.proofs.Common.{◌≡◌, ◌⊎◌, ℕ, zero, suc, ◌+◌, ◌-◌, ◌*◌, ◌<◌, ◌≤◌, true, false, List, [], ◌∷◌, ◌++◌}
use Rattle.std.proofs.Common.{length, take, drop, refl, sym, ap, subst, ◌∙◌, arith, inl, inr, append-nil}
use Rattle.std.proofs.Common.{length-append, length-drop, length-take-le}
use Rattle.std.specs.Prelude.{All, slice_get, slice_index, Some}
use Rattle.std.proofs.lemmas.Bool.{cases_eq, cases_lt, both_ways, false_from_ne_true}
use Rattle.std.proofs.lemmas.List.{get_or-append-add, get_or-append_right, get_or-drop, get_or-take}
use Rattle.std.proofs.lemmas.List.{get_or_append_left}
use Rattle.std.proofs.lemmas.List.{drop-append-le, drop-drop, drop-take, drop_at, get_or_past, length-take}
use Rattle.std.proofs.lemmas.List.{nil_from_length}
use Rattle.std.proofs.lemmas.List.{take-append-le, take-take}
use Rattle.sd_engine.specs.Cut.{begins_packet, cut_packets, skipped_before}
use Rattle.sd_engine.specs.Stream.{pieces, packets_of, ArePackets}
use Rattle.sd_engine.proofs.Begins.{begins_still, followed, parts_of}
use Rattle.sd_engine.proofs.Cutting.{cut_end, cut_packet, cut_passed, skipped_end, skipped_none, skipped_packet}
use Rattle.sd_engine.proofs.Walking.{all_taken, others}
use Rattle.sd_law_formats.specs.Cuts.{packet_index, HasOneSyncOffset, IsCutAt}
use Rattle.sd_law_formats.proofs.Courses.{Course, end, packet, other, course_of, cut_one, skipped_one}

-- these are no bytes, or begin with the sync byte
abbrev Follow : List ℕ → Type 0
Follow more = (more ≡ []) ⊎ (slice_index more 0 ≡ 0x47)

-- the first of whole packets begins a packet
first_begins : (n : ℕ) (bytes more : List ℕ) → ArePackets (suc n) bytes → (n ≡ 0 → Follow more) →
    begins_packet (bytes ++ more) ≡ true
first_begins n bytes more are next =
    followed (bytes ++ more)
    (get_or_append_left bytes more 0 0 (omega (arith, are.long)) ∙ are.sync 0 (omega arith))
    (omega (arith, are.long, length-append bytes more))
    (elim (cases_eq n 0) [
      | inl none ↦ by_next (next none) (omega (arith, are.long, none))
      | inr some ↦ inr
          (get_or_append_left bytes more 0 188 (omega (arith, are.long, some)) ∙ are.sync 1 (omega (arith, some)))
    ])
  where
    by_next : Follow more → length bytes ≡ 188 →
        (length (bytes ++ more) ≡ 188) ⊎ (slice_index (bytes ++ more) 188 ≡ 0x47)
    by_next (inl none) long =
        inl (omega (arith, long, length-append bytes more, ap (λ (xs : List ℕ). length xs) none))
    by_next (inr sync) long = inr (get_or-append_right bytes more 188 188 0 long (omega arith) ∙ sync)

cut_first : (n : ℕ) (bytes more : List ℕ) → ArePackets (suc n) bytes → (n ≡ 0 → Follow more) →
    cut_packets (bytes ++ more) ≡ take 188 bytes ∷ cut_packets (drop 188 bytes ++ more)
cut_first n bytes more are next =
    let long : 188 ≤ length bytes = omega (arith, are.long) in
    cut_packet (bytes ++ more) (first_begins n bytes more are next)
    ∙ ap (λ (p : List ℕ). p ∷ cut_packets (drop 188 (bytes ++ more))) (take-append-le 188 bytes more long)
    ∙ ap (λ (xs : List ℕ). take 188 bytes ∷ cut_packets xs) (drop-append-le 188 bytes more long)

-- whole packets are found in step
in_step : (n : ℕ) (bytes more : List ℕ) → ArePackets n bytes → Follow more →
    cut_packets (bytes ++ more) ≡ pieces n bytes ++ cut_packets more
unfolding pieces
in_step zero bytes more are next =
    let none : bytes ≡ [] = nil_from_length bytes (omega (arith, are.long)) in
    ap (λ (xs : List ℕ). cut_packets (xs ++ more)) none
in_step (suc n) bytes more are next =
    cut_first n bytes more are (λ e. next)
    ∙ ap (λ (ps : List (List ℕ)). take 188 bytes ∷ ps) (in_step n (drop 188 bytes) more (others n bytes are) next)

pub followed_found : (n : ℕ) (bytes more : List ℕ) → ArePackets n bytes →
    (more ≡ []) ⊎ (slice_index more 0 ≡ 0x47) → cut_packets (bytes ++ more) ≡ packets_of bytes ++ cut_packets more
followed_found n bytes more are next =
    in_step n bytes more are next ∙ ap (λ (ps : List (List ℕ)). ps ++ cut_packets more) (sym (all_taken n bytes are))

pub whole_found : (n : ℕ) (bytes : List ℕ) → ArePackets n bytes → cut_packets bytes ≡ packets_of bytes
whole_found n bytes are =
    ap cut_packets (sym (append-nil bytes)) ∙ followed_found n bytes [] are (inl refl)
    ∙ ap (λ (ps : List (List ℕ)). packets_of bytes ++ ps) cut_end ∙ append-nil (packets_of bytes)

-- those before the last are found whatever follows
up_to : (n k : ℕ) (bytes more : List ℕ) → ArePackets n bytes → k < n →
    cut_packets (bytes ++ more) ≡ take k (pieces n bytes) ++ cut_packets (drop (188 * k) bytes ++ more)
unfolding pieces
up_to n zero bytes more are few = refl
up_to zero (suc k) bytes more are few = absurd (omega (arith, few))
up_to (suc n) (suc k) bytes more are few =
    let rest : drop (188 * k) (drop 188 bytes) ≡ drop (188 * suc k) bytes =
    drop-drop (188 * k) 188 bytes ∙ ap (λ (i : ℕ). drop i bytes) (omega arith) in
    cut_first n bytes more are (λ none. absurd (omega (arith, few, none)))
    ∙ ap (λ (ps : List (List ℕ)). take 188 bytes ∷ ps)
    (up_to n k (drop 188 bytes) more (others n bytes are) (omega (arith, few)))
    ∙ ap (λ (xs : List ℕ). take (suc k) (take 188 bytes ∷ pieces n (drop 188 bytes)) ++ cut_packets (xs ++ more)) rest

pub first_found : (n k : ℕ) (bytes more : List ℕ) → ArePackets n bytes → k < n →
    cut_packets (bytes ++ more) ≡ take k (packets_of bytes) ++ cut_packets (drop (188 * k) bytes ++ more)
first_found n k bytes more are few =
    up_to n k bytes more are few
    ∙ ap (λ (ps : List (List ℕ)). take k ps ++ cut_packets (drop (188 * k) bytes ++ more)) (sym (all_taken n bytes are))

-- no packet begins in the bytes before
pub behind_found : (damage bytes : List ℕ) →
    ((i : ℕ) → i < length damage → begins_packet (drop i (damage ++ bytes)) ≡ false) →
    cut_packets (damage ++ bytes) ≡ cut_packets bytes
behind_found damage bytes none =
    cut_passed (length damage) (damage ++ bytes) (omega (arith, length-append damage bytes)) none
    ∙ ap cut_packets (drop_at damage bytes (length damage) refl)

-- if no packet that begins before an index ends behind it, the bytes are cut there
cut_again : (bytes : List ℕ) → Course bytes → (index : ℕ) →
    ((i : ℕ) → i < index → begins_packet (drop i bytes) ≡ true → i + 188 ≤ index) → IsCutAt index bytes
cut_again bytes course zero within = record { before = []; within = omega arith; cuts = refl }
cut_again bytes (end none) (suc index) within = record {
  before = [];
  within = omega arith;
  cuts = rw none refl;
}
cut_again bytes (packet begins course) (suc index) within =
    let far : 0 + 188 ≤ suc index = within 0 (omega arith) begins in
    let rest = cut_again (drop 188 bytes) course (suc index - 188) (λ i few is.
    let there : 188 + i + 188 ≤ suc index = within (188 + i) (omega (arith, few))
    (ap begins_packet (sym (drop-drop i 188 bytes)) ∙ is) in
    omega (arith, there)) in
    let same : 188 + (suc index - 188) ≡ suc index = omega (arith, far) in
    record {
      before = take 188 bytes ∷ rest.before;
      within = omega (arith, far, rest.within);
      cuts = cut_packet bytes begins ∙ ap (λ (ps : List (List ℕ)). take 188 bytes ∷ ps) rest.cuts
          ∙ ap (λ (xs : List ℕ). (take 188 bytes ∷ rest.before) ++ cut_packets xs)
          (drop-drop (suc index - 188) 188 bytes ∙ ap (λ (i : ℕ). drop i bytes) same);
    }
cut_again bytes (other not some course) (suc index) within =
    let rest = cut_again (drop 1 bytes) course index (λ i few is.
    let there : 1 + i + 188 ≤ suc index = within (1 + i) (omega (arith, few))
    (ap begins_packet (sym (drop-drop i 1 bytes)) ∙ is) in
    omega (arith, there)) in
    let same : 1 + index ≡ suc index = omega arith in
    record {
      before = rest.before;
      within = omega (arith, rest.within);
      cuts = cut_one bytes not some ∙ rest.cuts
          ∙ ap (λ (xs : List ℕ). rest.before ++ cut_packets xs)
          (drop-drop index 1 bytes ∙ ap (λ (i : ℕ). drop i bytes) same);
    }

-- a byte of the packets between other bytes
between : (damage bytes more : List ℕ) (i r : ℕ) → i ≡ length damage + r → r < length bytes →
    slice_index (damage ++ (bytes ++ more)) i ≡ slice_index bytes r
between damage bytes more i r is within =
    ap (λ (k : ℕ). slice_index (damage ++ (bytes ++ more)) k) is
    ∙ get_or-append-add damage (bytes ++ more) r 0 ∙ get_or_append_left bytes more 0 r within

pub again_found : (n i : ℕ) (damage bytes more : List ℕ) → ArePackets n bytes → i + 1 < n → HasOneSyncOffset i bytes →
    IsCutAt (length damage + 188 * (i + 1)) (damage ++ (bytes ++ more))
again_found n i damage bytes more are few apart =
    cut_again whole (course_of whole) (length damage + 188 * (i + 1)) within
  where
    whole : List ℕ
    whole = damage ++ (bytes ++ more)

    long : length whole ≡ length damage + (188 * n + length more)
    long = omega (arith, length-append damage (bytes ++ more), length-append bytes more, are.long)

    -- a packet at index o of packet i would end behind it
    crosses : (p o : ℕ) → p ≡ length damage + (188 * i + o) → 0 < o → o < 188 → begins_packet (drop p whole) ≡ true → ⊥
    crosses p o is some small begins =
        let parts = parts_of (drop p whole) begins in
        let one : slice_index bytes (188 * i + o) ≡ 0x47 =
        sym (between damage bytes more p (188 * i + o) is (omega (arith, are.long, few, small)))
        ∙ ap (λ (k : ℕ). slice_index whole k) (omega arith) ∙ sym (get_or-drop p whole 0 0) ∙ parts.sync in
        elim parts.next [
          | inl last ↦ absurd (omega (arith, last, length-drop p whole, long, is, few, small))
          | inr sync ↦ apart o some small (
            one,
            sym (between damage bytes more (p + 188) (188 * (i + 1) + o) (omega (arith, is))
                (omega (arith, are.long, few, small)))
                ∙ sym (get_or-drop p whole 188 0) ∙ sync,
          )
        ]

    within : (p : ℕ) → p < length damage + 188 * (i + 1) → begins_packet (drop p whole) ≡ true →
        p + 188 ≤ length damage + 188 * (i + 1)
    within p before begins = elim (cases_lt (length damage + 188 * (i + 1)) (p + 188)) [
      | inl over ↦ absurd (crosses p (p - (length damage + 188 * i)) (omega (arith, over)) (omega (arith, over))
          (omega (arith, before, over)) begins)
      | inr under ↦ under
    ]

-- each packet that is found is whole
abbrev IsWhole : List ℕ → Type 0
IsWhole p = (length p ≡ 188) × (slice_index p 0 ≡ 0x47)

one_more : (p : List ℕ) (ps : List (List ℕ)) → IsWhole p → All IsWhole ps → All IsWhole (p ∷ ps)
one_more p ps here there zero d few = here
one_more p ps here there (suc k) d few = there k d (omega (arith, few))

sound : (bytes : List ℕ) → Course bytes → All IsWhole (cut_packets bytes)
sound bytes (end none) = subst (All IsWhole) (sym (ap cut_packets none ∙ cut_end))
    (λ k d few. absurd (omega (arith, few)))
sound bytes (packet begins course) =
    let parts = parts_of bytes begins in
    subst (All IsWhole) (sym (cut_packet bytes begins)) (one_more (take 188 bytes) (cut_packets (drop 188 bytes))
    (length-take-le 188 bytes parts.long, get_or-take 188 bytes 0 0 (omega arith) ∙ parts.sync)
    (sound (drop 188 bytes) course))
sound bytes (other not some course) =
    subst (All IsWhole) (sym (cut_one bytes not some)) (sound (drop 1 bytes) course)

pub all_sound : (bytes : List ℕ) → All (λ p. (length p ≡ 188) × (slice_index p 0 ≡ 0x47)) (cut_packets bytes)
all_sound bytes = sound bytes (course_of bytes)

-- the packets and the bytes in none are all bytes
counted : (bytes : List ℕ) → Course bytes → packet_index (length (cut_packets bytes)) bytes ≡ length bytes
counted bytes (end none) = rw none (
    ap (λ (ps : List (List ℕ)). 188 * length ps + skipped_before (length ps) zero []) cut_end
    ∙ ap (λ (n : ℕ). 0 + n) (skipped_end 0))
counted bytes (packet begins course) =
    let rest = counted (drop 188 bytes) course in
    let long = (parts_of bytes begins).long in
    let some = skipped_packet (length (cut_packets (drop 188 bytes))) bytes begins in
    let left = length-drop 188 bytes in
    ap (λ (ps : List (List ℕ)). 188 * length ps + skipped_before (length ps) zero bytes) (cut_packet bytes begins)
    ∙ omega (arith, rest, long, some, left)
counted bytes (other not some course) =
    let rest = counted (drop 1 bytes) course in
    let more = skipped_one (length (cut_packets (drop 1 bytes))) bytes not some in
    let left = length-drop 1 bytes in
    ap (λ (ps : List (List ℕ)). 188 * length ps + skipped_before (length ps) zero bytes) (cut_one bytes not some)
    ∙ omega (arith, rest, more, some, left)

pub all_counted : (bytes : List ℕ) → packet_index (length (cut_packets bytes)) bytes ≡ length bytes
all_counted bytes = counted bytes (course_of bytes)

-- the places behind a packet, and behind a byte that is in none
place_packet : (k : ℕ) (bytes : List ℕ) → begins_packet bytes ≡ true →
    packet_index (suc k) bytes ≡ 188 + packet_index k (drop 188 bytes)
place_packet k bytes begins =
    let rest = skipped_packet k bytes begins in omega (arith, rest)

place_one : (k : ℕ) (bytes : List ℕ) → begins_packet bytes ≡ false → 0 < length bytes →
    packet_index k bytes ≡ 1 + packet_index k (drop 1 bytes)
place_one k bytes not some = let rest = skipped_one k bytes not some in omega (arith, rest)

place_first : (bytes : List ℕ) → begins_packet bytes ≡ true → packet_index zero bytes ≡ 0
place_first bytes begins = let none = skipped_none bytes begins in omega (arith, none)

-- a packet is at its place, and begins a packet there
at_its_place : (bytes : List ℕ) → Course bytes → (k : ℕ) → k < length (cut_packets bytes) →
    (slice_get (cut_packets bytes) k ≡ Some (take 188 (drop (packet_index k bytes) bytes)))
    × (begins_packet (drop (packet_index k bytes) bytes) ≡ true)
at_its_place bytes (end none) k few =
    absurd (omega (arith, few, ap (λ (ps : List (List ℕ)). length ps) (ap cut_packets none ∙ cut_end)))
at_its_place bytes (packet begins course) zero few = (
  ap (λ (ps : List (List ℕ)). slice_get ps 0) (cut_packet bytes begins)
      ∙ ap (λ (i : ℕ). Some (take 188 (drop i bytes))) (sym (place_first bytes begins)),
  ap (λ (i : ℕ). begins_packet (drop i bytes)) (place_first bytes begins) ∙ begins,
)
at_its_place bytes (packet begins course) (suc k) few =
    let count : length (cut_packets bytes) ≡ suc (length (cut_packets (drop 188 bytes))) =
    ap (λ (ps : List (List ℕ)). length ps) (cut_packet bytes begins) in
    let rest = at_its_place (drop 188 bytes) course k (omega (arith, few, count)) in
    let same : drop (packet_index k (drop 188 bytes)) (drop 188 bytes) ≡ drop (packet_index (suc k) bytes) bytes =
    drop-drop (packet_index k (drop 188 bytes)) 188 bytes
    ∙ ap (λ (i : ℕ). drop i bytes) (sym (place_packet k bytes begins)) in (
      ap (λ (ps : List (List ℕ)). slice_get ps (suc k)) (cut_packet bytes begins) ∙ rest.0
          ∙ ap (λ (xs : List ℕ). Some (take 188 xs)) same,
      ap begins_packet (sym same) ∙ rest.1,
    )
at_its_place bytes (other not some course) k few =
    let count : length (cut_packets bytes) ≡ length (cut_packets (drop 1 bytes)) =
    ap (λ (ps : List (List ℕ)). length ps) (cut_one bytes not some) in
    let rest = at_its_place (drop 1 bytes) course k (omega (arith, few, count)) in
    let same : drop (packet_index k (drop 1 bytes)) (drop 1 bytes) ≡ drop (packet_index k bytes) bytes =
    drop-drop (packet_index k (drop 1 bytes)) 1 bytes
    ∙ ap (λ (i : ℕ). drop i bytes) (sym (place_one k bytes not some)) in (
      ap (λ (ps : List (List ℕ)). slice_get ps k) (cut_one bytes not some) ∙ rest.0
          ∙ ap (λ (xs : List ℕ). Some (take 188 xs)) same,
      ap begins_packet (sym same) ∙ rest.1,
    )

pub at_place : (k : ℕ) (bytes : List ℕ) → k < length (cut_packets bytes) →
    slice_get (cut_packets bytes) k ≡ Some (take 188 (drop (packet_index k bytes) bytes))
at_place k bytes few = (at_its_place bytes (course_of bytes) k few).0

-- the sync byte is at a packet's place, which is before the end
place_is_sync : (k : ℕ) (bytes : List ℕ) → k < length (cut_packets bytes) → slice_index bytes (packet_index k bytes)
    ≡ 0x47
place_is_sync k bytes few =
    ap (λ (i : ℕ). slice_index bytes i) (omega arith)
    ∙ sym (get_or-drop (packet_index k bytes) bytes 0 0)
    ∙ (parts_of (drop (packet_index k bytes) bytes) (at_its_place bytes (course_of bytes) k few).1).sync

-- bytes up to an index begin with a packet if all do, and the packet ends before the index
begins_up_to : (bytes : List ℕ) (more : ℕ) → begins_packet bytes ≡ true → begins_packet (take (188 + more) bytes) ≡ true
begins_up_to bytes more begins =
    let parts = parts_of bytes begins in
    let count = length-take (188 + more) bytes in
    followed (take (188 + more) bytes)
    (get_or-take (188 + more) bytes 0 0 (omega arith) ∙ parts.sync)
    (omega (arith, count, parts.long))
    (elim (cases_eq more 0) [
      | inl none ↦ inl (omega (arith, count, parts.long, none))
      | inr some ↦ elim parts.next [
        | inl last ↦ inl (omega (arith, count, last))
        | inr sync ↦ inr (get_or-take (188 + more) bytes 188 0 (omega (arith, some)) ∙ sync)
      ]
    ])

-- bytes up to the sync byte, or the end, don't begin with a packet if all don't
none_up_to : (bytes : List ℕ) (index : ℕ) → begins_packet bytes ≡ false →
    (slice_index bytes index ≡ 0x47) ⊎ (length bytes ≤ index) → begins_packet (take index bytes) ≡ false
none_up_to bytes index not stop = false_from_ne_true (begins_packet (take index bytes)) (λ begins.
    let parts = parts_of (take index bytes) begins in
    let count = length-take index bytes in
    let sync : slice_index bytes 0 ≡ 0x47 =
    sym (get_or-take index bytes 0 0 (omega (arith, count, parts.long))) ∙ parts.sync in
    both_ways (begins_packet bytes) not (followed bytes sync (omega (arith, count, parts.long)) (
    elim parts.next [
      | inl last ↦ elim stop [
        | inl there ↦ elim (cases_eq index 188) [
          | inl is ↦ inr (ap (λ (i : ℕ). slice_index bytes i) (sym is) ∙ there)
          | inr apart ↦ inl (omega (arith, count, last, apart))
        ]
        | inr over ↦ inl (omega (arith, count, last, over))
      ]
      | inr again ↦ elim (cases_lt 188 index) [
        | inl inside ↦ inr (sym (get_or-take index bytes 188 0 inside) ∙ again)
        | inr outside ↦
            let past = get_or_past (take index bytes) 188 0 (omega (arith, count, outside)) in
            absurd (omega (arith, again, past))
      ]
    ])))

-- a place is within the bytes
place_within : (k : ℕ) (bytes : List ℕ) → k ≤ length (cut_packets bytes) → packet_index k bytes ≤ length bytes
place_within k bytes few = elim (cases_lt k (length (cut_packets bytes))) [
  | inl before ↦
      let long = (parts_of (drop (packet_index k bytes) bytes) (at_its_place bytes (course_of bytes) k before).1).long
      in
      let left = length-drop (packet_index k bytes) bytes in
      omega (arith, long, left)
  | inr last ↦
      let is : k ≡ length (cut_packets bytes) = omega (arith, few, last) in
      let all : packet_index k bytes ≡ length bytes = ap (λ (n : ℕ). packet_index n bytes) is ∙ all_counted bytes in
      omega (arith, all)
]

-- behind a place is a packet, or the end
place_stops : (k : ℕ) (bytes : List ℕ) → k ≤ length (cut_packets bytes) →
    (slice_index bytes (packet_index k bytes) ≡ 0x47) ⊎ (length bytes ≤ packet_index k bytes)
place_stops k bytes few = elim (cases_lt k (length (cut_packets bytes))) [
  | inl before ↦ inl (place_is_sync k bytes before)
  | inr last ↦
      let is : k ≡ length (cut_packets bytes) = omega (arith, few, last) in
      let all : packet_index k bytes ≡ length bytes = ap (λ (n : ℕ). packet_index n bytes) is ∙ all_counted bytes in
      inr (omega (arith, all))
]

-- what is before a place is cut into the packets before it
cut_before : (bytes : List ℕ) → Course bytes → (k : ℕ) → k ≤ length (cut_packets bytes) →
    cut_packets (take (packet_index k bytes) bytes) ≡ take k (cut_packets bytes)
cut_before bytes (end none) k few =
    let nothing : take (packet_index k bytes) bytes ≡ [] =
    nil_from_length (take (packet_index k bytes) bytes)
    (omega (arith, length-take (packet_index k bytes) bytes, ap (λ (xs : List ℕ). length xs) none)) in
    let all : cut_packets bytes ≡ [] = ap cut_packets none ∙ cut_end in
    let first : k ≡ 0 = omega (arith, few, ap (λ (ps : List (List ℕ)). length ps) all) in
    ap cut_packets nothing ∙ cut_end ∙ sym (ap (λ (n : ℕ). take n (cut_packets bytes)) first)
cut_before bytes (packet begins course) zero few =
    ap (λ (i : ℕ). cut_packets (take i bytes)) (place_first bytes begins) ∙ cut_end
cut_before bytes (packet begins course) (suc k) few =
    let count : length (cut_packets bytes) ≡ suc (length (cut_packets (drop 188 bytes))) =
    ap (λ (ps : List (List ℕ)). length ps) (cut_packet bytes begins) in
    let more : ℕ = packet_index k (drop 188 bytes) in
    ap (λ (i : ℕ). cut_packets (take i bytes)) (place_packet k bytes begins)
    ∙ cut_packet (take (188 + more) bytes) (begins_up_to bytes more begins)
    ∙ ap (λ (p : List ℕ). p ∷ cut_packets (drop 188 (take (188 + more) bytes)))
    (take-take 188 (188 + more) bytes (omega arith))
    ∙ ap (λ (xs : List ℕ). take 188 bytes ∷ cut_packets xs) (drop-take 188 more bytes)
    ∙ ap (λ (ps : List (List ℕ)). take 188 bytes ∷ ps)
    (cut_before (drop 188 bytes) course k (omega (arith, few, count)))
    ∙ sym (ap (take (suc k)) (cut_packet bytes begins))
cut_before bytes (other not some course) k few =
    let count : length (cut_packets bytes) ≡ length (cut_packets (drop 1 bytes)) =
    ap (λ (ps : List (List ℕ)). length ps) (cut_one bytes not some) in
    let more : ℕ = packet_index k (drop 1 bytes) in
    let stop : (slice_index bytes (1 + more) ≡ 0x47) ⊎ (length bytes ≤ 1 + more) =
    subst (λ (i : ℕ). (slice_index bytes i ≡ 0x47) ⊎ (length bytes ≤ i)) (place_one k bytes not some)
    (place_stops k bytes few) in
    ap (λ (i : ℕ). cut_packets (take i bytes)) (place_one k bytes not some)
    ∙ cut_one (take (1 + more) bytes) (none_up_to bytes (1 + more) not stop)
    (omega (arith, some, length-take (1 + more) bytes))
    ∙ ap cut_packets (drop-take 1 more bytes)
    ∙ cut_before (drop 1 bytes) course k (omega (arith, few, count))
    ∙ sym (ap (take k) (cut_one bytes not some))

pub before_place : (k : ℕ) (bytes : List ℕ) → k ≤ length (cut_packets bytes) →
    cut_packets (take (packet_index k bytes) bytes) ≡ take k (cut_packets bytes)
before_place k bytes few = cut_before bytes (course_of bytes) k few

pub skipped_at_place : (k : ℕ) (bytes : List ℕ) → k ≤ length (cut_packets bytes) →
    skipped_before k zero (take (packet_index k bytes) bytes) ≡ skipped_before k zero bytes
skipped_at_place k bytes few =
    let front : List ℕ = take (packet_index k bytes) bytes in
    let count : length (cut_packets front) ≡ k =
    ap (λ (ps : List (List ℕ)). length ps) (before_place k bytes few) ∙ length-take-le k (cut_packets bytes) few in
    let all : packet_index k front ≡ length front = ap (λ (n : ℕ). packet_index n front) (sym count)
    ∙ all_counted front in
    let long : length front ≡ packet_index k bytes = length-take-le (packet_index k bytes) bytes
    (place_within k bytes few) in
    omega (arith, all, long)

-- a packet that ends before the bytes do is found whatever follows
stays : (bytes : List ℕ) → Course bytes → (k : ℕ) (more : List ℕ) → k < length (cut_packets bytes) →
    packet_index k bytes + 188 < length bytes →
    (take (suc k) (cut_packets (bytes ++ more)) ≡ take (suc k) (cut_packets bytes)) ×
    (packet_index k (bytes ++ more) ≡ packet_index k bytes)
stays bytes (end none) k more few inside =
    absurd (omega (arith, few, ap (λ (ps : List (List ℕ)). length ps) (ap cut_packets none ∙ cut_end)))
stays bytes (packet begins course) zero more few inside =
    let long : 189 ≤ length bytes = omega (arith, inside) in
    let still : begins_packet (bytes ++ more) ≡ true = begins_still bytes more long ∙ begins in (
      ap (take 1) (cut_packet (bytes ++ more) still)
          ∙ ap (λ (p : List ℕ). p ∷ []) (take-append-le 188 bytes more (omega (arith, long)))
          ∙ sym (ap (take 1) (cut_packet bytes begins)),
      place_first (bytes ++ more) still ∙ sym (place_first bytes begins),
    )
stays bytes (packet begins course) (suc k) more few inside =
    let long : 189 ≤ length bytes = omega (arith, inside) in
    let still : begins_packet (bytes ++ more) ≡ true = begins_still bytes more long ∙ begins in
    let count : length (cut_packets bytes) ≡ suc (length (cut_packets (drop 188 bytes))) =
    ap (λ (ps : List (List ℕ)). length ps) (cut_packet bytes begins) in
    let on = place_packet k bytes begins in
    let left = length-drop 188 bytes in
    let behind : drop 188 (bytes ++ more) ≡ drop 188 bytes ++ more =
    drop-append-le 188 bytes more (omega (arith, long)) in
    let rest = stays (drop 188 bytes) course k more (omega (arith, few, count)) (omega (arith, inside, on, left)) in (
      ap (take (suc (suc k))) (cut_packet (bytes ++ more) still)
          ∙ ap (λ (p : List ℕ). p ∷ take (suc k) (cut_packets (drop 188 (bytes ++ more))))
          (take-append-le 188 bytes more (omega (arith, long)))
          ∙ ap (λ (xs : List ℕ). take 188 bytes ∷ take (suc k) (cut_packets xs)) behind
          ∙ ap (λ (ps : List (List ℕ)). take 188 bytes ∷ ps) rest.0
          ∙ sym (ap (take (suc (suc k))) (cut_packet bytes begins)),
      place_packet k (bytes ++ more) still
          ∙ ap (λ (xs : List ℕ). 188 + packet_index k xs) behind
          ∙ ap (λ (n : ℕ). 188 + n) rest.1 ∙ sym on,
    )
stays bytes (other not some course) k more few inside =
    let long : 189 ≤ length bytes = omega (arith, inside) in
    let still : begins_packet (bytes ++ more) ≡ false = begins_still bytes more long ∙ not in
    let there : 0 < length (bytes ++ more) = omega (arith, some, length-append bytes more) in
    let count : length (cut_packets bytes) ≡ length (cut_packets (drop 1 bytes)) =
    ap (λ (ps : List (List ℕ)). length ps) (cut_one bytes not some) in
    let on = place_one k bytes not some in
    let left = length-drop 1 bytes in
    let behind : drop 1 (bytes ++ more) ≡ drop 1 bytes ++ more =
    drop-append-le 1 bytes more (omega (arith, long)) in
    let rest = stays (drop 1 bytes) course k more (omega (arith, few, count)) (omega (arith, inside, on, left)) in (
      ap (take (suc k)) (cut_one (bytes ++ more) still there ∙ ap cut_packets behind) ∙ rest.0
          ∙ sym (ap (take (suc k)) (cut_one bytes not some)),
      place_one k (bytes ++ more) still there
          ∙ ap (λ (xs : List ℕ). 1 + packet_index k xs) behind
          ∙ ap (λ (n : ℕ). 1 + n) rest.1 ∙ sym on,
    )

pub found_stays : (k : ℕ) (bytes more : List ℕ) → k < length (cut_packets bytes) →
    packet_index k bytes + 188 < length bytes →
    take (k + 1) (cut_packets (bytes ++ more)) ≡ take (k + 1) (cut_packets bytes)
found_stays k bytes more few inside =
    let next : k + 1 ≡ suc k = omega arith in
    ap (λ (n : ℕ). take n (cut_packets (bytes ++ more))) next
    ∙ (stays bytes (course_of bytes) k more few inside).0
    ∙ sym (ap (λ (n : ℕ). take n (cut_packets bytes)) next)

pub place_stays : (k : ℕ) (bytes more : List ℕ) → k < length (cut_packets bytes) →
    packet_index k bytes + 188 < length bytes →
    packet_index k (bytes ++ more) ≡ packet_index k bytes
place_stays k bytes more few inside = (stays bytes (course_of bytes) k more few inside).1
