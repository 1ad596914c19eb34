-- Streams of packets, written in pieces.
use Rattle.std.proofs.Common.{ℕ, zero, suc, ◌+◌, ◌-◌, ◌<◌, ◌≤◌, ◌≡◌, List, [], ◌∷◌, ◌++◌, length, take, drop, map}
use Rattle.std.proofs.Common.{length-append, length-drop, length-take-le, take_at, refl, sym, ap, subst, ◌∙◌}
use Rattle.std.proofs.Common.{append_assoc, arith}
use Rattle.std.specs.Prelude.{Option, slice_set}
use Rattle.std.specs.List.{range_with_len, flat_map}
use Rattle.std.specs.Io.KnownBytes.{Appends}
use Rattle.std.proofs.KnownBytes.{Appends-nil, Appends-trans}
use Rattle.std.proofs.lemmas.List.{take_more_set}
use Rattle.std.proofs.lemmas.List.Concat.{flat_map-append}
use Rattle.std.proofs.lemmas.List.Folds.{flat_map-map}
use Rattle.std.proofs.lemmas.List.FromFn.{map-range_with_len_more}
use Rattle.sd_ports.specs.Bytes.{AppendsPrefix}
use Rattle.sd_engine.specs.Sample.{state_at, generated_in, generated_before, sample_packet_at, sample_packet, sample_of}
use Rattle.sd_engine.proofs.SampleRounds.{generated_more}
use Rattle.sd_engine.proofs.Generator.{state_more}

-- a range and the range after it
range_append : (a m n : ℕ) → range_with_len a m ++ range_with_len (a + m) n ≡ range_with_len a (m + n)
range_append a zero n =
    let e : a + 0 ≡ a = omega arith in
    let f : n ≡ 0 + n = omega arith in
    ap (λ (b : ℕ). range_with_len b n) e ∙ ap (range_with_len a) f
range_append a (suc m) n =
    let e : a + suc m ≡ a + 1 + m = omega arith in
    let f : suc (m + n) ≡ suc m + n = omega arith in
    ap (λ (r : List ℕ). a ∷ r) (ap (λ (b : ℕ). range_with_len (a + 1) m ++ range_with_len b n) e
    ∙ range_append (a + 1) m n)
    ∙ ap (range_with_len a) f

-- a stream and the packets after it
pub sample_more : (number done count : ℕ) → sample_of number done
    ++ flat_map (sample_packet number) (range_with_len done count) ≡ sample_of number (done + count)
unfolding sample_of
sample_more number done count =
    let e : done ≡ 0 + done = omega arith in
    sym (flat_map-append (sample_packet number) (range_with_len 0 done) (range_with_len done count))
    ∙ ap (flat_map (sample_packet number)) (ap (λ (a : ℕ). range_with_len 0 done ++ range_with_len a count) e
    ∙ range_append 0 done count)

-- before the first packet
pub state_begins : (number s : ℕ) → s ≡ number → s ≡ state_at number (generated_before 0)
unfolding state_at generated_before
state_begins number s e = e

pub none_written : (a : Option (List ℕ)) (number : ℕ) → Appends a a (sample_of number 0)
unfolding sample_of
none_written a number = Appends-nil a

-- the state before the next packet
pub state_next : (number k s t : ℕ) → s ≡ state_at number (generated_before k) → t ≡ state_at s (generated_in k)
    → t ≡ state_at number (generated_before (k + 1))
state_next number k s t e f =
    let m : suc k ≡ k + 1 = omega arith in
    f ∙ ap (λ (r : ℕ). state_at r (generated_in k)) e ∙ state_more number (generated_before k) (generated_in k)
    ∙ ap (state_at number) (sym (generated_more k) ∙ ap generated_before m)

-- a piece with a packet more
pub piece_more : (number first i s : ℕ) (piece : List (List ℕ)) (packet : List ℕ) → i < length piece
    → take i piece ≡ map (sample_packet number) (range_with_len first i) →
    s ≡ state_at number (generated_before (first + i)) → packet ≡ sample_packet_at (first + i) s
    → take (i + 1) (slice_set piece i packet) ≡ map (sample_packet number) (range_with_len first (i + 1))
piece_more number first i s piece packet h so_far e is =
    take_more_set piece i packet h
    ∙ ap (λ (r : List (List ℕ)). r ++ packet ∷ []) so_far
    ∙ ap (λ (p : List ℕ). map (sample_packet number) (range_with_len first i) ++
    p ∷ []) (is ∙ ap (sample_packet_at (first + i)) e)
    ∙ sym (map-range_with_len_more (sample_packet number) first i (first + i) refl)

-- a piece whose first packets were filled is as long as before
pub piece_stays_long : (count : ℕ) (new old : List (List ℕ)) → length new ≡ length (take count old) → count ≤ length old
    → length (new ++ drop count old) ≡ length old
piece_stays_long count new old e h =
    omega (arith, length-append new (drop count old), length-drop count old, length-take-le count old h)

-- the bytes of those are those of their packets
pub piece_bytes : (number done count : ℕ) (new old : List (List ℕ)) (bytes : List ℕ) → count ≤ length old
    → length new ≡ length (take count old) →
    new ≡ map (sample_packet number) (range_with_len done (length (take count old)))
    → bytes ≡ flat_map (λ (p : List ℕ). p) (take count (new ++ drop count old)) →
    bytes ≡ flat_map (sample_packet number) (range_with_len done count)
piece_bytes number done count new old bytes h same made flat =
    let long : length (take count old) ≡ count = length-take-le count old h in
    flat
    ∙ ap (flat_map (λ (p : List ℕ). p)) (take_at new (drop count old) count (same ∙ long) ∙ made)
    ∙ flat_map-map (λ (p : List ℕ). p) (sample_packet number) (range_with_len done (length (take count old)))
    ∙ ap (λ (n : ℕ). flat_map (sample_packet number) (range_with_len done n)) long

-- a stream whose next piece was written
pub written_more : (a b c : Option (List ℕ)) (number done count : ℕ) (bytes : List ℕ)
    → Appends a b (sample_of number done) →
    bytes ≡ flat_map (sample_packet number) (range_with_len done count) → Appends b c bytes
    → Appends a c (sample_of number (done + count))
written_more a b c number done count bytes p e q =
    subst (Appends a c) (ap (λ (r : List ℕ). sample_of number done ++ r) e
    ∙ sample_more number done count) (Appends-trans a b c _ _ p q)

-- a stream of whose next piece a prefix was written
pub written_prefix : (a b c : Option (List ℕ)) (number done count packets : ℕ) (bytes : List ℕ) → done + count ≤ packets
    → Appends a b (sample_of number done) →
    bytes ≡ flat_map (sample_packet number) (range_with_len done count) → AppendsPrefix b c bytes
    → AppendsPrefix a c (sample_of number packets)
written_prefix a b c number done count packets bytes within p e w =
    let piece : List ℕ = flat_map (sample_packet number) (range_with_len done count) in
    let after : List ℕ = flat_map (sample_packet number) (range_with_len (done + count) (packets - (done + count))) in
    let all : done + count + (packets - (done + count)) ≡ packets = omega arith in
    let joined : (sample_of number done ++ w.0) ++ (w.1.0 ++ after) ≡ sample_of number packets =
    append_assoc (sample_of number done) w.0 (w.1.0 ++ after)
    ∙ ap (λ (r : List ℕ). sample_of number done ++ r) (sym (append_assoc w.0 w.1.0 after)
    ∙ ap (λ (r : List ℕ). r ++ after) (w.1.1 ∙ e))
    ∙ sym (append_assoc (sample_of number done) piece after)
    ∙ ap (λ (r : List ℕ). r ++ after) (sample_more number done count)
    ∙ sample_more number (done + count) (packets - (done + count))
    ∙ ap (sample_of number) all in
    (sample_of number done ++ w.0, (w.1.0 ++ after, joined), Appends-trans a b c _ _ p w.2)
