-- A packet of which bits are changed that the head end doesn't read is carried with the same bits changed.
use Rattle.std.proofs.Common.{◌≡◌, refl, ℕ, zero, suc, ◌+◌, ◌*◌, ◌%◌, ◌<◌, ◌≤◌, ◌++◌, List, []}
use Rattle.std.proofs.Common.{◌∷◌, length, take, drop, ap, sym, ◌∙◌, arith}
use Rattle.std.specs.Prelude.{slice_index, slice_set, bit_xor}
use Rattle.std.specs.Int.Bits.{xor_assoc, xor_comm, xor_zero_r}
use Rattle.std.proofs.lemmas.Nat.{xor_of_8}
use Rattle.sd_base.specs.Bits.{field}
use Rattle.sd_packet.specs.Header.{pid_of, scrambling_of, counter_of, payload_start_of}
use Rattle.sd_packet.proofs.Packets.{start_within}
use Rattle.sd_cipher.specs.Keystream.{keystream, xored}
use Rattle.sd_cipher.specs.Scrambling.{packet_under_keystream, stream_number}
use Rattle.sd_law_contained.specs.Changed.{changed_by}

-- an empty mask changes nothing
pub changed_none : (packet : List ℕ) → changed_by packet [] ≡ packet
changed_none [] = refl
changed_none (byte ∷ packet) = refl

pub changed_length : (packet mask : List ℕ) → length (changed_by packet mask) ≡ length packet
changed_length [] mask = refl
changed_length (byte ∷ packet) [] = refl
changed_length (byte ∷ packet) (bits ∷ mask) = ap suc (changed_length packet mask)

-- each byte by itself
pub changed_at : (packet mask : List ℕ) (i : ℕ) → ((k : ℕ) → slice_index packet k < 256) →
    ((k : ℕ) → slice_index mask k < 256) → slice_index (changed_by packet mask) i < 256
changed_at [] mask i bytes bits = bytes i
changed_at (byte ∷ packet) [] i bytes bits = bytes i
changed_at (byte ∷ packet) (bit ∷ mask) zero bytes bits = xor_of_8 byte bit (bytes 0) (bits 0)
changed_at (byte ∷ packet) (bit ∷ mask) (suc i) bytes bits =
    changed_at packet mask i (λ k. bytes (suc k)) (λ k. bits (suc k))

-- the fourth byte stays if its mask is 0
pub fourth_stays : (packet mask : List ℕ) → slice_index mask 3 ≡ 0 →
    slice_index (changed_by packet mask) 3 ≡ slice_index packet 3
fourth_stays [] mask none = refl
fourth_stays (a ∷ packet) [] none = refl
fourth_stays (a ∷ []) (m ∷ mask) none = refl
fourth_stays (a ∷ (b ∷ packet)) (m ∷ []) none = refl
fourth_stays (a ∷ (b ∷ [])) (m ∷ (n ∷ mask)) none = refl
fourth_stays (a ∷ (b ∷ (c ∷ packet))) (m ∷ (n ∷ [])) none = refl
fourth_stays (a ∷ (b ∷ (c ∷ []))) (m ∷ (n ∷ (o ∷ mask))) none = refl
fourth_stays (a ∷ (b ∷ (c ∷ (d ∷ packet)))) (m ∷ (n ∷ (o ∷ []))) none = refl
fourth_stays (a ∷ (b ∷ (c ∷ (d ∷ packet)))) (m ∷ (n ∷ (o ∷ (p ∷ mask)))) none =
    ap (bit_xor d) none ∙ xor_zero_r d

-- the fields of the fourth byte
pub scrambling_by : (x y : List ℕ) → slice_index x 3 ≡ slice_index y 3 → scrambling_of x ≡ scrambling_of y
unfolding field
scrambling_by x y same = rw same refl

pub counter_by : (x y : List ℕ) → slice_index x 3 ≡ slice_index y 3 → counter_of x ≡ counter_of y
unfolding field
counter_by x y same = rw same refl

-- two streams over one byte come in either order
crossed : (byte bits key : ℕ) → bit_xor (bit_xor byte bits) key ≡ bit_xor (bit_xor byte key) bits
crossed byte bits key =
    xor_assoc byte bits key ∙ (ap (bit_xor byte) (xor_comm bits key) ∙ sym (xor_assoc byte key bits))

under_stream : (text mask stream : List ℕ) →
    xored (changed_by text mask) stream ≡ changed_by (xored text stream) mask
under_stream [] mask stream = refl
under_stream (x ∷ text) [] stream = sym (changed_none (xored (x ∷ text) stream))
under_stream (x ∷ text) (m ∷ mask) [] = refl
under_stream (x ∷ text) (m ∷ mask) (y ∷ stream) =
    ap (λ (first : ℕ). first ∷ xored (changed_by text mask) stream) (crossed x m y)
    ∙ ap (λ (rest : List ℕ). bit_xor (bit_xor x y) m ∷ rest) (under_stream text mask stream)

-- a text that is laid under a stream behind its first bytes
laid_behind : (start : ℕ) (text mask stream : List ℕ) →
    take start (changed_by text mask) ++ xored (drop start (changed_by text mask)) stream
    ≡ changed_by (take start text ++ xored (drop start text) stream) mask
laid_behind zero text mask stream = under_stream text mask stream
laid_behind (suc start) [] mask stream = refl
laid_behind (suc start) (x ∷ text) [] stream = refl
laid_behind (suc start) (x ∷ text) (m ∷ mask) stream =
    ap (λ (rest : List ℕ). bit_xor x m ∷ rest) (laid_behind start text mask stream)

-- so it is with another fourth byte, whose mask is 0
laid_fourth : (start fourth : ℕ) (packet mask stream : List ℕ) → 4 ≤ start → 4 ≤ length packet →
    slice_index mask 3 ≡ 0 →
    take start (slice_set (changed_by packet mask) 3 fourth) ++ xored (drop start (changed_by packet mask)) stream
    ≡ changed_by (take start (slice_set packet 3 fourth) ++ xored (drop start packet) stream) mask
laid_fourth start fourth packet [] stream low long none =
    ap (λ (p : List ℕ). take start (slice_set p 3 fourth) ++ xored (drop start p) stream) (changed_none packet)
    ∙ sym (changed_none (take start (slice_set packet 3 fourth) ++ xored (drop start packet) stream))
laid_fourth zero fourth packet (m ∷ mask) stream low long none = absurd (omega (arith, low))
laid_fourth (suc zero) fourth packet (m ∷ mask) stream low long none = absurd (omega (arith, low))
laid_fourth (suc (suc zero)) fourth packet (m ∷ mask) stream low long none = absurd (omega (arith, low))
laid_fourth (suc (suc (suc zero))) fourth packet (m ∷ mask) stream low long none = absurd (omega (arith, low))
laid_fourth (suc (suc (suc (suc start)))) fourth [] (m ∷ mask) stream low long none = absurd (omega (arith, long))
laid_fourth (suc (suc (suc (suc start)))) fourth (a ∷ []) (m ∷ mask) stream low long none =
    absurd (omega (arith, long))
laid_fourth (suc (suc (suc (suc start)))) fourth (a ∷ (b ∷ [])) (m ∷ mask) stream low long none =
    absurd (omega (arith, long))
laid_fourth (suc (suc (suc (suc start)))) fourth (a ∷ (b ∷ (c ∷ []))) (m ∷ mask) stream low long none =
    absurd (omega (arith, long))
laid_fourth (suc (suc (suc (suc start)))) fourth (a ∷ (b ∷ (c ∷ (d ∷ packet)))) (m ∷ []) stream low long none = refl
laid_fourth (suc (suc (suc (suc start)))) fourth (a ∷ (b ∷ (c ∷ (d ∷ packet)))) (m ∷ (n ∷ [])) stream low long none =
    refl
laid_fourth (suc (suc (suc (suc start)))) fourth (a ∷ (b ∷ (c ∷ (d ∷ packet)))) (m ∷ (n ∷ (o ∷ []))) stream low long
    none = refl
laid_fourth (suc (suc (suc (suc start)))) fourth (a ∷ (b ∷ (c ∷ (d ∷ packet)))) (m ∷ (n ∷ (o ∷ (p ∷ mask)))) stream low
    long none =
    let stays : bit_xor fourth p ≡ fourth = ap (bit_xor fourth) none ∙ xor_zero_r fourth in
    let rest = laid_behind start packet mask stream in
    rw (stays, rest) refl

-- a packet under a control word
pub laid_changed : (packet mask word : List ℕ) (position control : ℕ) → length packet ≡ 188 →
    slice_index mask 3 ≡ 0 → pid_of (changed_by packet mask) ≡ pid_of packet →
    payload_start_of (changed_by packet mask) ≡ payload_start_of packet →
    packet_under_keystream (changed_by packet mask) word position control
    ≡ changed_by (packet_under_keystream packet word position control) mask
unfolding packet_under_keystream
laid_changed packet mask word position control long none pid start =
    rw (start, pid, fourth_stays packet mask none)
    (laid_fourth (payload_start_of packet) (control * 64 + slice_index packet 3 % 64) packet mask
    (keystream word (stream_number (pid_of packet) position) 184) (start_within packet).0 (omega (arith, long)) none)
