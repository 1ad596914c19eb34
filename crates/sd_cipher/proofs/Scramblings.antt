-- What a packet is when its payload is laid under a stream, and again.
use Rattle.std.proofs.Common.{drop_at, ℕ, zero, suc, ◌+◌, ◌*◌, ◌%◌, ◌<◌, ◌≤◌, ◌≡◌, Bool, true, false, List, []}
use Rattle.std.proofs.Common.{◌∷◌, ◌++◌, length, take, drop, refl, sym, ◌∙◌, ap, arith}
use Rattle.std.specs.Prelude.{bit_xor, slice_set, slice_index, nat_le, ◌==◌, ◌&&◌, if◌then◌else◌}
use Rattle.std.proofs.Math.Seq.{take-append_seam}
use Rattle.std.proofs.lemmas.List.{length-take-le, length-set}
use Rattle.std.specs.Int.Bits.{xor_comm}
use Rattle.sd_base.specs.Bits.{field}
use Rattle.sd_base.proofs.Fields.{field_below}
use Rattle.sd_cipher.specs.Keystream.{keystream, xored}
use Rattle.sd_cipher.proofs.Streams.{keystream_length, xored_twice}
use Rattle.sd_packet.specs.Header.{unit_start_of, pid_of, scrambling_of, adaptation_of, payload_start_of}
use Rattle.sd_packet.specs.Header.{payload_of, controlled}
use Rattle.sd_packet.proofs.Headers.{controls_and_counter}
use Rattle.sd_packet.proofs.Packets.{start_within}
use Rattle.sd_cipher.specs.Scrambling.{IsPacketUnderKeystream, payload_under, stream_number, packet_under_keystream}
use Rattle.sd_cipher.specs.Scrambling.{control_of}
use Rattle.sd_cipher.specs.declared.payload.Parity.{Parity}
use Rattle.sd_cipher.specs.declared.payload.Parity.TheVariants.{Even, Odd}

-- of a stream, a part as long as the text is enough
pub part_is_enough : (text stream : List ℕ) (n : ℕ) → n ≡ length text → xored text (take n stream) ≡ xored text stream
part_is_enough [] stream n h = refl
part_is_enough (x ∷ text) [] zero h = refl
part_is_enough (x ∷ text) [] (suc n) h = refl
part_is_enough (x ∷ text) (y ∷ stream) zero h = absurd (omega arith)
part_is_enough (x ∷ text) (y ∷ stream) (suc n) h =
    ap (λ (r : List ℕ). bit_xor x y ∷ r) (part_is_enough text stream n (omega arith))

-- under each other, texts of one length are the same
pub swapped : (text stream : List ℕ) → length text ≡ length stream → xored text stream ≡ xored stream text
swapped [] [] h = refl
swapped [] (y ∷ stream) h = absurd (omega arith)
swapped (x ∷ text) [] h = absurd (omega arith)
swapped (x ∷ text) (y ∷ stream) h = rw (xor_comm x y) (ap (λ (r : List ℕ). bit_xor y x ∷ r) (swapped text stream
    (omega arith)))

-- a text laid over the first bytes of a stream is the text under the stream
pub first_laid : (text stream : List ℕ) → length text ≤ length stream →
    xored (take (length text) stream) text ≡ xored text stream
first_laid text stream short =
    swapped (take (length text) stream) text (length-take-le (length text) stream short)
    ∙ part_is_enough text stream (length text) refl

-- of a text before others, as much as it is long is the text
pub prefix_of : (payload text rest : List ℕ) → length text ≡ length payload →
    take (length payload) (text ++ rest) ≡ text
prefix_of payload text rest long =
    ap (λ (n : ℕ). take n (text ++ rest)) (sym long) ∙ take-append_seam text rest

-- the fourth byte is changed before what is put after it, or after
pub controlled_first : (packet payload : List ℕ) (start control : ℕ) → 4 ≤ start → 4 ≤ length packet →
    controlled (take start packet ++ payload) control ≡ take start (controlled packet control) ++ payload
controlled_first [] payload start control low long = absurd (omega arith)
controlled_first (a ∷ []) payload start control low long = absurd (omega arith)
controlled_first (a ∷ (b ∷ [])) payload start control low long = absurd (omega arith)
controlled_first (a ∷ (b ∷ (c ∷ []))) payload start control low long = absurd (omega arith)
controlled_first (a ∷ (b ∷ (c ∷ (d ∷ rest)))) payload zero control low long = absurd (omega arith)
controlled_first (a ∷ (b ∷ (c ∷ (d ∷ rest)))) payload (suc zero) control low long = absurd (omega arith)
controlled_first (a ∷ (b ∷ (c ∷ (d ∷ rest)))) payload (suc (suc zero)) control low long = absurd (omega arith)
controlled_first (a ∷ (b ∷ (c ∷ (d ∷ rest)))) payload (suc (suc (suc zero))) control low long = absurd (omega arith)
controlled_first (a ∷ (b ∷ (c ∷ (d ∷ rest)))) payload (suc (suc (suc (suc k)))) control low long = refl

-- the fourth byte stands before what is put after it
pub fourth_stays : (packet payload : List ℕ) (start : ℕ) → 4 ≤ start → 4 ≤ length packet →
    slice_index (take start packet ++ payload) 3 ≡ slice_index packet 3
fourth_stays [] payload start low long = absurd (omega arith)
fourth_stays (a ∷ []) payload start low long = absurd (omega arith)
fourth_stays (a ∷ (b ∷ [])) payload start low long = absurd (omega arith)
fourth_stays (a ∷ (b ∷ (c ∷ []))) payload start low long = absurd (omega arith)
fourth_stays (a ∷ (b ∷ (c ∷ (d ∷ rest)))) payload zero low long = absurd (omega arith)
fourth_stays (a ∷ (b ∷ (c ∷ (d ∷ rest)))) payload (suc zero) low long = absurd (omega arith)
fourth_stays (a ∷ (b ∷ (c ∷ (d ∷ rest)))) payload (suc (suc zero)) low long = absurd (omega arith)
fourth_stays (a ∷ (b ∷ (c ∷ (d ∷ rest)))) payload (suc (suc (suc zero))) low long = absurd (omega arith)
fourth_stays (a ∷ (b ∷ (c ∷ (d ∷ rest)))) payload (suc (suc (suc (suc k)))) low long = refl

-- a packet whose payload was laid under a part of its stream, and whose control was set, is laid under the stream
pub all_laid : (packet word laid put new : List ℕ) (position control : ℕ) → length packet ≡ 188 →
    laid ≡ xored (payload_of packet) (keystream word (stream_number (pid_of packet) position) 184) →
    put ≡ take (payload_start_of packet) packet ++ laid → new ≡ controlled put control →
    new ≡ packet_under_keystream packet word position control
unfolding packet_under_keystream
all_laid packet word laid put new position control long is_laid is_put is_new =
    is_new ∙ (ap (λ (bytes : List ℕ). controlled bytes control)
    (is_put ∙ ap (λ (bytes : List ℕ). take (payload_start_of packet) packet ++ bytes) is_laid)
    ∙ controlled_first packet (payload_under packet word position) (payload_start_of packet) control
    (start_within packet).0 (omega arith))

-- the bytes of a header whose fourth byte is changed, and the byte after it where the prefix reaches it
pub record HasPrefix (old new : List ℕ) (start fourth : ℕ) : Type 0 where
  pub first : slice_index new 0 ≡ slice_index old 0
  pub second : slice_index new 1 ≡ slice_index old 1
  pub third : slice_index new 2 ≡ slice_index old 2
  pub fourth_is : slice_index new 3 ≡ fourth
  pub after : 4 < start → slice_index new 4 ≡ slice_index old 4

-- they are so where the prefix is kept but for the fourth byte
pub prefix_is : (packet payload : List ℕ) (start fourth : ℕ) → 4 ≤ start → 5 ≤ length packet
    → HasPrefix packet (take start (slice_set packet 3 fourth) ++ payload) start fourth
prefix_is [] payload start y h long = absurd (omega arith)
prefix_is (a ∷ []) payload start y h long = absurd (omega arith)
prefix_is (a ∷ (b ∷ [])) payload start y h long = absurd (omega arith)
prefix_is (a ∷ (b ∷ (c ∷ []))) payload start y h long = absurd (omega arith)
prefix_is (a ∷ (b ∷ (c ∷ (d ∷ [])))) payload start y h long = absurd (omega arith)
prefix_is (a ∷ (b ∷ (c ∷ (d ∷ (e ∷ rest))))) payload zero y h long = absurd (omega arith)
prefix_is (a ∷ (b ∷ (c ∷ (d ∷ (e ∷ rest))))) payload (suc zero) y h long = absurd (omega arith)
prefix_is (a ∷ (b ∷ (c ∷ (d ∷ (e ∷ rest))))) payload (suc (suc zero)) y h long = absurd (omega arith)
prefix_is (a ∷ (b ∷ (c ∷ (d ∷ (e ∷ rest))))) payload (suc (suc (suc zero))) y h long = absurd (omega arith)
prefix_is (a ∷ (b ∷ (c ∷ (d ∷ (e ∷ rest))))) payload (suc (suc (suc (suc zero)))) y h long =
    record { first = refl; second = refl; third = refl; fourth_is = refl; after = λ g. absurd (omega arith) }
prefix_is (a ∷ (b ∷ (c ∷ (d ∷ (e ∷ rest))))) payload (suc (suc (suc (suc (suc k))))) y h long =
    record { first = refl; second = refl; third = refl; fourth_is = refl; after = λ g. refl }

-- a text laid twice after a prefix that stays is the whole
rest_back : (rest stream : List ℕ) (k : ℕ) → k ≤ length rest → length rest ≤ k + length stream →
    take k (take k rest ++ xored (drop k rest) stream)
    ++ xored (drop k (take k rest ++ xored (drop k rest) stream)) stream ≡ rest
rest_back rest stream zero h long = xored_twice rest stream (omega arith)
rest_back [] stream (suc k) h long = absurd (omega arith)
rest_back (x ∷ rest) stream (suc k) h long =
    ap (λ (r : List ℕ). x ∷ r) (rest_back rest stream k (omega arith) (omega arith))

-- a packet whose fourth byte is changed and restored, and whose payload is laid twice, is the packet
whole_back : (packet stream : List ℕ) (start y z : ℕ) → 4 ≤ start → start ≤ length packet
    → length packet ≤ start + length stream → slice_index packet 3 ≡ z →
    take start (slice_set (take start (slice_set packet 3 y) ++ xored (drop start packet) stream) 3 z)
    ++ xored (drop start (take start (slice_set packet 3 y) ++ xored (drop start packet) stream)) stream ≡ packet
whole_back packet stream zero y z h high long e = absurd (omega arith)
whole_back packet stream (suc zero) y z h high long e = absurd (omega arith)
whole_back packet stream (suc (suc zero)) y z h high long e = absurd (omega arith)
whole_back packet stream (suc (suc (suc zero))) y z h high long e = absurd (omega arith)
whole_back [] stream (suc (suc (suc (suc k)))) y z h high long e = absurd (omega arith)
whole_back (a ∷ []) stream (suc (suc (suc (suc k)))) y z h high long e = absurd (omega arith)
whole_back (a ∷ (b ∷ [])) stream (suc (suc (suc (suc k)))) y z h high long e = absurd (omega arith)
whole_back (a ∷ (b ∷ (c ∷ []))) stream (suc (suc (suc (suc k)))) y z h high long e = absurd (omega arith)
whole_back (a ∷ (b ∷ (c ∷ (d ∷ rest)))) stream (suc (suc (suc (suc k)))) y z h high long e =
    rw (sym e) (ap (λ (r : List ℕ). a ∷ (b ∷ (c ∷ (d ∷ r)))) (rest_back rest stream k (omega arith) (omega arith)))

-- a PID is that of its two bytes
pub pid_by_bytes : (x y : List ℕ) → slice_index x 1 ≡ slice_index y 1 → slice_index x 2 ≡ slice_index y 2
    → pid_of x ≡ pid_of y
unfolding field
pid_by_bytes x y e f = rw (e, f) refl

unit_start_by_byte : (x y : List ℕ) → slice_index x 1 ≡ slice_index y 1 → unit_start_of x ≡ unit_start_of y
unfolding field
unit_start_by_byte x y e = rw e refl

above : (both : Bool) (n : ℕ) → 4 < (if both then 5 + n else 188)
above true n = omega arith
above false n = omega arith

start_by : (alone both : Bool) (m n : ℕ)
    → ((4 < (if alone then 4 else if both && nat_le n 182 then 5 + n else 188)) → m ≡ n)
    → (if alone then 4 else if both && nat_le m 182 then 5 + m else 188) ≡ (if alone then 4
    else if both && nat_le n 182 then 5 + n else 188)
start_by true both m n h = refl
start_by false both m n h = let e = h (above (both && nat_le n 182) n) in rw e refl

-- where a payload starts, by the adaptation control and the byte after the header
start_by_bytes : (x y : List ℕ) → adaptation_of x ≡ adaptation_of y
    → ((4 < payload_start_of y) → slice_index x 4 ≡ slice_index y 4) → payload_start_of x ≡ payload_start_of y
unfolding payload_start_of
start_by_bytes x y e h =
    rw e (start_by (adaptation_of y == 1) (adaptation_of y == 3) (slice_index x 4) (slice_index y 4) h)

-- what is read from a packet that is laid under a stream
pub fields_of : (packet payload : List ℕ) (control : ℕ) → length packet ≡ 188 → slice_index packet 3 < 256 → control < 4
    → IsPacketUnderKeystream packet control payload (take (payload_start_of packet) (controlled packet control)
    ++ payload)
fields_of packet payload control long byte low =
    let new : List ℕ = take (payload_start_of packet) (controlled packet control) ++ payload in
    let prefix =
    prefix_is packet payload (payload_start_of packet) (control * 64 + slice_index packet 3 % 64)
    (start_within packet).0 (omega arith) in
    let prefix_long : length (take (payload_start_of packet) (controlled packet control)) ≡ payload_start_of packet =
    length-take-le (payload_start_of packet) (controlled packet control)
    (omega (arith, start_within packet, length-set packet 3 (control * 64 + slice_index packet 3 % 64))) in
    let fourth : slice_index new 3 ≡ control * 64 + slice_index packet 3 % 64 = prefix.fourth_is in
    let before = controls_and_counter packet byte in
    let after = controls_and_counter new (omega (arith, fourth)) in
    let below_a = field_below packet 26 2 in
    let below_c = field_below packet 28 4 in
    let below_na = field_below new 26 2 in
    let below_nc = field_below new 28 4 in
    let same : adaptation_of new ≡ adaptation_of packet = omega arith in
    let start : payload_start_of new ≡ payload_start_of packet = start_by_bytes new packet same prefix.after in
    record {
      unit_start = unit_start_by_byte new packet prefix.second;
      pid = pid_by_bytes new packet prefix.second prefix.third;
      scrambling = omega arith;
      adaptation = same;
      counter = omega arith;
      start = start;
      payload_is =
          rw start (drop_at (take (payload_start_of packet) (controlled packet control)) payload
          (payload_start_of packet) prefix_long);
    }

-- what is read from a packet after scrambling or descrambling
pub laid_reads : (packet word : List ℕ) (position control : ℕ) → length packet ≡ 188 → slice_index packet 3 < 256
    → control < 4 →
    IsPacketUnderKeystream packet control (payload_under packet word position)
    (packet_under_keystream packet word position control)
unfolding packet_under_keystream
laid_reads packet word position control long byte low =
    fields_of packet (payload_under packet word position) control long byte low

-- a packet laid under a stream, and under it again with the control that it had, is the packet
pub undone : (packet word : List ℕ) (position control : ℕ) → length packet ≡ 188 → slice_index packet 3 < 256
    → scrambling_of packet ≡ 0 → control < 4
    → packet_under_keystream (packet_under_keystream packet word position control) word position 0 ≡ packet
unfolding packet_under_keystream
undone packet word position control long byte clear low =
    let stream : List ℕ = keystream word (stream_number (pid_of packet) position) 184 in
    let is = fields_of packet (xored (drop (payload_start_of packet) packet) stream) control long byte low in
    let prefix =
    prefix_is packet (xored (drop (payload_start_of packet) packet) stream) (payload_start_of packet)
    (control * 64 + slice_index packet 3 % 64) (start_within packet).0 (omega arith) in
    let here = controls_and_counter packet byte in
    let below_a = field_below packet 26 2 in
    let below_c = field_below packet 28 4 in
    let within = start_within packet in
    let is_fourth = prefix.fourth_is in
    rw (
      is.pid,
      is.start,
    )
    (whole_back packet stream (payload_start_of packet) (control * 64 + slice_index packet 3 % 64) _ within.0
    (omega arith) (omega (arith, keystream_length word (stream_number (pid_of packet) position) 184)) (omega arith))

-- a parity's control is one of two bits
pub control_fits : (parity : Parity) → control_of parity < 4
control_fits Even = omega arith
control_fits Odd = omega arith
