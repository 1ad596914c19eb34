-- Public meaning: the packets in bytes that may be damaged, found by the sync byte.
use Rattle.std.specs.Prelude.{ℕ, zero, suc, ◌+◌, ◌-◌, ◌^◌, ◌==◌, ◌&&◌, ◌||◌, Bool, not, nat_le, nat_lt, List, [], ◌∷◌}
use Rattle.std.specs.Prelude.{length, take, slice_index, if◌then◌else◌}

-- the bytes begin with a packet: the sync byte, 188 bytes, and behind them the sync byte or nothing [ISO/IEC 13818-1,
-- 2.4.3.2]
unfoldable pub begins_packet : List ℕ → Bool
begins_packet bytes = (slice_index bytes 0 == 0x47)
    && (nat_le 188 (length bytes) && ((length bytes == 188) || (slice_index bytes 188 == 0x47)))

-- the packets in bytes of which the first n are of a packet that was cut [this project, docs/FORMATS.md, Streams]
unfoldable pub cut_after : ℕ → List ℕ → List (List ℕ)
cut_after n [] = []
cut_after (suc n) (byte ∷ bytes) = cut_after n bytes
cut_after zero (byte ∷ bytes) =
    if begins_packet (byte ∷ bytes) then take 188 (byte ∷ bytes) ∷ cut_after 187 bytes
    else cut_after zero bytes

-- the packets in bytes, found by the sync byte
abbrev pub cut_packets : List ℕ → List (List ℕ)
cut_packets bytes = cut_after zero bytes

-- the bytes in no packet before packet k, or before the end, if the first n are of a packet that was cut
unfoldable pub skipped_before : ℕ → ℕ → List ℕ → ℕ
skipped_before k n [] = 0
skipped_before k (suc n) (byte ∷ bytes) = skipped_before k n bytes
skipped_before k zero (byte ∷ bytes) =
    if begins_packet (byte ∷ bytes) then (if k == 0 then 0 else skipped_before (k - 1) 187 bytes)
    else 1 + skipped_before k zero bytes

-- fewer than 2^64 - 1 bytes are in no packet before packet k, or before the end
abbrev pub skips_few : List ℕ → ℕ → Bool
skips_few bytes k = nat_lt (skipped_before k zero bytes) (2 ^ 64 - 1)

-- of these packets, from packet k of the bytes on, those that are read
unfoldable pub read_from : List ℕ → ℕ → List (List ℕ) → List (List ℕ)
read_from bytes k [] = []
read_from bytes k (packet ∷ packets) =
    if nat_lt k (2 ^ 48) && skips_few bytes k then packet ∷ read_from bytes (k + 1) packets else []

-- the packets that are read of a stream: 2^48 at most, and none behind 2^64 - 1 bytes that are in no packet [this
-- project, docs/FORMATS.md, Streams]
abbrev pub readable : List ℕ → List (List ℕ)
readable bytes = read_from bytes 0 (cut_packets bytes)

-- a stream has more than is read of it: more than 2^48 packets, or 2^64 - 1 bytes that are in none [this project,
-- docs/FORMATS.md, Streams]
unfoldable pub is_stream_too_long : List ℕ → Bool
is_stream_too_long bytes = nat_lt (2 ^ 48) (length (cut_packets bytes))
    || not (skips_few bytes (length (cut_packets bytes)))
