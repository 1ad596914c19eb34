-- Public meaning: where the packets of bytes that may be damaged are cut, and from where on they are cut right again.
use Rattle.std.specs.Prelude.{◌≡◌, ℕ, zero, ◌+◌, ◌*◌, ◌<◌, ◌≤◌, List, ◌++◌, length, drop, slice_index}
use Rattle.sd_engine.specs.Cut.{cut_packets, skipped_before}

-- the index of the first byte of packet k, or of the end, in the bytes: the packets before it and the bytes in none
abbrev pub packet_index : ℕ → List ℕ → ℕ
packet_index k bytes = 188 * k + skipped_before k zero bytes

-- at no index but the first do both packet i and packet i + 1 of these have the byte 0x47
abbrev pub HasOneSyncOffset : ℕ → List ℕ → Type 0
HasOneSyncOffset i packets = (o : ℕ) → 0 < o → o < 188 →
    ¬ ((slice_index packets (188 * i + o) ≡ 0x47) × (slice_index packets (188 * (i + 1) + o) ≡ 0x47))

-- the bytes are cut into packets before this index, and behind it as if they began there
pub record IsCutAt (index : ℕ) (bytes : List ℕ) : Type 0 where
  pub before : List (List ℕ)
  pub within : 188 * length before ≤ index
  pub cuts : cut_packets bytes ≡ before ++ cut_packets (drop index bytes)
