-- Inner: how far a stream was searched.
use Rattle.std.specs.Prelude.{◌≡◌, ℕ, zero, ◌+◌, ◌-◌, ◌^◌, ◌<◌, ◌≤◌, Bool, List, ◌++◌, length}
use Rattle.sd_base.specs.Types.{Packets}
use Rattle.sd_engine.specs.Cut.{cut_packets, skipped_before}
use Rattle.sd_engine.specs.Seeking.{MayCome}

-- of these bytes these packets were found, others wait, and so many are in no packet, fewer than 2^64 - 1: whatever
-- comes
pub record HasFound (bytes : List ℕ) (packets : Packets) (left : List ℕ) (ended : Bool) (passed : ℕ) : Type 0 where
  pub cuts : (more : List ℕ) → MayCome ended more → cut_packets (bytes ++ more) ≡ packets ++ cut_packets (left ++ more)
  pub behind : (more : List ℕ) → MayCome ended more → (k : ℕ) →
      skipped_before (length packets + k) zero (bytes ++ more) ≡ passed + skipped_before k zero (left ++ more)
  pub few : (more : List ℕ) → MayCome ended more → (n : ℕ) → n < length packets →
      skipped_before n zero (bytes ++ more) < 2 ^ 64 - 1
  pub low : passed < 2 ^ 64 - 1

-- what was found of a stream, of which all is read
pub record IsReadable (bytes : List ℕ) (s : Packets) : Type 0 where
  pub rest : Packets
  pub cuts : cut_packets bytes ≡ s ++ rest
  pub low : length s ≤ 2 ^ 48
  pub few : (n : ℕ) → n < length s → skipped_before n zero bytes < 2 ^ 64 - 1
