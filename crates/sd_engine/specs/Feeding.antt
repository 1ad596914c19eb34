-- Inner: how packets come from a source, a piece of its bytes at a time.
use Rattle.std.specs.Prelude.{◌≡◌, ◌≢◌, ◌⊎◌, ℕ, ◌-◌, ◌<◌, ◌≤◌, List, [], ◌++◌, length, take, drop, slice_index, Option}
use Rattle.std.specs.Prelude.{Some, None}
use Rattle.std.specs.Prelude.{Result, Ok, Err}
use Rattle.std.specs.Io.KnownBytes.{Consumes, IsAtEnd}
use Rattle.sd_ports.specs.Bytes.{LosesPrefix}
use Rattle.sd_engine.specs.declared.feed.FeedFault.{FeedFault}
use Rattle.sd_engine.specs.declared.feed.FeedFault.TheVariants.{Read, Write, Break}
use Rattle.sd_engine.specs.declared.fault.BreakCause.{BreakCause}
use Rattle.sd_engine.specs.declared.fault.BreakCause.TheVariants.{Torn, NoSync}

-- the bytes of a piece that were read and not taken yet
abbrev pub waiting : List ℕ → ℕ → ℕ → List ℕ
waiting piece at filled = take (filled - at) (drop at piece)

-- what is left of a source lost some bytes, and they stand after those that wait
pub record ReadsMore (before now : Option (List ℕ)) (old new : List ℕ) : Type 0 where
  pub bytes : List ℕ
  pub consumed : Consumes before now bytes
  pub joined : new ≡ old ++ bytes

-- so many bytes wait at least, or all that is left
pub record HasFilled (least : ℕ) (before now : Option (List ℕ)) (old new : List ℕ) : Type 0 where
  pub read : ReadsMore before now old new
  pub enough : (least ≤ length new) ⊎ IsAtEnd now

-- what waits: a packet first, nothing, or bytes that are no packet [ISO/IEC 13818-1, 2.4.3.2]
abbrev pub IsWaitingPacket : List ℕ → Result (Option (List ℕ)) BreakCause → Type 0
IsWaitingPacket waiting (Ok (Some packet)) =
    (take 188 waiting ≡ packet) × (188 ≤ length waiting) × (slice_index waiting 0 ≡ 0x47)
IsWaitingPacket waiting (Ok None) = waiting ≡ []
IsWaitingPacket waiting (Err Torn) = (0 < length waiting) × (length waiting < 188)
IsWaitingPacket waiting (Err NoSync) = (188 ≤ length waiting) × (slice_index waiting 0 ≢ 0x47)

-- a packet came [ISO/IEC 13818-1, 2.4.3.2]
pub record GivesPacket (before now : Option (List ℕ)) (old new packet : List ℕ) : Type 0 where
  pub read : ReadsMore before now old (packet ++ new)
  pub long : length packet ≡ 188
  pub sync : slice_index packet 0 ≡ 0x47

-- no byte is left
pub record GivesNone (before now : Option (List ℕ)) (old new : List ℕ) : Type 0 where
  pub read : ReadsMore before now old []
  pub none : new ≡ []
  pub end : IsAtEnd now

-- the result of a feed from a source, of which some bytes wait
abbrev pub FeedOutcome : Option (List ℕ) → Option (List ℕ) → List ℕ → List ℕ → Option (List ℕ) → Type 0
FeedOutcome before now old new (Some packet) = GivesPacket before now old new packet
FeedOutcome before now old new None = GivesNone before now old new

-- the bytes that wait once some were read are no packet, for this cause
pub record IsBrokenStream (before now : Option (List ℕ)) (old : List ℕ) (cause : BreakCause) : Type 0 where
  pub left : List ℕ
  pub read : ReadsMore before now old left
  pub broken : IsWaitingPacket left (Err cause)
  pub end : cause ≡ Torn → IsAtEnd now

-- why not as many bytes wait: a read failed, or a write before it, and then nothing was read
abbrev pub FillStop : Option (List ℕ) → Option (List ℕ) → FeedFault → Type 0
FillStop before now Read = LosesPrefix before now
FillStop before now Write = now ≡ before
FillStop before now (Break cause) = ⊥

-- why a feed gives no packet
abbrev pub FeedStop : Option (List ℕ) → Option (List ℕ) → List ℕ → FeedFault → Type 0
FeedStop before now old Read = LosesPrefix before now
FeedStop before now old Write = now ≡ before
FeedStop before now old (Break cause) = IsBrokenStream before now old cause
