-- Public meaning: what a drive takes of all the bytes of a stream, and what it answers.
use Rattle.std.specs.Prelude.{◌≡◌, ◌⊎◌, ℕ, ◌*◌, ◌≤◌, nat_lt, List, length, take, slice_get, if◌then◌else◌, Option, Some}
use Rattle.std.specs.Prelude.{None}
use Rattle.std.specs.Prelude.{Result, Ok, Err}
use Rattle.sd_engine.specs.Stream.{packets_of, break_of}
use Rattle.sd_engine.specs.Stage.{HasGrown, IsCutShort}
use Rattle.sd_engine.specs.Driving.{DriveState, most_packets, PassesPackets, ChainToEnd, ChainToRefusal, IsAllowedAt}
use Rattle.sd_engine.specs.declared.fault.StreamBreak.{StreamBreak}
use Rattle.sd_engine.specs.declared.driver.DriveFault.{DriveFault}
use Rattle.sd_engine.specs.declared.driver.DriveFault.TheVariants.{Broken, TooLong, ReadFault, WriteFault, Refused}

-- how a stream of bytes ends: whole, with a break, or with more bytes after the most packets
pub data StreamEnd : Type 0 where
  Whole : StreamEnd
  Breaks : StreamBreak → StreamEnd
  RunsOn : StreamEnd

-- the packets of a stream that are taken: those before its break, and no more than the most
-- [this project, docs/FORMATS.md, Streams]
unfoldable pub packets_taken : List ℕ → List (List ℕ)
packets_taken bytes = take most_packets (packets_of bytes)

abbrev pub stream_end_by : Option StreamBreak → StreamEnd
stream_end_by None = Whole
stream_end_by (Some found) = Breaks found

-- how it ends [this project, docs/FORMATS.md, Streams]
unfoldable pub end_of : List ℕ → StreamEnd
end_of bytes =
    if nat_lt (length (packets_of bytes)) most_packets then stream_end_by (break_of bytes)
    else if nat_lt (188 * most_packets) (length bytes) then RunsOn
    else Whole

-- these are the bytes to come, if the model knows them
abbrev pub AreBytesLeft : Option (List ℕ) → List ℕ → Type 0
AreBytesLeft None bytes = Unit {0}
AreBytesLeft (Some left) bytes = left ≡ bytes

-- a packet of the stream, or its end, before which all went through
pub record IsReachedPacket (bytes : List ℕ) (count : ℕ) : Type 0 where
  pub within : count ≤ length (packets_taken bytes)
  pub end : count ≡ length (packets_taken bytes) → end_of bytes ≡ Whole

-- the stage refused there
pub record RefusesAt {S F : Type 0} (does : S → List ℕ → S → List ℕ → ℕ → Type 0)
    (refuses : S → Option (List ℕ) → F → S → List ℕ → ℕ →
    Type 0) (bytes : List ℕ) (a b : DriveState S) (fault : F) : Type 0
  where
    pub count : ℕ
    pub place : IsReachedPacket bytes count
    pub passed : HasGrown a.sink b.sink a.steps b.steps
        (ChainToRefusal does refuses a.stage (take count (packets_taken bytes)) (slice_get (packets_taken bytes) count)
        fault
        b.stage)

-- a write failed there
pub record CutAt {S F : Type 0} (does : S → List ℕ → S → List ℕ → ℕ → Type 0) (ends : S → S → List ℕ → ℕ → Type 0)
    (refuses : S → Option (List ℕ) → F → S → List ℕ → ℕ → Type 0) (bytes : List ℕ) (a b : DriveState S) : Type 0 where
  pub count : ℕ
  pub place : IsReachedPacket bytes count
  pub mid : DriveState S
  pub passed : PassesPackets does a (take count (packets_taken bytes)) mid
  pub cut : IsCutShort mid.sink b.sink
      (IsAllowedAt does ends refuses mid.stage (slice_get (packets_taken bytes) count) mid.steps b.steps)

-- Some first packets went through, and then the bytes that waited in the sink could not be handed on. It happens only
-- to a sink that doesn't tell what it holds.
pub record HeldUpAt {S : Type 0} (does : S → List ℕ → S → List ℕ → ℕ → Type 0) (bytes : List ℕ) (a b : DriveState S) :
    Type 0 where
  pub count : ℕ
  pub untold : a.sink.held ≡ None
  pub within : count ≤ length (packets_taken bytes)
  pub passed : PassesPackets does a (take count (packets_taken bytes)) b

-- the result of the drive of a stream of these bytes
abbrev pub DriveOutcomeOver : {S F : Type 0} → (S → List ℕ → S → List ℕ → ℕ → Type 0) → (S → S → List ℕ → ℕ → Type 0)
    → (S → Option (List ℕ) → F → S → List ℕ → ℕ → Type 0) → List ℕ → DriveState S → DriveState S →
    Result ℕ (DriveFault F) →
    Type 0
DriveOutcomeOver does ends refuses bytes a b (Ok count) =
    (end_of bytes ≡ Whole) × (count ≡ length (packets_taken bytes))
    × HasGrown a.sink b.sink a.steps b.steps (ChainToEnd does ends a.stage (packets_taken bytes) b.stage)
DriveOutcomeOver does ends refuses bytes a b (Err (Broken found)) =
    (end_of bytes ≡ Breaks found) × PassesPackets does a (packets_taken bytes) b
DriveOutcomeOver does ends refuses bytes a b (Err TooLong) = (end_of bytes ≡ RunsOn) ×
    PassesPackets does a (packets_taken bytes) b
DriveOutcomeOver does ends refuses bytes a b (Err ReadFault) =
    (count : ℕ) × (count ≤ length (packets_taken bytes)) × PassesPackets does a (take count (packets_taken bytes)) b
DriveOutcomeOver does ends refuses bytes a b (Err WriteFault) =
    CutAt does ends refuses bytes a b ⊎ HeldUpAt does bytes a b
DriveOutcomeOver does ends refuses bytes a b (Err (Refused fault)) = RefusesAt does refuses bytes a b fault

-- the drive is one of a stream whose bytes are all that was left of the source
pub record IsOver {S F : Type 0} (does : S → List ℕ → S → List ℕ → ℕ → Type 0) (ends : S → S → List ℕ → ℕ → Type 0)
    (refuses : S → Option (List ℕ) → F → S → List ℕ → ℕ →
    Type 0) (a b : DriveState S) (result : Result ℕ (DriveFault F)) : Type 0 where
  pub bytes : List ℕ
  pub left : AreBytesLeft a.left bytes
  pub drives : DriveOutcomeOver does ends refuses bytes a b result
