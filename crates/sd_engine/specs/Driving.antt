-- Public meaning: what results from driving a stream through a stage.
use Rattle.std.specs.Prelude.{◌≡◌, ◌⊎◌, ℕ, ◌+◌, ◌*◌, ◌^◌, ◌<◌, ◌≤◌, List, ◌++◌, length, take, slice_get}
use Rattle.std.specs.Prelude.{Option, Some, None, Result, Ok, Err}
use Rattle.std.specs.Io.KnownBytes.{Consumes, IsAtEnd}
use Rattle.sd_engine.specs.Stage.{SinkState, HasGrown, IsCutShort, IsAllowed, Chain}
use Rattle.sd_engine.specs.Stream.{ArePackets, pieces, packets_of, break_of}
use Rattle.sd_engine.specs.declared.fault.BreakCause.TheVariants.{Torn}
use Rattle.sd_engine.specs.declared.fault.StreamBreak.{StreamBreak}
use Rattle.sd_engine.specs.declared.feed.FeedFault.{FeedFault}
use Rattle.sd_engine.specs.declared.feed.FeedFault.TheVariants.{Read, Write, Break}
use Rattle.sd_engine.specs.declared.stage.StageFault.{StageFault}
use Rattle.sd_engine.specs.declared.stage.StageFault.TheVariants.{Write as StageWrite, Refused as StageRefused}
use Rattle.sd_engine.specs.declared.driver.DriveFault.{DriveFault}
use Rattle.sd_engine.specs.declared.driver.DriveFault.TheVariants.{Broken, TooLong, ReadFault, WriteFault, Refused}

-- the most packets of a stream
abbrev pub most_packets : ℕ
most_packets = 2 ^ 48

-- the state of a drive: what is left of the source, the sink, the stage, and the steps that were counted
pub record DriveState (S : Type 0) : Type 0 where
  pub left : Option (List ℕ)
  pub sink : SinkState
  pub stage : S
  pub steps : ℕ

abbrev pub drive_state_of : {S : Type 0} → Option (List ℕ) → SinkState → S → ℕ → DriveState S
drive_state_of left sink stage steps = record { left = left; sink = sink; stage = stage; steps = steps }

-- the sink grew by what was written for these packets, one after the other
abbrev pub PassesPackets : {S : Type 0} → (S → List ℕ → S → List ℕ → ℕ → Type 0) → DriveState S → List (List ℕ) →
    DriveState S → Type 0
PassesPackets does a packets b = HasGrown a.sink b.sink a.steps b.steps (Chain does a.stage packets b.stage)

-- So far: these bytes were read, of which this number of packets went through, and these bytes wait.
pub record IsUnderWay {S : Type 0} (does : S → List ℕ → S → List ℕ → ℕ → Type 0) (a b : DriveState S) (count : ℕ)
    (waiting : List ℕ) : Type 0 where
  pub taken : List ℕ
  pub packets : ArePackets count taken
  pub read : Consumes a.left b.left (taken ++ waiting)
  pub passed : PassesPackets does a (pieces count taken) b

-- packets, and then the end
abbrev pub ChainToEnd : {S : Type 0} → (S → List ℕ → S → List ℕ → ℕ → Type 0) → (S → S → List ℕ → ℕ → Type 0)
    → S → List (List ℕ) → S → List ℕ → ℕ → Type 0
ChainToEnd {S} does ends s packets t bytes n =
    (mid : S) × (first : List ℕ) × (last : List ℕ) × (m : ℕ) × (k : ℕ)
    × Chain does s packets mid first m × ends mid t last k × (bytes ≡ first ++ last) × (n ≡ m + k)

-- all was read to the end, its packets went through, and then the stage took the end
pub record IsWhole {S : Type 0} (does : S → List ℕ → S → List ℕ → ℕ → Type 0) (ends : S → S → List ℕ → ℕ → Type 0)
    (a b : DriveState S) (count : ℕ) : Type 0 where
  pub bytes : List ℕ
  pub read : Consumes a.left b.left bytes
  pub end : IsAtEnd b.left
  pub unbroken : break_of bytes ≡ None
  pub counted : count ≡ length (packets_of bytes)
  pub few : count ≤ most_packets
  pub long : length bytes ≡ 188 * count
  pub passed : HasGrown a.sink b.sink a.steps b.steps (ChainToEnd does ends a.stage (packets_of bytes) b.stage)

-- the bytes that were read break, and the packets before the break went through
pub record IsStreamBroken {S : Type 0} (does : S → List ℕ → S → List ℕ → ℕ → Type 0) (a b : DriveState S)
    (found : StreamBreak) :
    Type 0 where
  pub bytes : List ℕ
  pub read : Consumes a.left b.left bytes
  pub end : found.cause ≡ Torn → IsAtEnd b.left
  pub broken : break_of bytes ≡ Some found
  pub counted : found.packet ≡ length (packets_of bytes)
  pub few : found.packet < most_packets
  pub passed : PassesPackets does a (packets_of bytes) b

-- some first packets of the bytes that were read went through
pub record IsStopped {S : Type 0} (does : S → List ℕ → S → List ℕ → ℕ → Type 0) (a b : DriveState S) (count : ℕ) :
    Type 0 where
  pub bytes : List ℕ
  pub read : Consumes a.left b.left bytes
  pub enough : count ≤ length (packets_of bytes)
  pub few : count ≤ most_packets
  pub passed : PassesPackets does a (take count (packets_of bytes)) b

-- the most packets of a stream went through, and a byte more was read
pub record IsTooLong {S : Type 0} (does : S → List ℕ → S → List ℕ → ℕ → Type 0) (a b : DriveState S) : Type 0 where
  pub bytes : List ℕ
  pub read : Consumes a.left b.left bytes
  pub enough : most_packets ≤ length (packets_of bytes)
  pub longer : 188 * most_packets < length bytes
  pub passed : PassesPackets does a (take most_packets (packets_of bytes)) b

-- the place of a packet in the bytes that were read, or their end where they have no more packets
pub record IsPlace (left : Option (List ℕ)) (bytes : List ℕ) (count : ℕ) : Type 0 where
  pub within : count ≤ length (packets_of bytes)
  pub few : count ≤ most_packets
  -- a packet is offered only where fewer than the most went through
  pub fewer : count < length (packets_of bytes) → count < most_packets
  pub end : count ≡ length (packets_of bytes) → IsAtEnd left × (break_of bytes ≡ None) × (length bytes ≡ 188 * count)

-- packets, and then a refusal, of a packet or of the end
abbrev pub ChainToRefusal : {S F : Type 0} → (S → List ℕ → S → List ℕ → ℕ → Type 0)
    → (S → Option (List ℕ) → F → S → List ℕ → ℕ → Type 0) → S → List (List ℕ) → Option (List ℕ) → F → S
    → List ℕ → ℕ → Type 0
ChainToRefusal {S} does refuses s packets packet fault t bytes n =
    (mid : S) × (first : List ℕ) × (last : List ℕ) × (m : ℕ) × (k : ℕ)
    × Chain does s packets mid first m × refuses mid packet fault t last k × (bytes ≡ first ++ last) × (n ≡ m + k)

-- the stage refused a packet, or the end, after the packets before it went through
pub record IsRefused {S F : Type 0} (does : S → List ℕ → S → List ℕ → ℕ → Type 0)
    (refuses : S → Option (List ℕ) → F → S → List ℕ → ℕ → Type 0) (a b : DriveState S) (fault : F) : Type 0 where
  pub bytes : List ℕ
  pub count : ℕ
  pub read : Consumes a.left b.left bytes
  pub place : IsPlace b.left bytes count
  pub passed : HasGrown a.sink b.sink a.steps b.steps
      (ChainToRefusal does refuses a.stage (take count (packets_of bytes)) (slice_get (packets_of bytes) count) fault
      b.stage)

-- the bytes that the stage may write at a packet, or at the end, and the steps that were counted
abbrev pub IsAllowedAt : {S F : Type 0} → (S → List ℕ → S → List ℕ → ℕ → Type 0) → (S → S → List ℕ → ℕ → Type 0)
    → (S → Option (List ℕ) → F → S → List ℕ → ℕ → Type 0) → S → Option (List ℕ) → ℕ → ℕ → List ℕ → Type 0
IsAllowedAt does ends refuses s None from to bytes = IsAllowed (ends s) (refuses s None) from to bytes
IsAllowedAt does ends refuses s (Some packet) from to bytes =
    IsAllowed (does s packet) (refuses s (Some packet)) from to bytes

-- a write failed at a packet, or at the end, after the packets before it went through
pub record IsCutOff {S F : Type 0} (does : S → List ℕ → S → List ℕ → ℕ → Type 0) (ends : S → S → List ℕ → ℕ → Type 0)
    (refuses : S → Option (List ℕ) → F → S → List ℕ → ℕ → Type 0) (a b : DriveState S) : Type 0 where
  pub bytes : List ℕ
  pub count : ℕ
  pub read : Consumes a.left b.left bytes
  pub place : IsPlace b.left bytes count
  -- the state before it
  pub mid : DriveState S
  pub passed : PassesPackets does a (take count (packets_of bytes)) mid
  pub cut : IsCutShort mid.sink b.sink
      (IsAllowedAt does ends refuses mid.stage (slice_get (packets_of bytes) count) mid.steps b.steps)

-- Some first packets of the bytes that were read went through, and then the bytes that waited in the sink could not be
-- handed on. It happens only to a sink that doesn't tell what it holds.
pub record IsHeldUp {S : Type 0} (does : S → List ℕ → S → List ℕ → ℕ → Type 0) (a b : DriveState S) : Type 0 where
  pub count : ℕ
  pub untold : a.sink.held ≡ None
  pub stopped : IsStopped does a b count

-- the result of a drive from one state to another
abbrev pub DriveOutcome : {S F : Type 0} → (S → List ℕ → S → List ℕ → ℕ → Type 0) → (S → S → List ℕ → ℕ → Type 0)
    → (S → Option (List ℕ) → F → S → List ℕ → ℕ → Type 0) → DriveState S → DriveState S → Result ℕ (DriveFault F) →
    Type 0
DriveOutcome does ends refuses a b (Ok count) = IsWhole does ends a b count
DriveOutcome does ends refuses a b (Err (Broken found)) = IsStreamBroken does a b found
DriveOutcome does ends refuses a b (Err TooLong) = IsTooLong does a b
DriveOutcome does ends refuses a b (Err ReadFault) = (count : ℕ) × IsStopped does a b count
DriveOutcome does ends refuses a b (Err WriteFault) = IsCutOff does ends refuses a b ⊎ IsHeldUp does a b
DriveOutcome does ends refuses a b (Err (Refused fault)) = IsRefused does refuses a b fault

-- why a stage stops a drive
abbrev pub stopped_by : {F : Type 0} → StageFault F → DriveFault F
stopped_by StageWrite = WriteFault
stopped_by (StageRefused fault) = Refused fault

-- what a stage answers at the end, after so many packets
abbrev pub IsStageEnd : {S F : Type 0} → (S → S → List ℕ → ℕ → Type 0) →
    (S → Option (List ℕ) → F → S → List ℕ → ℕ → Type 0)
    → SinkState → SinkState → S → S → ℕ → ℕ → ℕ → Result ℕ (DriveFault F) → Type 0
IsStageEnd ends refuses u v s t from to count (Ok n) = (n ≡ count) × HasGrown u v from to (ends s t)
IsStageEnd ends refuses u v s t from to count (Err (Broken found)) = ⊥
IsStageEnd ends refuses u v s t from to count (Err TooLong) = ⊥
IsStageEnd ends refuses u v s t from to count (Err ReadFault) = ⊥
IsStageEnd ends refuses u v s t from to count (Err WriteFault) =
    IsCutShort u v (IsAllowed (ends s) (refuses s None) from to)
IsStageEnd ends refuses u v s t from to count (Err (Refused fault)) = HasGrown u v from to (refuses s None fault t)

-- why no packet comes after so many
abbrev pub broken_by : {F : Type 0} → ℕ → FeedFault → DriveFault F
broken_by count Read = ReadFault
broken_by count Write = WriteFault
broken_by count (Break cause) = Broken (record { packet = count; cause = cause })

-- and why none comes after the most
abbrev pub overrun_by : {F : Type 0} → FeedFault → DriveFault F
overrun_by Read = ReadFault
overrun_by Write = WriteFault
overrun_by (Break cause) = TooLong
