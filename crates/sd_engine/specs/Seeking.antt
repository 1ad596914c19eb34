-- Inner: how packets are found in what comes from a source, a piece of its bytes at a time.
use Rattle.std.specs.Prelude.{◌≡◌, ℕ, zero, suc, ◌+◌, ◌-◌, ◌^◌, ◌<◌, ◌≤◌, Bool, true, false, List, [], ◌∷◌, ◌++◌}
use Rattle.std.specs.Prelude.{length}
use Rattle.std.specs.Prelude.{◌⊎◌, ◌≢◌, take, slice_index, Option, Some, None}
use Rattle.std.specs.Io.KnownBytes.{Consumes, IsAtEnd}
use Rattle.sd_ports.specs.Bytes.{LosesPrefix}
use Rattle.sd_engine.specs.Cut.{begins_packet, cut_packets, skipped_before}
use Rattle.sd_engine.specs.declared.seeking.SeekFault.{SeekFault}
use Rattle.sd_engine.specs.declared.seeking.SeekFault.TheVariants.{Read, Write, TooLong}

-- what may still come: nothing, once the end was read
abbrev pub MayCome : Bool → List ℕ → Type 0
MayCome ended more = ended ≡ true → more ≡ []

-- these bytes are cut into this packet first and then into what is left of them, whatever comes, and so many bytes
-- before it are in no packet
pub record CutsOff (bytes packet left : List ℕ) (ended : Bool) (passed : ℕ) : Type 0 where
  pub first : (more : List ℕ) → MayCome ended more → cut_packets (bytes ++ more) ≡ packet ∷ cut_packets (left ++ more)
  pub before : (more : List ℕ) → MayCome ended more → skipped_before zero zero (bytes ++ more) ≡ passed
  pub behind : (more : List ℕ) → MayCome ended more → (k : ℕ) →
      skipped_before (suc k) zero (bytes ++ more) ≡ passed + skipped_before k zero (left ++ more)
  pub long : length packet ≡ 188

-- these bytes are all that comes, there is no packet in them, and they are so many
pub record CutsNone (bytes : List ℕ) (passed : ℕ) : Type 0 where
  pub none : cut_packets bytes ≡ []
  pub passed_are : passed ≡ length bytes
  pub before : (k : ℕ) → skipped_before k zero bytes ≡ length bytes

-- what is found: a packet, or the end
abbrev pub Finds : List ℕ → List ℕ → Bool → ℕ → Option (List ℕ) → Type 0
Finds bytes left ended passed (Some packet) = CutsOff bytes packet left ended passed
Finds bytes left ended passed None = (ended ≡ true) × (left ≡ []) × CutsNone bytes passed

-- what was read of a source: nothing once the end was read, and that is the end of the source
pub record ReadsOn (before now : Option (List ℕ)) (bytes : List ℕ) (was_ended ended : Bool) : Type 0 where
  pub read : Consumes before now bytes
  pub nothing : was_ended ≡ true → bytes ≡ []
  pub still : was_ended ≡ true → ended ≡ true
  pub end : (was_ended ≡ true → IsAtEnd before) → ended ≡ true → IsAtEnd now

-- the result of a search: from what waited and what was read behind it a packet was found or the end, so many bytes
-- were passed, and they were added to those that were passed before
pub record SeekOutcome (before now : Option (List ℕ)) (old : List ℕ) (was_ended : Bool) (new : List ℕ) (ended : Bool)
    (skipped_old skipped_new : ℕ) (found : Option (List ℕ)) : Type 0 where
  pub bytes : List ℕ
  pub reads : ReadsOn before now bytes was_ended ended
  pub passed : ℕ
  pub finds : Finds (old ++ bytes) new ended passed found
  pub skipped : skipped_new ≡ skipped_old + passed
  pub few : skipped_old < 2 ^ 64 - 1 → skipped_new < 2 ^ 64 - 1

-- with what waited and what was read behind it, 2^64 - 1 bytes are in no packet before the next one or the end
pub record SkipsTooMany (before now : Option (List ℕ)) (old : List ℕ) (was_ended : Bool) (skipped_old : ℕ) :
    Type 0 where
  pub bytes : List ℕ
  pub ended : Bool
  pub reads : ReadsOn before now bytes was_ended ended
  pub many : (more : List ℕ) → MayCome ended more → (k : ℕ) →
      2 ^ 64 - 1 ≤ skipped_old + skipped_before k zero ((old ++ bytes) ++ more)

-- why nothing is found: a read failed, or a write before one; or too many bytes are in no packet
abbrev pub SeekStop : Option (List ℕ) → Option (List ℕ) → List ℕ → Bool → ℕ → SeekFault → Type 0
SeekStop before now old was_ended skipped Read = (was_ended ≡ false) × LosesPrefix before now
SeekStop before now old was_ended skipped Write = (was_ended ≡ false) × LosesPrefix before now
SeekStop before now old was_ended skipped TooLong = SkipsTooMany before now old was_ended skipped

-- enough bytes wait to tell whether they begin with a packet
abbrev pub IsEnough : List ℕ → Bool → Type 0
IsEnough left ended = (189 ≤ length left) ⊎ (ended ≡ true)

-- of these bytes so many were passed, and the rest is left, whatever comes
pub record Skips (bytes left : List ℕ) (ended : Bool) (passed : ℕ) : Type 0 where
  pub cuts : (more : List ℕ) → MayCome ended more → cut_packets (bytes ++ more) ≡ cut_packets (left ++ more)
  pub skipped : (more : List ℕ) → MayCome ended more → (k : ℕ) →
      skipped_before k zero (bytes ++ more) ≡ passed + skipped_before k zero (left ++ more)
  pub long : length bytes ≡ passed + length left

-- a search so far
pub record IsSearching (before now : Option (List ℕ)) (old left : List ℕ) (was_ended ended : Bool)
    (skipped_old skipped : ℕ) : Type 0 where
  pub bytes : List ℕ
  pub reads : ReadsOn before now bytes was_ended ended
  pub passed : ℕ
  pub skips : Skips (old ++ bytes) left ended passed
  pub skipped_are : skipped ≡ skipped_old + passed
  pub few : skipped_old < 2 ^ 64 - 1 → skipped < 2 ^ 64 - 1

-- a packet is first in what is left, whatever comes; or the end
abbrev pub IsFirst : List ℕ → Bool → Type 0
IsFirst left ended = IsEnough left ended × ((begins_packet left ≡ true) ⊎ (left ≡ []))

-- a search is done: a packet is first in what is left, or nothing is left to come
pub record IsFound (before now : Option (List ℕ)) (old left : List ℕ) (was_ended ended : Bool)
    (skipped_old skipped : ℕ) : Type 0 where
  pub so : IsSearching before now old left was_ended ended skipped_old skipped
  pub first : IsFirst left ended

-- the bytes of a packet and one more wait, or all that is left, and the end was read
pub record HasFilledAhead (before now : Option (List ℕ)) (old : List ℕ) (was_ended : Bool) (new : List ℕ)
    (ended : Bool) : Type 0 where
  pub bytes : List ℕ
  pub reads : ReadsOn before now bytes was_ended ended
  pub joined : new ≡ old ++ bytes
  pub enough : IsEnough new ended

-- why not as many bytes wait: a read failed, or a write before it
abbrev pub FillAheadStop : Option (List ℕ) → Option (List ℕ) → Bool → SeekFault → Type 0
FillAheadStop before now was_ended Read = (was_ended ≡ false) × LosesPrefix before now
FillAheadStop before now was_ended Write = (was_ended ≡ false) × (now ≡ before)
FillAheadStop before now was_ended TooLong = ⊥

-- the packet of the first bytes, if they begin with one, or none of no bytes
pub record TakesFirst (bytes : List ℕ) (found : Option (List ℕ)) : Type 0 where
  pub packet : begins_packet bytes ≡ true → found ≡ Some (take 188 bytes)
  pub none : bytes ≡ [] → found ≡ None

-- no byte before this one is a sync byte but the first, and this one is, or is the end
pub record IsNextSync (bytes : List ℕ) (count : ℕ) : Type 0 where
  pub some : 0 < count
  pub within : count ≤ length bytes
  pub none : (i : ℕ) → 0 < i → i < count → slice_index bytes i ≢ 0x47
