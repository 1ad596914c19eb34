-- Public meaning: what a stage of packets writes and counts, from one packet to the next.
use Rattle.std.specs.Prelude.{◌≡◌, ◌⊎◌, ℕ, ◌+◌, ◌<◌, ◌≤◌, List, [], ◌∷◌, ◌++◌, length, Option, Some, None}
use Rattle.std.specs.Io.KnownBytes.{Appends}
use Rattle.sd_ports.specs.Bytes.{IsPrefix}
use Rattle.sd_ports.specs.Rooms.{HasTaken}
use Rattle.sd_ports.specs.declared.sink.Sink.{Ghosts as SinkMeanings}

-- the state of a sink: the bytes taken so far and the room that is left, if the model knows them
pub record SinkState : Type 0 where
  pub held : Option (List ℕ)
  pub room : Option ℕ

abbrev pub sink_state_of : {K : Type 0} → SinkMeanings K → K → SinkState
sink_state_of meanings sink = record { held = meanings.held sink; room = meanings.room sink }

-- the sink took these bytes
pub record TookBytes (old new : SinkState) (bytes : List ℕ) : Type 0 where
  pub taken : Appends old.held new.held bytes
  pub room : HasTaken old.room new.room (length bytes)

-- The sink grew by some bytes and its room is less by them, and a number of steps was counted at most: `Says` holds of
-- these bytes and steps.
pub record HasGrown (old new : SinkState) (from to : ℕ) (Says : List ℕ → ℕ → Type 0) : Type 0 where
  pub bytes : List ℕ
  pub steps : ℕ
  pub says : Says bytes steps
  pub taken : Appends old.held new.held bytes
  pub room : HasTaken old.room new.room (length bytes)
  pub counted : to ≤ from + steps

-- there is less room than this number of bytes, if the model knows the room
abbrev pub IsTooShort : Option ℕ → ℕ → Type 0
IsTooShort None size = Unit {0}
IsTooShort (Some room) size = room < size

-- A write failed: the sink grew by a prefix of some bytes of which `Says` holds, and all of these are more than the
-- room that there was.
pub record IsCutShort (old new : SinkState) (Says : List ℕ → Type 0) : Type 0 where
  pub bytes : List ℕ
  pub says : Says bytes
  pub prefix : List ℕ
  pub short : IsPrefix prefix bytes
  pub taken : Appends old.held new.held prefix
  pub room : IsTooShort old.room (length bytes)

-- The bytes that a stage may write of a packet, or of the end: those of what it does, or of a refusal. No more steps
-- were counted than that takes.
abbrev pub IsAllowed : {S F : Type 0} → (S → List ℕ → ℕ → Type 0) → (F → S → List ℕ → ℕ → Type 0) → ℕ → ℕ → List ℕ →
    Type 0
IsAllowed {S} {F} Does Refuses from to bytes = (steps : ℕ) × (to ≤ from + steps)
    × (((t : S) × Does t bytes steps) ⊎ ((fault : F) × (t : S) × Refuses fault t bytes steps))

-- packets one after the other, from a stage to a stage: the bytes are those of all of them, and the steps are added up
abbrev pub Chain : {S : Type 0} → (S → List ℕ → S → List ℕ → ℕ → Type 0) → S → List (List ℕ) → S → List ℕ → ℕ → Type 0
Chain does s [] t bytes n = (s ≡ t) × (bytes ≡ []) × (n ≡ 0)
Chain {S} does s (packet ∷ packets) t bytes n =
    (mid : S) × (first : List ℕ) × (rest : List ℕ) × (m : ℕ) × (k : ℕ)
    × does s packet mid first m × Chain does mid packets t rest k × (bytes ≡ first ++ rest) × (n ≡ m + k)

-- what packets write after others, by what each writes after those before it
abbrev pub all_from : (List (List ℕ) → List ℕ → List ℕ) → List (List ℕ) → List (List ℕ) → List ℕ
all_from wrote before [] = []
all_from wrote before (packet ∷ packets) = wrote before packet ++ all_from wrote (before ++ packet ∷ []) packets
