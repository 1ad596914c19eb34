-- Inner: what is sent into a sink, and the counters of inserted packets.
use Rattle.std.specs.Prelude.{ℕ, zero, suc, ◌+◌, ◌%◌, List, [], ◌∷◌, length, slice_set, Result, Ok, Err}
use Rattle.std.specs.Io.KnownBytes.{Appends}
use Rattle.sd_packet.specs.Packing.{section_packet}
use Rattle.sd_message.specs.EcmSpelled.{ecm_section}
use Rattle.sd_message.specs.declared.ecm_part.EcmPart.{EcmPart}
use Rattle.sd_ports.specs.Bytes.{IsPrefix}
use Rattle.sd_engine.specs.Stage.{SinkState, TookBytes, IsTooShort}

-- a write failed within these bytes: a prefix of them was taken, and there was no room for all of them
pub record FailsWithin (old new : SinkState) (bytes : List ℕ) : Type 0 where
  pub prefix : List ℕ
  pub short : IsPrefix prefix bytes
  pub taken : Appends old.held new.held prefix
  pub room : IsTooShort old.room (length bytes)

-- the bytes were sent, unless a write failed within them
abbrev pub SendsBytes : {T E : Type 0} → SinkState → SinkState → List ℕ → Result T E → Type 0
SendsBytes old new bytes (Ok done) = TookBytes old new bytes
SendsBytes old new bytes (Err fault) = FailsWithin old new bytes

-- the counter after so many packets [ISO/IEC 13818-1, 2.4.3.3]
abbrev pub counter_after : ℕ → ℕ → ℕ
counter_after counter zero = counter
counter_after counter (suc n) = (counter_after counter n + 1) % 16

-- what is made of each of these things with a counter, which rises from this one on [ISO/IEC 13818-1, 2.4.3.3]
abbrev pub with_counters : {A : Type 0} → (A → ℕ → List ℕ) → ℕ → List A → List (List ℕ)
with_counters make counter [] = []
with_counters make counter (x ∷ xs) = make x counter ∷ with_counters make ((counter + 1) % 16) xs

-- the packet under another counter [ISO/IEC 13818-1, 2.4.3.2]
abbrev pub recounted : List ℕ → ℕ → List ℕ
recounted packet counter = slice_set packet 3 (0x10 + counter)

-- the packet of a part on this PID
abbrev pub packed_part : ℕ → EcmPart → ℕ → List ℕ
packed_part pid part counter = section_packet (ecm_section part) pid counter
