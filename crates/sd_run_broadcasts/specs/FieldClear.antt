-- Inner: a clear stream, cut into packets.
use Rattle.std.specs.Prelude.{◌≡◌, ◌≢◌, ◌≤◌, ◌<◌, ℕ, List, length, take, slice_index, Result, Ok, Err}
use Rattle.sd_engine.specs.declared.fault.BreakCause.{BreakCause}
use Rattle.sd_engine.specs.declared.fault.BreakCause.TheVariants.{Torn, NoSync}
use Rattle.sd_command_base.specs.declared.status.Status.{Status}
use Rattle.sd_command_base.specs.declared.status.Status.TheVariants.{BadClear}
use Rattle.sd_command_base.specs.declared.stream_refusal.StreamRefusal.TheVariants.{Broken}

-- bytes begin with a packet, or don't for this cause [ISO/IEC 13818-1, 2.4.3.2]
abbrev pub BeginsWithPacket : List ℕ → Result (List ℕ) BreakCause → Type 0
BeginsWithPacket bytes (Ok packet) = (packet ≡ take 188 bytes) × (188 ≤ length bytes) × (slice_index bytes 0 ≡ 0x47)
BeginsWithPacket bytes (Err Torn) = length bytes < 188
BeginsWithPacket bytes (Err NoSync) = (188 ≤ length bytes) × (slice_index bytes 0 ≢ 0x47)

-- the status of a stream that breaks at this packet
abbrev pub broken_status : ℕ → BreakCause → Status
broken_status packet cause = BadClear (Broken (record { packet = packet; cause = cause }))
