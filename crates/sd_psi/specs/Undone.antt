-- Public meaning: what rewriting and restoring a PMT are to each other.
use Rattle.std.specs.Prelude.{◌≡◌, ℕ, ◌<◌, List, length, slice_index}
use Rattle.sd_packet.specs.Header.{transport_error, unit_start_of, priority_of, pid_of, scrambling_of, adaptation_of}
use Rattle.sd_packet.specs.Header.{counter_of}
use Rattle.sd_packet.specs.Header.{payload_start_of}

-- a packet's bytes, with a payload that isn't empty [ISO/IEC 13818-1, 2.4.3.2]
pub record IsPacket (packet : List ℕ) : Type 0 where
  pub long : length packet ≡ 188
  pub bytes : (i : ℕ) → slice_index packet i < 256
  pub payload : payload_start_of packet < 188

-- the header of a packet is as it was, and its payload starts where it did [ISO/IEC 13818-1, 2.4.3.2]
pub record KeepsHeader (old new : List ℕ) : Type 0 where
  pub error : transport_error new ≡ transport_error old
  pub unit_start : unit_start_of new ≡ unit_start_of old
  pub priority : priority_of new ≡ priority_of old
  pub same_pid : pid_of new ≡ pid_of old
  pub scrambling : scrambling_of new ≡ scrambling_of old
  pub adaptation : adaptation_of new ≡ adaptation_of old
  pub counter : counter_of new ≡ counter_of old
  pub start : payload_start_of new ≡ payload_start_of old
