-- Public meaning: packets as a stream has them.
use Rattle.std.specs.Prelude.{◌≡◌, ◌<◌, length, slice_index, All}
use Rattle.sd_base.specs.Types.{Bytes, Packet, Packets}

-- a packet as it stands in a stream: 188 bytes, of which the first is the sync byte
-- [ISO/IEC 13818-1, 2.4.3.2 and 2.4.3.3]
pub record IsSynced (packet : Packet) : Type 0 where
  pub long : length packet ≡ 188
  pub sync : slice_index packet 0 ≡ 0x47

-- each is one
abbrev pub AreSynced : Packets → Type 0
AreSynced packets = All IsSynced packets

-- each number is a byte's
abbrev pub AreBytes : Bytes → Type 0
AreBytes bytes = All (λ byte. byte < 256) bytes
