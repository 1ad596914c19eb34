-- Public meaning: packets as they are read and written: 188 bytes.
use Rattle.std.specs.Prelude.{◌≡◌, ℕ, ◌<◌, length, slice_index, All}
use Rattle.sd_base.specs.Types.{Packet, Packets}

-- all bytes of a transport packet are there [ISO/IEC 13818-1, 2.4.3.2]
pub record IsWholePacket (packet : Packet) : Type 0 where
  pub long : length packet ≡ 188
  pub bytes : (i : ℕ) → slice_index packet i < 256

-- those of each packet are
abbrev pub AreWholePackets : Packets → Type 0
AreWholePackets packets = All IsWholePacket packets

-- each has this number of bytes, whatever they are
abbrev pub AreLong : Packets → Type 0
AreLong packets = All (λ packet. length packet ≡ 188) packets
