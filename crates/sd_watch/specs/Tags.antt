-- Inner: the two bytes of a packet that are compared first.
use Rattle.std.specs.Prelude.{ℕ, ◌+◌, ◌*◌, slice_index}
use Rattle.sd_base.specs.Types.{Packet}

-- the low byte of a packet's PID, and the byte with its continuity counter
unfoldable pub packet_tag : Packet → ℕ
packet_tag packet = slice_index packet 2 * 256 + slice_index packet 3
