use Rattle.std.proofs.Common.{◌≡◌, length, drop}
use Rattle.sd_section.specs.Crc.{crc_of, after_bytes}
use Rattle.sd_section.proofs.crc.crc32.Given as goal

abbrev pub invariant-loop-eight : goal.invariant-loop-eight
invariant-loop-eight l = after_bytes l.register l.rest ≡ crc_of l.bytes

abbrev pub decreases-loop-eight : goal.decreases-loop-eight
decreases-loop-eight l = length l.rest

abbrev pub invariant-loop-byte : goal.invariant-loop-byte
invariant-loop-byte l = after_bytes l.register (drop l.byte-index l.byte-items) ≡ crc_of l.bytes
