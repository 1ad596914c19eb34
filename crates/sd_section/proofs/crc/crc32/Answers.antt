use Rattle.std.proofs.Common.{rules}
use Rattle.sd_section.specs.Crc.{after_bytes, crc_of}
use Rattle.sd_section.proofs.crc.crc32.Goals as goal

pub loop-eight-init : goal.loop-eight-init
unfolding crc_of after_bytes
loop-eight-init c = search rules
