use Rattle.std.proofs.Common.{arith}
use Rattle.sd_cipher.specs.Scrambling.{control_of}
use Rattle.sd_cipher.proofs.Scramblings.{laid_reads, control_fits}
use Rattle.sd_law_formats.proofs.keystreams.the_rest_is_read_as_before.Goals as goal

pub returns-clause-scrambled : goal.returns-clause-scrambled
returns-clause-scrambled c =
    λ packet word position parity long byte. laid_reads packet word position (control_of parity) long byte
    (control_fits parity)

pub returns-clause-descrambled : goal.returns-clause-descrambled
returns-clause-descrambled c =
    λ packet word position long byte. laid_reads packet word position 0 long byte (omega arith)
