use Rattle.std.proofs.Common.{rules}
use Rattle.sd_cipher.proofs.keystream.generator.Goals as goal

pub returns : goal.returns
returns c = search rules
