use Rattle.std.proofs.Common.{rules}
use Rattle.sd_cipher.proofs.payload.Parity.control.Goals as goal

pub returns-in-Even-clause-value : goal.returns-in-Even-clause-value
returns-in-Even-clause-value c = search rules
