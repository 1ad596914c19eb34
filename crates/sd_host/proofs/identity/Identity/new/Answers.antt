use Rattle.std.proofs.Common.{rules}
use Rattle.sd_host.proofs.identity.Identity.new.Goals as goal

pub returns-clause-device : goal.returns-clause-device
returns-clause-device c = search rules
