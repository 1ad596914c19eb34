use Rattle.std.proofs.Common.{rules}
use Rattle.sd_host.proofs.identity.may_make.Goals as goal

pub returns : goal.returns
returns c = search rules
