use Rattle.std.proofs.Common.{rules}
use Rattle.sd_message.specs.EcmVersions.{flags_at}
use Rattle.sd_message.specs.EcmFields.{since_in}
use Rattle.sd_message.proofs.ecm_read.since_in.Goals as goal

pub returns-then-version-eq1 : goal.returns-then-version-eq1
unfolding since_in flags_at
returns-then-version-eq1 c = search rules
