use Rattle.sd_cover_tracing.proofs.Heights.{cover_of_height}
use Rattle.sd_command_base.proofs.sets.cover_sets.Goals as goal

pub returns-in-Ok-clause-names : goal.returns-in-Ok-clause-names
returns-in-Ok-clause-names c =
    cover_of_height c.args.h c.args.revoked.now c.in-Ok.sets.items c.requires.leaves c.in-Ok.ensures.value.1
