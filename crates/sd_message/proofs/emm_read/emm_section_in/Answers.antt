use Rattle.std.proofs.Common.{refl}
use Rattle.sd_message.proofs.EmmSpelling.{emm_headed}
use Rattle.sd_message.proofs.emm_read.emm_section_in.Goals as goal

pub returns-then-is_emm-clause-spelled : goal.returns-then-is_emm-clause-spelled
returns-then-is_emm-clause-spelled c =
    emm_headed _ (c.if-is_emm.ensures.value.0 refl) c.in_ok-section.ensures.spelled
