use Rattle.sd_message.proofs.EcmDeciding.{read_form}
use Rattle.sd_law_formats.proofs.ecms.spelled_parts_are_read.Goals as goal

pub returns-clause-form : goal.returns-clause-form
returns-clause-form c = read_form
