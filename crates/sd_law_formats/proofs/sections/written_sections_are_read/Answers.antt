use Rattle.sd_section.proofs.Spelling.{fields_are_read}
use Rattle.sd_law_formats.proofs.sections.written_sections_are_read.Goals as goal

pub returns-clause-fields : goal.returns-clause-fields
returns-clause-fields c = fields_are_read
