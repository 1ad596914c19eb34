use Rattle.sd_psi.proofs.OurCat.{our_descriptor_is_read}
use Rattle.sd_law_formats.proofs.tables.our_cat_is_one.Goals as goal

pub returns-clause-fields : goal.returns-clause-fields
returns-clause-fields c = our_descriptor_is_read
