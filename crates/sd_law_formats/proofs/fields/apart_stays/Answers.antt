use Rattle.sd_base.proofs.Fields.{apart_stays}
use Rattle.sd_base.proofs.Same.{byte_stays}
use Rattle.sd_law_formats.proofs.fields.apart_stays.Goals as goal

pub returns-clause-field : goal.returns-clause-field
returns-clause-field c = λ at n other width old new keeps apart. apart_stays old new at n other width keeps apart

pub returns-clause-byte : goal.returns-clause-byte
returns-clause-byte c = λ at n p old new keeps apart was is. byte_stays at n p old new keeps apart was is
