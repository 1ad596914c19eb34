use Rattle.std.proofs.Common.{rules}
use Rattle.sd_base.proofs.Words.{field_of_word}
use Rattle.sd_base.proofs.field.get.Goals as goal

pub returns-clause-fits : goal.returns-clause-fits
returns-clause-fits g c = search rules

pub returns-clause-value : goal.returns-clause-value
returns-clause-value g c = search (rules, field_of_word)
