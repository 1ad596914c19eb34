use Rattle.std.proofs.Common.{rules}
use Rattle.sd_site_cards.specs.Files.{check_due, check_in}
use Rattle.sd_site_cards.proofs.file.checks.Goals as goal

pub returns-clause-due : goal.returns-clause-due
unfolding check_in check_due
returns-clause-due c = search rules
