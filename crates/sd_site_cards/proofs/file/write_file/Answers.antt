use Rattle.std.proofs.Common.{rules}
use Rattle.sd_site_cards.specs.Files.{file_bytes}
use Rattle.sd_site_cards.proofs.file.write_file.Goals as goal

pub returns-clause-value : goal.returns-clause-value
unfolding file_bytes
returns-clause-value c = search rules
