use Rattle.std.proofs.Common.{rules}
use Rattle.sd_site_cards.proofs.file.four_bytes.Goals as goal

pub returns : goal.returns
returns c = search rules
