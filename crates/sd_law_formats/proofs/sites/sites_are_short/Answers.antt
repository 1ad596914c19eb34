use Rattle.sd_site_cards.proofs.Short.{site_short}
use Rattle.sd_law_formats.proofs.sites.sites_are_short.Goals as goal

pub returns : goal.returns
returns c = site_short
