use Rattle.sd_law_formats.proofs.SayableSites.{said_sayable}
use Rattle.sd_law_formats.proofs.sites.read_sites_are_sayable.Goals as goal

pub returns : goal.returns
returns c = said_sayable
