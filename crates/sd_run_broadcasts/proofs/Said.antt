-- What was read of a site's file, seen as its definition has it.
use Rattle.std.proofs.Common.{Bool, Option}
use Rattle.sd_site_cards.specs.SiteFields.{SiteFields, site_fields_of}
use Rattle.sd_site_cards.specs.declared.site.Site.{Site}
use Rattle.sd_site_cards.specs.declared.book_line.BookLine.{BookLine}

-- the site, and what its line 13 says of its book
abbrev pub said_of : Site × Option BookLine → SiteFields × Option BookLine
said_of said = (site_fields_of said.0, said.1)

-- so with whether it has a line `first-word`
abbrev pub said_with : Site × Option BookLine × Bool → SiteFields × Option BookLine
said_with said = (site_fields_of said.0, said.1)
