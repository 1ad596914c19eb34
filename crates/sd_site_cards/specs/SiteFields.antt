-- Public meaning: the fields of a site file [this project, docs/FORMATS.md, Site].
use Rattle.std.specs.Prelude.{◌≢◌, ℕ, ◌==◌, if◌then◌else◌, List, Option, Some, None}
use Rattle.sd_site_cards.specs.declared.site.Site.{Site}
use Rattle.sd_site_cards.specs.Forms.{IsWithin, height_line, emm_line, ecm_line, every_line, cryptos_line, span_line}
use Rattle.sd_site_cards.specs.Forms.{messages_line, first_word_line, last_word_line, first_period_line}

-- what a site file says
pub record SiteFields : Type 0 where
  pub height : ℕ
  pub master : List ℕ
  pub ca : ℕ
  pub emm : ℕ
  pub ecm : ℕ
  pub every : ℕ
  pub cryptos : ℕ
  pub span : ℕ
  pub messages : ℕ
  pub first_word : ℕ
  pub last_word : ℕ
  pub first_period : ℕ

-- the same of a site as the program keeps it
abbrev pub site_fields_of : Site → SiteFields
site_fields_of site = record {
  height = site.height;
  master = site.master;
  ca = site.ca;
  emm = site.emm;
  ecm = site.ecm;
  every = site.every;
  cryptos = site.cryptos;
  span = site.span;
  messages = site.messages;
  first_word = site.first_word;
  last_word = site.last_word;
  first_period = site.first_period;
}

-- the name that a run's messages tell: its first control word in version 3, and none in versions 1 and 2 [this
-- project, docs/FORMATS.md, Messages]
unfoldable pub run_name_of : SiteFields → Option ℕ
run_name_of site = if site.messages == 3 then Some site.first_word else None

-- the numbers are in their ranges, and the two PIDs differ [this project, docs/FORMATS.md, Site]
pub record AreInRange (site : SiteFields) : Type 0 where
  pub height : IsWithin height_line site.height
  pub emm : IsWithin emm_line site.emm
  pub ecm : IsWithin ecm_line site.ecm
  pub apart : site.emm ≢ site.ecm
  pub every : IsWithin every_line site.every
  pub cryptos : IsWithin cryptos_line site.cryptos
  pub span : IsWithin span_line site.span
  pub messages : IsWithin messages_line site.messages
  pub first_word : IsWithin first_word_line site.first_word
  pub last_word : IsWithin last_word_line site.last_word
  pub first_period : IsWithin first_period_line site.first_period
