-- Public meaning: a site that may use other control words.
use Rattle.sd_base.specs.Types.{WordNumber}
use Rattle.sd_site_cards.specs.SiteFields.{SiteFields}
use Rattle.sd_spec.specs.Plan.{Plan}

-- the site with x for its last control word
abbrev pub up_to : WordNumber → SiteFields → SiteFields
up_to x site = record site { last_word = x }

-- the plan with that site
abbrev pub plan_up_to : WordNumber → Plan → Plan
plan_up_to x plan = record plan { site = up_to x plan.site }
