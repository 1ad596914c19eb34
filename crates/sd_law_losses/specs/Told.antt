-- Public meaning: what a receiver hears of the things that are sent.
use Rattle.sd_base.specs.Types.{PacketNumber}
use Rattle.sd_site_cards.specs.SiteFields.{SiteFields}
use Rattle.sd_spec.specs.Sent.{Item, Cat, Entitles as SendsEmm, Controls as SendsEcm, Carries}
use Rattle.sd_psi.specs.declared.our_cat.Tuning.{Tuning}
use Rattle.sd_spec.specs.Heard.{Heard, Dropped, Entitles, Controls, Other}

-- the PIDs of a site's messages
abbrev pub tuning_to : SiteFields → Tuning
tuning_to site = record { emm = site.emm; ecm = site.ecm }

-- what a receiver hears of a thing that comes as packet n [this project, docs/FORMATS.md, Receiver]
abbrev pub heard_of : PacketNumber → Item → Heard
heard_of n Cat = Dropped
heard_of n (SendsEmm emm) = Entitles emm
heard_of n (SendsEcm part) = Controls part
heard_of n (Carries k packet) = Other n packet
