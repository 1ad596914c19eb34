-- Public meaning: what `messages` prints of a broadcast [this project, docs/FORMATS.md, Messages printed].
use Rattle.std.specs.Prelude.{suc, List, [], ◌∷◌, Some}
use Rattle.sd_base.specs.Types.{Bytes, PacketNumber}
use Rattle.sd_site_cards.specs.SiteFields.{SiteFields}
use Rattle.sd_spec.specs.Sent.{Item, Cat, Entitles, Controls, Carries}
use Rattle.sd_run_streams.specs.MessageLines.{ecm_data, emm_data, line_with}

-- the line of a thing that is sent as packet k: a section of entitlements and a part of a control message are shown as
-- they were written, and nothing is shown of another thing
abbrev pub sent_line : SiteFields → PacketNumber → Item → Bytes
sent_line site k Cat = []
sent_line site k (Entitles emm) = line_with (Some (emm_data k site.emm emm))
sent_line site k (Controls part) = line_with (Some (ecm_data k site.ecm part))
sent_line site k (Carries n packet) = []

-- the line of each thing in turn, of which the first is sent as this packet
unfoldable pub sent_lines : SiteFields → PacketNumber → List Item → List Bytes
sent_lines site k [] = []
sent_lines site k (item ∷ items) = sent_line site k item ∷ sent_lines site (suc k) items
