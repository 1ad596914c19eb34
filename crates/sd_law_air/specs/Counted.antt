-- Public meaning: which packets are counted.
use Rattle.std.specs.Prelude.{◌≡◌, Bool, false, not, is_none, [], ◌∷◌, ◌++◌, length, Some}
use Rattle.sd_base.specs.Types.{Packet, Packets}
use Rattle.sd_site_cards.specs.SiteFields.{SiteFields}
use Rattle.sd_message.specs.declared.clear_fault.ClearFault.{ClearFault}
use Rattle.sd_spec.specs.Counting.{is_marked}
use Rattle.sd_spec.specs.Refused.{pat_wrong, unsent_at}
use Rattle.sd_spec.specs.Aired.{aired, left_from}

-- the packet is on PID 0 with a payload, and no PAT by itself [ISO/IEC 13818-1, 2.4.4.3]
abbrev pub is_no_pat : Packet → Bool
is_no_pat packet = not (is_none (pat_wrong packet))

-- this is the rule that the first refused packet breaks, with its number [this project, docs/FORMATS.md, On air]
pub record IsFirstRefused (site : SiteFields) (packets : Packets) (fault : ClearFault) : Type 0 where
  pub earlier : Packets
  pub packet : Packet
  pub later : Packets
  pub parts : earlier ++ packet ∷ later ≡ packets
  pub none_refused : (left_from site [] 0 earlier).refused ≡ 0
  pub unmarked : is_marked packet ≡ false
  pub broken : unsent_at site (aired site earlier) (length earlier) packet ≡ Some fault
