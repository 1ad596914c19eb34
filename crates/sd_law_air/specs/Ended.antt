-- Public meaning: where a broadcast ends that goes on as long as it can.
use Rattle.std.specs.Prelude.{◌≡◌, false, [], ◌∷◌, ◌++◌, length, Some, None}
use Rattle.sd_base.specs.Types.{Packet, Packets, PacketNumber}
use Rattle.sd_site_cards.specs.SiteFields.{SiteFields}
use Rattle.sd_message.specs.declared.clear_fault.ClearFault.TheVariants.{TooLong}
use Rattle.sd_spec.specs.Counting.{is_marked}
use Rattle.sd_spec.specs.Refused.{unsent_at}
use Rattle.sd_spec.specs.Aired.{aired, ended_from}

-- it doesn't end before packet k, which is not marked, and of which the first rule that it breaks is the last one: no
-- number of a packet or no control word is left for it [this project, docs/FORMATS.md, On air]
pub record EndsBefore (site : SiteFields) (packets : Packets) (k : PacketNumber) : Type 0 where
  pub earlier : Packets
  pub packet : Packet
  pub later : Packets
  pub parts : earlier ++ packet ∷ later ≡ packets
  pub place : length earlier ≡ k
  pub on_air : ended_from site [] 0 earlier ≡ None
  pub unmarked : is_marked packet ≡ false
  pub last_rule : unsent_at site (aired site earlier) k packet ≡ Some (TooLong k)
