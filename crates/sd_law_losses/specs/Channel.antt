-- Public meaning: broadcasts of one channel that follow one another, and which of their packets arrive.
use Rattle.std.specs.Prelude.{◌≡◌, ◌≢◌, List, [], ◌∷◌, ◌++◌, All}
use Rattle.sd_base.specs.Types.{Packets, Arrived, Pid, SystemId, Key, Height, LeafNumber}
use Rattle.sd_site_cards.specs.SiteFields.{run_name_of}
use Rattle.sd_site_cards.specs.CardFields.{CardFields, card_of}
use Rattle.sd_spec.specs.Plan.{Plan, IsPlan}
use Rattle.sd_spec.specs.Refused.{IsSendable}
use Rattle.sd_spec.specs.Sent.{broadcast}
use Rattle.sd_law_broadcast.specs.Packets.{AreWholePackets}
use Rattle.sd_law_losses.specs.Chosen.{chosen}

-- a broadcast, and which of its packets arrive
pub record Arrival : Type 0 where
  pub plan : Plan
  pub clear : Packets
  pub flags : Arrived

-- what the sites of a channel's broadcasts have in common [this project, docs/FORMATS.md, Receiver]
pub record Channel : Type 0 where
  pub height : Height
  pub master : Key
  pub ca : SystemId
  pub emm : Pid
  pub ecm : Pid

-- the card of a leaf of a channel
abbrev pub channel_card : Channel → LeafNumber → CardFields
channel_card channel = card_of channel.master channel.ca channel.height

-- the broadcast is of the channel, and each of its clear packets can be sent
pub record IsRunOf (channel : Channel) (run : Arrival) : Type 0 where
  pub height : run.plan.site.height ≡ channel.height
  pub master : run.plan.site.master ≡ channel.master
  pub ca : run.plan.site.ca ≡ channel.ca
  pub emm : run.plan.site.emm ≡ channel.emm
  pub ecm : run.plan.site.ecm ≡ channel.ecm
  pub plan : IsPlan run.plan
  pub sendable : IsSendable run.plan.site run.clear
  pub whole : AreWholePackets run.clear

-- the messages of the two broadcasts have different names [this project, docs/FORMATS.md, Messages]
abbrev pub HaveTwoNames : Arrival → Arrival → Type 0
HaveTwoNames a b = run_name_of a.plan.site ≢ run_name_of b.plan.site

-- the broadcasts are of the channel, and no two have one name
abbrev pub AreRunsOf : Channel → List Arrival → Type 0
AreRunsOf channel [] = Unit {0}
AreRunsOf channel (run ∷ runs) = IsRunOf channel run × All (HaveTwoNames run) runs × AreRunsOf channel runs

-- the packets that arrive of broadcasts that are sent one after the other
abbrev pub arriving : List Arrival → Packets
arriving [] = []
arriving (run ∷ runs) = chosen run.flags (broadcast run.plan run.clear) ++ arriving runs

-- all packets of broadcasts that are sent one after the other
abbrev pub all_sent : List Arrival → Packets
all_sent [] = []
all_sent (run ∷ runs) = broadcast run.plan run.clear ++ all_sent runs
