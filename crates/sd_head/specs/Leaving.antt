-- Inner: how a head end that goes on judges a packet, and what it keeps after one that breaks a rule.
use Rattle.std.specs.Prelude.{◌≡◌, Bool, true, false, Result}
use Rattle.sd_base.specs.Types.{Packet}
use Rattle.sd_base.specs.Count.{with_added}
use Rattle.sd_site_cards.specs.SiteFields.{site_fields_of}
use Rattle.sd_message.specs.declared.clear_fault.ClearFault.{ClearFault}
use Rattle.sd_head.specs.Follows.{IsJudgement}
use Rattle.sd_head.specs.declared.judged.Judged.{Judged}
use Rattle.sd_head.specs.declared.judged.PatRule.TheVariants.{Skipped}
use Rattle.sd_head.specs.Left.{clear_fault_at, with_refused}
use Rattle.sd_head.specs.declared.live.Live.{Live}
use Rattle.sd_head.specs.declared.live.Taken.{Taken}
use Rattle.sd_head.specs.declared.live.Taken.TheVariants.{On, Full}

-- the packet is judged so as the next one, without the rule on PATs [this project, docs/FORMATS.md, On air]
abbrev pub IsLiveJudged : Live → Packet → Result Judged ClearFault → Type 0
IsLiveJudged s packet result = IsJudgement Skipped (site_fields_of s.head.site) s.head.clear packet result

-- the packet is counted
pub record HasRefused (fault : ClearFault) (s t : Live) : Type 0 where
  pub packets : t.packets ≡ with_added s.packets 1
  pub left_out : t.left_out ≡ with_refused s.left_out (clear_fault_at s.packets fault)
  pub same : t.head ≡ s.head

-- and that is told, unless the broadcast ends before it: then nothing changes
abbrev pub IsPacketLeftOut : Bool → ClearFault → Live → Live → Taken → Type 0
IsPacketLeftOut true fault s t taken = (taken ≡ Full) × (t ≡ s)
IsPacketLeftOut false fault s t taken = (taken ≡ On) × HasRefused fault s t
