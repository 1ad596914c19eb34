-- Public meaning: clear packets that a broadcast may be of.
use Rattle.sd_base.specs.Types.{Packets}
use Rattle.sd_spec.specs.Plan.{Plan, IsPlan}
use Rattle.sd_spec.specs.Refused.{IsSendable}
use Rattle.sd_law_broadcast.specs.Packets.{AreWholePackets}
use Rattle.sd_law_broadcast.specs.Synced.{AreSynced}

-- the site and the book are within their limits, and each packet of the clear stream can be sent: they are whole, begin
-- with the sync byte, and none breaks a rule, whatever is wrong with it as a PAT
-- [this project, docs/FORMATS.md, On air]
pub record AreSendable (plan : Plan) (clear : Packets) : Type 0 where
  pub is_plan : IsPlan plan
  pub sendable : IsSendable plan.site clear
  pub whole : AreWholePackets clear
  pub synced : AreSynced clear
