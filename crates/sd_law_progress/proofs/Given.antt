-- What the laws of a broadcast and a leaf rest on.
use Rattle.std.proofs.Common.{ℕ, ◌<◌, ◌^◌, List}
use Rattle.sd_spec.specs.Plan.{Plan, IsPlan}
use Rattle.sd_spec.specs.Refused.{IsSendable}
use Rattle.sd_law_broadcast.specs.Packets.{AreWholePackets}
use Rattle.sd_law_losses.proofs.Setting.{AreLaws}
use Rattle.sd_law_losses.proofs.Lawful.{setting, laws_hold}

-- the clear stream can be broadcast under the plan, and u is a leaf of its site
pub record IsSentTo (p : Plan) (clear : List (List ℕ)) (u : ℕ) : Type 0 where
  pub plan : IsPlan p
  pub sendable : IsSendable p.site clear
  pub whole : AreWholePackets clear
  pub leaf : u < 2 ^ p.site.height

pub laws_of : (plan : Plan) (clear : List (List ℕ)) (u : ℕ) → IsSentTo plan clear u → AreLaws (setting plan clear u)
laws_of plan clear u is = laws_hold plan clear u is.plan is.sendable is.whole is.leaf

-- the facts one by one
pub sent_to : {plan : Plan} {clear : List (List ℕ)} {u : ℕ} → IsPlan plan → IsSendable plan.site clear →
    AreWholePackets clear → u < 2 ^ plan.site.height → IsSentTo plan clear u
sent_to is all whole leaf = record { plan = is; sendable = all; whole = whole; leaf = leaf }
