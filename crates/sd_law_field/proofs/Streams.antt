-- The packets in the bytes that a head end wrote.
use Rattle.std.proofs.Common.{◌≡◌, ℕ, List}
use Rattle.sd_spec.specs.Plan.{Plan, IsPlan}
use Rattle.sd_spec.specs.Refused.{IsClear}
use Rattle.sd_spec.specs.Sent.{body}
use Rattle.sd_law_broadcast.specs.Packets.{AreWholePackets}
use Rattle.sd_law_broadcast.specs.Synced.{AreSynced}
use Rattle.sd_law_broadcast.proofs.Joined.{packets_again}
use Rattle.sd_law_broadcast.proofs.Synced.{body_synced}
use Rattle.sd_law_broadcast.proofs.Sendable.{clear_sendable}
use Rattle.sd_spec.specs.Watch.{stream}

-- they are those of the broadcast without its closing message
pub stream_is : (plan : Plan) (clear : List (List ℕ)) → IsPlan plan → IsClear plan.site clear →
    AreWholePackets clear → AreSynced clear → stream plan clear ≡ body plan clear
unfolding stream
stream_is plan clear is all whole synced =
    packets_again (body plan clear) (body_synced plan clear is (clear_sendable plan.site clear all) whole synced)
