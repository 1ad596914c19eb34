-- The receiver of the file that a broadcast is takes the broadcast.
use Rattle.std.proofs.Common.{◌≡◌, ℕ, List}
use Rattle.std.specs.List.{concat}
use Rattle.sd_engine.specs.Taken.{Whole, packets_taken, end_of}
use Rattle.sd_spec.specs.Plan.{Plan, IsPlan}
use Rattle.sd_spec.specs.Refused.{IsSendable}
use Rattle.sd_spec.specs.Sent.{body, broadcast}
use Rattle.sd_law_broadcast.specs.Packets.{AreWholePackets}
use Rattle.sd_law_broadcast.specs.Synced.{AreSynced}
use Rattle.sd_law_broadcast.proofs.Joined.{taken_again, joined_whole}
use Rattle.sd_law_broadcast.proofs.Synced.{broadcast_synced, body_synced}
use Rattle.sd_law_broadcast.proofs.Counted.{broadcast_short, body_short}

pub broadcast_taken : (plan : Plan) (clear : List (List ℕ)) → IsPlan plan → IsSendable plan.site clear →
    AreWholePackets clear → AreSynced clear →
    (packets_taken (concat (broadcast plan clear)) ≡ broadcast plan clear) × (end_of (concat (broadcast plan clear))
    ≡ Whole)
broadcast_taken plan clear is all whole synced =
    let each = broadcast_synced plan clear is all whole synced in
    let few = broadcast_short plan is clear all in
    (taken_again (broadcast plan clear) each few, joined_whole (broadcast plan clear) each few)

pub body_taken : (plan : Plan) (clear : List (List ℕ)) → IsPlan plan → IsSendable plan.site clear →
    AreWholePackets clear → AreSynced clear →
    (packets_taken (concat (body plan clear)) ≡ body plan clear) × (end_of (concat (body plan clear)) ≡ Whole)
body_taken plan clear is all whole synced =
    let each = body_synced plan clear is all whole synced in
    let few = body_short plan is clear all in
    (taken_again (body plan clear) each few, joined_whole (body plan clear) each few)
