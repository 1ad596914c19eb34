-- Of a broadcast a receiver takes a key in each period in which its leaf isn't revoked.
use Rattle.std.proofs.Common.{◌≡◌, ℕ, ◌^◌, ◌<◌, List, []}
use Rattle.sd_site_cards.specs.CardFields.{site_card}
use Rattle.sd_spec.specs.Taken.{taken_keys}
use Rattle.sd_spec.specs.Plan.{Plan, IsPlan}
use Rattle.sd_spec.specs.Refused.{IsSendable}
use Rattle.sd_spec.specs.Sent.{broadcast}
use Rattle.sd_law_broadcast.specs.Packets.{AreWholePackets}
use Rattle.sd_law_losses.proofs.Theorem.{whole_keys_taken}
use Rattle.sd_law_run.specs.Opened.{unrevoked_periods}

pub keys_taken : (plan : Plan) (clear : List (List ℕ)) (u : ℕ) → IsPlan plan → IsSendable plan.site clear →
    AreWholePackets clear →
    u < 2 ^ plan.site.height →
    taken_keys (site_card plan.site u) [] (broadcast plan clear) ≡ unrevoked_periods
    plan u clear
unfolding unrevoked_periods
keys_taken plan clear u is all whole leaf = whole_keys_taken plan clear u is all whole leaf
