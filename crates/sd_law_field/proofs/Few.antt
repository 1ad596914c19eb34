-- How many packets are sent for a clear stream, if the tree is low.
use Rattle.std.proofs.Common.{ℕ, ◌*◌, ◌^◌, ◌≤◌, List, [], ◌∷◌, ◌++◌}
use Rattle.std.proofs.Common.{length, arith, inl, inr}
use Rattle.std.specs.List.{concat}
use Rattle.std.proofs.lemmas.Bool.{cases_lt}
use Rattle.std.proofs.lemmas.List.{length-map}
use Rattle.std.proofs.Math.Pow.{pow_mono}
use Rattle.sd_message.specs.Pieces.{pieces_for}
use Rattle.sd_book.specs.Commands.{revoked}
use Rattle.sd_message.specs.Period.{emms_of}
use Rattle.sd_message.specs.declared.emm.Emm.{Emm}
use Rattle.sd_message.proofs.EmmSharing.{as_many as sections_many}
use Rattle.sd_spec.specs.Plan.{Plan, IsPlan, period_of, sets_at}
use Rattle.sd_spec.specs.Messages.{period_at}
use Rattle.sd_spec.specs.Refused.{IsClear}
use Rattle.sd_spec.specs.Sent.{Entitles, tables_at}
use Rattle.sd_spec.specs.Sent.{added}
use Rattle.sd_spec.specs.Sent.{sent, body}
use Rattle.sd_spec.proofs.Bodies.{packets_many}
use Rattle.sd_law_broadcast.specs.Packets.{AreWholePackets}
use Rattle.sd_law_broadcast.proofs.Fitting.{sets_small, period_count}
use Rattle.sd_law_broadcast.specs.Synced.{AreSynced}
use Rattle.sd_law_broadcast.proofs.Counted.{added_upto, sent_upto}
use Rattle.sd_law_broadcast.proofs.Joined.{joined_long}
use Rattle.sd_law_broadcast.proofs.Synced.{body_synced}
use Rattle.sd_law_broadcast.proofs.Sendable.{clear_sendable}
use Rattle.sd_spec.proofs.Fitting.{revoked_few}
use Rattle.sd_law_field.specs.Times.{most_added}

module _ (plan : Plan) (low : plan.site.height ≤ 6) (is : IsPlan plan) where
  -- few sets stand in a period
  sets_few : (q : ℕ) → length (sets_at plan q) ≤ 127
  sets_few q =
      let most : 2 ^ plan.site.height ≤ 2 ^ 6 = pow_mono {i = plan.site.height} {j = 6} low in
      let few = revoked_few plan.site.height plan.commands q in
      let small = sets_small plan q is in
      elim (cases_lt 0 (length (revoked plan.site.height plan.commands q))) [
        | inl some ↦ let count = small.count some in omega (arith, most, few, count)
        | inr none ↦ rw (small.none_revoked (omega (arith, none))) (omega arith)
      ]

  sections_few : (q : ℕ) → length (emms_of (period_at plan q)) ≤ 43
  unfolding pieces_for
  sections_few q = omega (arith, sections_many (period_at plan q), period_count plan q, sets_few q)

  tables_few : (k : ℕ) → length (tables_at plan k) ≤ 44
  unfolding tables_at
  tables_few k =
      let emms : List Emm = emms_of (period_at plan (period_of plan k)) in
      omega (arith, length-map emms Entitles, sections_few (period_of plan k))

pub added_is_short : (plan : Plan) (before : List (List ℕ)) (packet : List ℕ) → plan.site.height ≤ 6 → IsPlan plan →
    IsClear plan.site (before ++ packet ∷ []) → length (added plan before packet) ≤ most_added
added_is_short plan before packet low is all =
    added_upto plan is 44 (tables_few plan low is) before packet
    (clear_sendable plan.site (before ++ packet ∷ []) all)

pub sent_is_short : (plan : Plan) (clear : List (List ℕ)) → plan.site.height ≤ 6 → IsPlan plan →
    IsClear plan.site clear → length (sent plan clear) ≤ most_added * length clear
sent_is_short plan clear low is all =
    omega (arith, sent_upto plan is 44 (tables_few plan low is) [] clear (clear_sendable plan.site clear all))

-- and how many bytes they are
pub body_is_short : (plan : Plan) (clear : List (List ℕ)) → plan.site.height ≤ 6 → IsPlan plan →
    IsClear plan.site clear → AreWholePackets clear → AreSynced clear →
    length (concat (body plan clear)) ≤ 188 * most_added * length clear
unfolding body
body_is_short plan clear low is all whole synced =
    omega (
      arith,
      joined_long (body plan clear) (body_synced plan clear is (clear_sendable plan.site clear all) whole synced),
      packets_many plan.site [] (sent plan clear),
      sent_upto plan is 44 (tables_few plan low is) [] clear (clear_sendable plan.site clear all),
    )
