-- What is written of a broadcast that is cut off, and of another one that is joined after it.
use Rattle.std.proofs.Common.{◌≡◌, ℕ, ◌<◌, ◌≤◌, ◌^◌, ◌++◌, Bool, true, false, List, [], ◌∷◌, length, sym, ap, ◌∙◌}
use Rattle.std.proofs.Common.{append-nil, subst}
use Rattle.sd_spec.specs.Plan.{Plan}
use Rattle.sd_spec.specs.Offered.{out_from}
use Rattle.sd_law_losses.specs.Confirmed.{confirmed}
use Rattle.sd_law_losses.specs.Channel.{Channel, AreRunsOf, arriving, channel_card}
use Rattle.sd_law_losses.specs.Many.{kept_of_arrival, has_cat, confirmed_from}
use Rattle.sd_law_losses.proofs.Finishing.{runs_out}
use Rattle.sd_law_progress.specs.Progress.{due_in}
use Rattle.sd_law_progress.specs.Switches.{cut_off, joined_behind, last_message_at, next_crypto_at}
use Rattle.sd_law_progress.proofs.Given.{sent_to}
use Rattle.sd_law_progress.proofs.Switching.{cut_confirmed, cut_has_cat, joined_confirmed}

pub switch_confirmed : (channel : Channel) (a b : Plan) (before after : List (List ℕ)) (i j u : ℕ) →
    AreRunsOf channel (cut_off a before i ∷ (joined_behind b after j ∷ [])) → u < 2 ^ channel.height → 0 < i →
    i ≤ length before → j ≤ length after →
    confirmed_from false u (cut_off a before i ∷ (joined_behind b after j ∷ []))
    ≡ due_in a u before 0 (last_message_at a.site i) ++ due_in b u after (next_crypto_at b.site j) (length after)
switch_confirmed channel a b before after i j u (is_a, apart, (is_b, none, rest)) leaf some within inside =
    ap (λ (packets : List (List ℕ)). packets ++ confirmed_from (has_cat (cut_off a before i)) u
    (joined_behind b after j ∷ []))
    (cut_confirmed a before u (sent_to is_a.plan is_a.sendable is_a.whole leaf_a) i some within)
    ∙ (ap (λ (tuned : Bool). due_in a u before 0 (last_message_at a.site i) ++ confirmed_from tuned u
    (joined_behind b after j ∷ []))
    (cut_has_cat a before u (sent_to is_a.plan is_a.sendable is_a.whole leaf_a) i some within)
    ∙ ap (λ (packets : List (List ℕ)). due_in a u before 0 (last_message_at a.site i) ++ packets)
    (append-nil (confirmed b u after (kept_of_arrival true (joined_behind b after j)))
    ∙ joined_confirmed b after u (sent_to is_b.plan is_b.sendable is_b.whole leaf_b) j inside))
  where
    leaf_a : u < 2 ^ a.site.height
    leaf_a = subst (λ (h : ℕ). u < 2 ^ h) (sym is_a.height) leaf

    leaf_b : u < 2 ^ b.site.height
    leaf_b = subst (λ (h : ℕ). u < 2 ^ h) (sym is_b.height) leaf

pub switch_written : (channel : Channel) (a b : Plan) (before after : List (List ℕ)) (i j u : ℕ) →
    AreRunsOf channel (cut_off a before i ∷ (joined_behind b after j ∷ [])) → u < 2 ^ channel.height → 0 < i →
    i ≤ length before → j ≤ length after →
    out_from (channel_card channel u) []
    (arriving (cut_off a before i ∷ (joined_behind b after j ∷ [])))
    ≡ due_in a u before 0 (last_message_at a.site i) ++ due_in b u after (next_crypto_at b.site j) (length after)
switch_written channel a b before after i j u are leaf some within inside =
    runs_out channel (cut_off a before i ∷ (joined_behind b after j ∷ [])) u are leaf
    ∙ switch_confirmed channel a b before after i j u are leaf some within inside
