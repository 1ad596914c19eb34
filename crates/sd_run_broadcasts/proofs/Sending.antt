-- What a head end or a receiver writes over memory.
use Rattle.std.proofs.Common.{◌≡◌, ◌≢◌, ℕ, true, false, List, [], length, Some, sym, ap}
use Rattle.std.proofs.Common.{subst, ◌∙◌, inl, inr}
use Rattle.sd_spec.specs.Plan.{Plan}
use Rattle.sd_command_base.specs.declared.status.Status.{Status}
use Rattle.sd_command_base.specs.declared.status.Status.TheVariants.{DepotFault, NoMemory}
use Rattle.sd_command_base.specs.Turned.{StreamWritten, all_written, some_written}
use Rattle.sd_run_broadcasts.specs.Head.{sent_of, sent_status, SendsLeft}
use Rattle.sd_site_cards.specs.CardFields.{CardFields}
use Rattle.sd_run_broadcasts.specs.Receive.{received_of, received_status, ReceivesLeft}
use Rattle.sd_run_broadcasts.specs.Trial.{HasHeard, HasSentTrial, is_wanting}

-- memory was not out
not_out : (status : Status) → is_wanting status ≡ false → status ≢ NoMemory
not_out status h is = absurd (let wrong : true ≡ false = ap is_wanting (sym is) ∙ h in cc)

not_full : (status : Status) → is_wanting status ≡ false → status ≢ DepotFault
not_full status h is = absurd (let wrong : true ≡ false = ap is_wanting (sym is) ∙ h in cc)

-- all was written by the head end
wrote_sent : (plan : Plan) (clear held : List ℕ) (status : Status) → is_wanting status ≡ false →
    StreamWritten (sent_of plan clear) (sent_status plan clear) (Some []) (Some held) status →
    HasSentTrial plan clear held status
wrote_sent plan clear held status calm (all_written is ending all) =
    record { status_is = is; ending = ending; sent_are = all }
wrote_sent plan clear held status calm (some_written (inl out) some) = absurd (not_out status calm out)
wrote_sent plan clear held status calm (some_written (inr full) some) = absurd (not_full status calm full)

-- so it is of the head end of a plan, over all of a clear stream and into a sink that was empty
pub all_sent : (own plan : Plan) (clear left start held : List ℕ) (status told : Status) → own ≡ plan →
    left ≡ clear → start ≡ [] → status ≡ told → is_wanting status ≡ false →
    SendsLeft own (Some left) (Some start) (Some held) told → HasSentTrial plan clear held status
all_sent own plan clear left start held status told same given empty is calm sends =
    subst (λ (p : Plan). HasSentTrial p clear held status) same
    (subst (λ (bytes : List ℕ). HasSentTrial own bytes held status) (sym sends.is_left ∙ given)
    (wrote_sent own sends.bytes held status calm
    (subst (λ (from : List ℕ). StreamWritten (sent_of own sends.bytes) (sent_status own sends.bytes) (Some from)
    (Some held)
    status) empty
    (subst (λ (end : Status). StreamWritten (sent_of own sends.bytes) (sent_status own sends.bytes) (Some start)
    (Some held)
    end) (sym is) sends.wrote))))

-- all was written by a receiver
wrote_heard : (card : CardFields) (bytes held : List ℕ) (status : Status) → is_wanting status ≡ false →
    StreamWritten (received_of card bytes) (received_status card bytes) (Some []) (Some held) status →
    HasHeard card bytes (length held) status
wrote_heard card bytes held status calm (all_written is ending all) =
    record { status_is = is; ending = ending; wrote_is = ap length all }
wrote_heard card bytes held status calm (some_written (inl out) some) = absurd (not_out status calm out)
wrote_heard card bytes held status calm (some_written (inr full) some) = absurd (not_full status calm full)

-- and so it is of the receiver of a card
pub all_heard : (card : CardFields) (bytes left start held : List ℕ) (from to wrote : ℕ) (status told : Status) →
    left ≡ bytes → start ≡ [] → wrote ≡ length held → status ≡ told → is_wanting status ≡ false →
    ReceivesLeft card (Some left) (Some start) (Some held) from to told → HasHeard card bytes wrote status
all_heard card bytes left start held from to wrote status told given empty size is calm heard =
    subst (λ (n : ℕ). HasHeard card bytes n status) (sym size)
    (subst (λ (xs : List ℕ). HasHeard card xs (length held) status) (sym heard.is_left ∙ given)
    (wrote_heard card heard.bytes held status calm
    (subst (λ (first : List ℕ). StreamWritten (received_of card heard.bytes) (received_status card heard.bytes)
    (Some first)
    (Some held) status) empty
    (subst (λ (end : Status). StreamWritten (received_of card heard.bytes) (received_status card heard.bytes)
    (Some start)
    (Some held) end) (sym is) heard.wrote))))
