-- The lines of a trial.
use Rattle.std.proofs.Common.{◌≡◌, ℕ, zero, suc, ◌+◌, ◌-◌, ◌^◌, ◌/◌, ◌<◌, Bool, List, length}
use Rattle.std.proofs.Common.{Result, Ok, Err, sym, ap, subst, ◌∙◌, inl, inr, arith}
use Rattle.sd_site_cards.specs.SiteFields.{SiteFields}
use Rattle.sd_site_cards.specs.CardFields.{CardFields, site_card}
use Rattle.sd_spec.specs.Plan.{Plan}
use Rattle.sd_run_broadcasts.specs.Head.{sent_of, sent_status}
use Rattle.sd_run_broadcasts.specs.Receive.{received_of}
use Rattle.sd_ports.specs.Bytes.{Prefix}
use Rattle.sd_command_base.specs.declared.status.Status.{Status}
use Rattle.sd_command_base.specs.Printed.{MemoryOutcome}
use Rattle.sd_run_broadcasts.specs.Trial.{AddsLine, HasHeard, HasSentTrial, trial_card_line, trial_clear_line}
use Rattle.sd_run_broadcasts.specs.Trial.{trial_lines, lines_of_trial}
use Rattle.sd_run_broadcasts.specs.Trial.{trial_receiver_line, sent_or, then_line, told_line, told_sent, trial_text}

-- The loop over the leaves.

-- the first line
pub first_text : (site : SiteFields) (bytes first text : List ℕ) → text ≡ first → lines_of_trial site bytes first 0
    ≡ Ok text
unfolding lines_of_trial
first_text site bytes first text is = ap Ok (sym is)

-- the lines so far, and the next
pub next_line : (site : SiteFields) (bytes first text more : List ℕ) (u : ℕ) → lines_of_trial site bytes first u
    ≡ Ok text →
    AddsLine (trial_receiver_line site bytes u) text more (Ok tt) → lines_of_trial site bytes first (u + 1) ≡ Ok more
unfolding lines_of_trial
next_line site bytes first text more u so_far adds =
    let next : u + 1 ≡ suc u = omega arith in
    ap (lines_of_trial site bytes first) next
    ∙ (ap (λ (r : Result (List ℕ) Status). then_line r (trial_receiver_line site bytes u)) so_far ∙ adds)

-- a status that has no line stays
stays : (site : SiteFields) (bytes first : List ℕ) (u n : ℕ) (status : Status) →
    lines_of_trial site bytes first u ≡ Err status → lines_of_trial site bytes first (u + n) ≡ Err status
unfolding lines_of_trial
stays site bytes first u zero status is =
    let same : u + 0 ≡ u = omega arith in ap (lines_of_trial site bytes first) same ∙ is
stays site bytes first u (suc n) status is =
    let next : u + suc n ≡ suc (u + n) = omega arith in
    ap (lines_of_trial site bytes first) next
    ∙ ap (λ (r : Result (List ℕ) Status). then_line r (trial_receiver_line site bytes (u + n)))
    (stays site bytes first u n status is)

unlined : (site : SiteFields) (bytes first text : List ℕ) (u : ℕ) (status : Status) →
    lines_of_trial site bytes first u ≡ Ok text → trial_receiver_line site bytes u ≡ Err status →
    lines_of_trial site bytes first (u + 1) ≡ Err status
unfolding lines_of_trial
unlined site bytes first text u status so_far is =
    let next : u + 1 ≡ suc u = omega arith in
    ap (lines_of_trial site bytes first) next
    ∙ (ap (λ (r : Result (List ℕ) Status). then_line r (trial_receiver_line site bytes u)) so_far
    ∙ ap (then_line (Ok text)) is)

-- the lines stop at a leaf that has none, or for want of memory
pub line_stopped : {X : Type 0} (view : X → List ℕ) (site : SiteFields) (bytes first text more : List ℕ) (u leaves : ℕ)
    (status : Status) → lines_of_trial site bytes first u ≡ Ok text → u < leaves →
    AddsLine (trial_receiver_line site bytes u) text more (Err status) →
    MemoryOutcome view (lines_of_trial site bytes first leaves) (Err status)
line_stopped view site bytes first text more u leaves status so_far inside (inl told) =
    let all : leaves ≡ (u + 1) + (leaves - (u + 1)) = omega (arith, inside) in
    inl (
      ap (lines_of_trial site bytes first) all
          ∙ stays site bytes first (u + 1) (leaves - (u + 1)) status
          (unlined site bytes first text u status so_far told.0),
      told.1,
    )
line_stopped view site bytes first text more u leaves status so_far inside (inr out) = inr out

-- the line of a receiver by what it wrote and how it ended
pub heard_as : (site : SiteFields) (bytes : List ℕ) (u wrote : ℕ) (card : CardFields) (status : Status)
    (before now : List ℕ) (result : Result (Unit {0}) Status) →
    card ≡ site_card site u → HasHeard card bytes wrote status →
    AddsLine (told_line u (wrote / 188) status) before now result →
    AddsLine (trial_receiver_line site bytes u) before now result
unfolding trial_receiver_line
heard_as site bytes u wrote card status before now result is heard adds =
    subst (λ (c : CardFields). AddsLine (trial_card_line u c bytes) before now result) is
    (subst (λ (line : Result (List ℕ) Status). AddsLine line before now result)
    (ap (λ (n : ℕ). told_line u (n / 188) status) heard.wrote_is
    ∙ ap (told_line u (length (received_of card bytes) / 188)) heard.status_is) adds)

-- All of it.

-- the broadcast by what was sent and how the head end ended
pub told_as : {X : Type 0} (view : X → List ℕ) (plan : Plan) (prefix : Prefix) (bytes sent : List ℕ) (status : Status)
    (more : Bool) (result : Result X Status) → HasSentTrial plan bytes sent status → bytes ≡ prefix.bytes →
    more ≡ prefix.more → MemoryOutcome view (sent_or status more sent) result →
    MemoryOutcome view (told_sent plan prefix) result
unfolding told_sent
told_as view plan prefix bytes sent status more result h same over comes =
    subst (λ (r : Result (List ℕ) Status). MemoryOutcome view r result)
    (ap (λ (s : Status). sent_or s more sent) (h.status_is ∙ ap (sent_status plan) same)
    ∙ ap (λ (m : Bool). sent_or (sent_status plan prefix.bytes) m sent) over
    ∙ ap (sent_or (sent_status plan prefix.bytes) prefix.more) (h.sent_are ∙ ap (sent_of plan) same)) comes

-- what ends before the receivers are run
pub sent_stopped : {X Y : Type 0} (view : X → List ℕ) (other : Y → List ℕ) (plan : Plan) (prefix : Prefix)
    (status : Status) →
    MemoryOutcome view (told_sent plan prefix) (Err status) → MemoryOutcome other (trial_text plan prefix) (Err status)
unfolding trial_text
sent_stopped view other plan prefix status (inl told) = inl (ap (trial_lines plan _) told.0, told.1)
sent_stopped view other plan prefix status (inr out) = inr out

-- and what the receivers come to
pub receivers_run : {X : Type 0} (view : X → List ℕ) (plan : Plan) (prefix : Prefix) (sent : List ℕ)
    (result : Result X Status) → told_sent plan prefix ≡ Ok sent →
    MemoryOutcome view (lines_of_trial plan.site sent (trial_clear_line (length prefix.bytes / 188) (length sent / 188))
    (2 ^ plan.site.height)) result →
    MemoryOutcome view (trial_text plan prefix) result
unfolding trial_text
receivers_run view plan prefix sent result is comes =
    subst (λ (r : Result (List ℕ) Status).
    MemoryOutcome view (trial_lines plan (length prefix.bytes) r) result) (sym is) comes
