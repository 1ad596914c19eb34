-- The lines of a field by what is confirmed to its receivers.
use Rattle.std.proofs.Common.{arith, ◌≡◌, ℕ, zero, suc, ◌/◌, ◌<◌, ◌≤◌, ◌^◌, false, List, [], ◌++◌, refl, sym, ap}
use Rattle.std.proofs.Common.{◌∙◌, length, take, reverse, take_all, Ok}
use Rattle.std.specs.Prelude.{All, Option, None, Some}
use Rattle.std.specs.List.{concat}
use Rattle.std.specs.List.Sorted.{IsStrictlyIncreasing}
use Rattle.std.proofs.lemmas.List.{length-map, length-reverse}
use Rattle.std.proofs.lemmas.List.Elements.{All-get_or, All-map, All-weaker}
use Rattle.sd_base.proofs.Arithmetic.{packets_in}
use Rattle.sd_site_cards.specs.SiteFields.{SiteFields}
use Rattle.sd_site_cards.specs.CardFields.{site_card}
use Rattle.sd_book.specs.Commands.{last_period}
use Rattle.sd_spec.specs.Plan.{IsPlan, Plan, period_of}
use Rattle.sd_spec.specs.Refused.{IsClear, refusal_from}
use Rattle.sd_spec.specs.Sent.{body}
use Rattle.sd_message.specs.declared.clear_fault.ClearFault.{ClearFault}
use Rattle.sd_law_broadcast.specs.Synced.{IsSynced, AreSynced}
use Rattle.sd_law_broadcast.proofs.Joined.{joined_long}
use Rattle.sd_law_broadcast.proofs.Synced.{body_synced}
use Rattle.sd_law_broadcast.proofs.Sendable.{clear_sendable}
use Rattle.sd_law_losses.specs.Confirmed.{is_revoked_in, packet_at, packets_at}
use Rattle.sd_spec.specs.declared.event.Event.{Event}
use Rattle.sd_spec.specs.Book.{sends}
use Rattle.sd_spec.specs.Watch.{watch, written}
use Rattle.sd_spec.proofs.Fitting.{event_plans_fit}
use Rattle.sd_law_field.proofs.Written.{written_is_confirmed, places_rise, places_are_sent, places_entitled}
use Rattle.sd_field.specs.Fields as field
use Rattle.sd_run_broadcasts.specs.Field.{digest_of, done_field, field_text, first_line, lines_of_field}
use Rattle.sd_run_broadcasts.specs.Field.{field_receiver_line}
use Rattle.sd_run_broadcasts.specs.Field.{text_in}
use Rattle.sd_run_broadcasts.specs.Field.{unrefused, wrote_line}
use Rattle.sd_law_field.specs.Fielded.{IsGoodField, confirmed_line, confirmed_lines, confirmed_places, plan_for}
use Rattle.sd_law_field.specs.Fielded.{sent_for}

-- the site with the book of the events is a plan
pub plan_is : (site : SiteFields) (clear : List (List ℕ)) (events : List Event) → IsGoodField site clear events →
    IsPlan (plan_for site clear events)
plan_is site clear events good =
    let long = length-reverse events in
    let few = good.few in
    event_plans_fit site (length clear) (reverse events) good.range good.system good.low (omega (arith, long, few))
    good.leaves

pub confirmed_rise : (site : SiteFields) (clear : List (List ℕ)) (events : List Event) (u : ℕ) →
    IsGoodField site clear events → u < 2 ^ site.height → IsStrictlyIncreasing (confirmed_places site clear events u)
confirmed_rise site clear events u good leaf =
    places_rise (plan_for site clear events) clear u (reverse events) (plan_is site clear events good) good.sent
    good.whole good.synced leaf

pub confirmed_sent : (site : SiteFields) (clear : List (List ℕ)) (events : List Event) (u : ℕ) →
    IsGoodField site clear events → u < 2 ^ site.height →
    All (λ j. j < length (sent_for clear events)) (confirmed_places site clear events u)
confirmed_sent site clear events u good leaf =
    places_are_sent (plan_for site clear events) clear u (reverse events) (plan_is site clear events good) good.sent
    good.whole good.synced leaf

pub confirmed_entitled : (site : SiteFields) (clear : List (List ℕ)) (events : List Event) (u : ℕ) →
    IsGoodField site clear events → u < 2 ^ site.height →
    All (λ j. is_revoked_in (plan_for site clear events) u (period_of (plan_for site clear events) j) ≡ false)
    (confirmed_places site clear events u)
confirmed_entitled site clear events u good leaf =
    places_entitled (plan_for site clear events) clear u (reverse events) (plan_is site clear events good) good.sent
    good.whole good.synced leaf

-- once all events are done, the past is all of them
past_is : (site : SiteFields) (clear : List (List ℕ)) (events : List Event) →
    field.past_of (done_field site clear events) ≡ reverse events
past_is site clear events = ap reverse (take_all (length events) events (omega arith))

-- the first line
first_same : (site : SiteFields) (clear : List (List ℕ)) (events : List Event) → IsGoodField site clear events →
    lines_of_field (done_field site clear events) 0 ≡ confirmed_lines site clear events 0
unfolding lines_of_field confirmed_lines
first_same site clear events good =
    let plan : Plan = plan_for site clear events in
    let sent : List (List ℕ) = sent_for clear events in
    let synced = body_synced plan sent (plan_is site clear events good) (clear_sendable site sent good.sent) good.whole
    good.synced in
    ap (λ (past : List Event). first_line (sends (length clear) past)
    (length (concat (body plan (take (sends (length clear) past) clear))) / 188) (last_period plan.commands))
    (past_is site clear events)
    ∙ ap (λ (n : ℕ). first_line (sends (length clear) (reverse events)) n (last_period plan.commands))
    (packets_in (length (concat (body plan sent))) (length (body plan sent)) (joined_long (body plan sent) synced))

-- what leaf u's receivers wrote
wrote_same : (site : SiteFields) (clear : List (List ℕ)) (events : List Event) (u : ℕ) →
    IsGoodField site clear events → u < 2 ^ site.height →
    field.written_of u (done_field site clear events)
    ≡ concat (packets_at (sent_for clear events) (confirmed_places site clear events u))
wrote_same site clear events u good leaf =
    let plan : Plan = plan_for site clear events in
    ap (λ (past : List Event). concat (written plan (site_card site u)
    (take (sends (length clear) past) clear) (watch plan clear u past))) (past_is site clear events)
    ∙ ap concat (written_is_confirmed plan clear u (reverse events) (plan_is site clear events good) good.sent
    good.whole good.synced leaf)

-- its line
line_same : (site : SiteFields) (clear : List (List ℕ)) (events : List Event) (u : ℕ) →
    IsGoodField site clear events → u < 2 ^ site.height →
    wrote_line u (field.written_of u (done_field site clear events)) ≡ confirmed_line site clear events u
unfolding confirmed_line
line_same site clear events u good leaf =
    let sent : List (List ℕ) = sent_for clear events in
    let places : List ℕ = confirmed_places site clear events u in
    let packets : List (List ℕ) = packets_at sent places in
    let each : AreSynced packets =
    All-map IsSynced (packet_at sent) places
    (All-weaker (λ j. j < length sent) (λ j. IsSynced (packet_at sent j))
    (λ j within. All-get_or IsSynced sent j [] within good.synced) places
    (confirmed_sent site clear events u good leaf)) in
    ap (wrote_line u) (wrote_same site clear events u good leaf)
    ∙ ap (λ (n : ℕ). field_receiver_line u n (digest_of (concat packets)))
    (packets_in (length (concat packets)) (length packets) (joined_long packets each)
    ∙ length-map places (packet_at sent))

-- the lines of the first n leaves
lines_same : (site : SiteFields) (clear : List (List ℕ)) (events : List Event) (n : ℕ) →
    IsGoodField site clear events → n ≤ 2 ^ site.height →
    lines_of_field (done_field site clear events) n ≡ confirmed_lines site clear events n
unfolding lines_of_field confirmed_lines
lines_same site clear events zero good few = first_same site clear events good
lines_same site clear events (suc n) good few =
    ap (λ (text : List ℕ). text ++ wrote_line n (field.written_of n (done_field site clear events)))
    (lines_same site clear events n good (omega (arith, few)))
    ∙ ap (λ (line : List ℕ). confirmed_lines site clear events n ++ line)
    (line_same site clear events n good (omega (arith, few)))

-- none of the clear packets that are sent is refused
sent_same : (site : SiteFields) (clear : List (List ℕ)) (events : List Event) →
    field.field_clear_packets (done_field site clear events) ≡ sent_for clear events
sent_same site clear events =
    ap (λ (past : List Event). take (sends (length clear) past) clear) (past_is site clear events)

pub text_is_confirmed : (site : SiteFields) (clear : List (List ℕ)) (events : List Event) →
    IsGoodField site clear events →
    field_text site clear events ≡ Ok (confirmed_lines site clear events (2 ^ site.height))
unfolding text_in
text_is_confirmed site clear events good =
    ap (λ (r : Option ClearFault). unrefused r (lines_of_field (done_field site clear events) (2 ^ site.height)))
    (ap (refusal_from site []) (sent_same site clear events) ∙ good.sent)
    ∙ ap (λ (text : List ℕ). Ok text) (lines_same site clear events (2 ^ site.height) good (omega arith))

-- a text comes of clear packets alone
clear_where : (found : Option ClearFault) (text told : List ℕ) → unrefused found text ≡ Ok told → found ≡ None
clear_where None text told is = refl
clear_where (Some fault) text told is = absurd cc

pub done_is_clear : (site : SiteFields) (clear : List (List ℕ)) (events : List Event) (text : List ℕ) →
    field_text site clear events ≡ Ok text → IsClear site (sent_for clear events)
unfolding text_in
done_is_clear site clear events text is =
    ap (refusal_from site []) (sym (sent_same site clear events))
    ∙ clear_where (refusal_from site [] (field.field_clear_packets (done_field site clear events)))
    (lines_of_field (done_field site clear events) (2 ^ site.height)) text is
