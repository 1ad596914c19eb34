-- What the lines of a trial tell.
use Rattle.std.proofs.Common.{◌≡◌, ℕ, zero, suc, ◌/◌, ◌^◌, ◌<◌, ◌≤◌, Bool, true, false, not, List, [], ◌∷◌}
use Rattle.std.proofs.Common.{length, reverse, Option, Some, None, Result, Ok, Err, refl, sym, ap, ◌∙◌}
use Rattle.std.proofs.Common.{arith}
use Rattle.std.specs.Prelude.{get_or, filter}
use Rattle.std.specs.List.{All, concat, range_with_len}
use Rattle.std.proofs.lemmas.List.FromFn.{length-range_with_len, get_or-range_with_len}
use Rattle.std.proofs.lemmas.List.Elements.{All-nil, All-cons, All-head, All-tail, All-get_or, All-from_get_or}
use Rattle.std.proofs.lemmas.List.Elements.{All-filter}
use Rattle.sd_base.proofs.Arithmetic.{packets_in}
use Rattle.sd_site_cards.specs.CardFields.{CardFields, card_of, site_card}
use Rattle.sd_engine.specs.Taken.{StreamEnd, Whole, Breaks, RunsOn, packets_taken, end_of}
use Rattle.sd_spec.specs.Plan.{Plan, IsPlan, period_of}
use Rattle.sd_spec.specs.Refused.{IsClear, IsSendable, whole_refusal}
use Rattle.sd_message.specs.declared.clear_fault.ClearFault.{ClearFault}
use Rattle.sd_spec.specs.Sent.{broadcast}
use Rattle.sd_law_broadcast.specs.Packets.{AreWholePackets}
use Rattle.sd_law_broadcast.specs.Synced.{IsSynced, AreSynced, AreBytes}
use Rattle.sd_law_broadcast.proofs.Joined.{joined_long}
use Rattle.sd_law_broadcast.proofs.Cut.{taken_synced, taken_joined, taken_whole}
use Rattle.sd_law_broadcast.proofs.Synced.{broadcast_synced}
use Rattle.sd_law_broadcast.proofs.Taken.{broadcast_taken}
use Rattle.sd_law_broadcast.proofs.Sendable.{clear_sendable}
use Rattle.sd_spec.specs.Offered.{out_from, break_from}
use Rattle.sd_spec.specs.Ending.{ending_of}
use Rattle.sd_law_losses.specs.Confirmed.{packet_at, packets_at, opened_by, is_revoked_in}
use Rattle.sd_law_losses.specs.Endings.{first_revoked, whole_ending}
use Rattle.sd_law_losses.proofs.Theorem.{whole_refused, whole_opened, whole_ended}
use Rattle.sd_command_base.specs.declared.status.Status.{Status}
use Rattle.sd_command_base.specs.declared.status.Status.TheVariants.{Done}
use Rattle.sd_command_base.specs.Spec.{FileArgument, Readings, and_then, value, ◌>>=◌}
use Rattle.sd_ports.specs.Bytes.{Prefix}
use Rattle.sd_run_broadcasts.specs.Head.{sent_of, sent_status, status_where, stream_refusal}
use Rattle.sd_run_broadcasts.proofs.HeadSending.{sent_whole}
use Rattle.sd_run_broadcasts.proofs.Refusals.{ended_whole, none_whole}
use Rattle.sd_run_broadcasts.specs.Receive.{ending_status, receive_end_status, received_of, received_status}
use Rattle.sd_run_broadcasts.proofs.Received.{none_refused, bytes_are}
use Rattle.sd_run_broadcasts.specs.Trial.{trial_clear_line, trial_lines, lines_of_trial, trial_receiver_line, sent_or}
use Rattle.sd_run_broadcasts.specs.Trial.{then_line}
use Rattle.sd_run_broadcasts.specs.Trial.{told_line}
use Rattle.sd_command_base.specs.Printed.{printing}
use Rattle.sd_run_broadcasts.specs.Trial.{trial_plan_meaning, told_sent, trial_meaning, trial_text, trying}
use Rattle.sd_run_broadcasts.specs.Prefixes.{prefix_of_file}
use Rattle.sd_run_broadcasts.specs.Trial.{trial_clear_bytes}
use Rattle.sd_run_broadcasts.proofs.Prefixes.{whole_prefix}
use Rattle.sd_law_field.specs.Trials.{line_by, opened_line, opened_lines}

long_packets : (packets : List (List ℕ)) → AreSynced packets → length (concat packets) / 188 ≡ length packets
long_packets packets are = packets_in (length (concat packets)) (length packets) (joined_long packets are)

-- the packets that are opened are packets
inside : (n : ℕ) → All (λ j. j < n) (range_with_len 0 n)
inside n = All-from_get_or (λ j. j < n) (range_with_len 0 n) 0 here
  where
    here : (i : ℕ) → i < length (range_with_len 0 n) → get_or (range_with_len 0 n) i 0 < n
    here i h =
        let low : i < n = omega (arith, h, length-range_with_len 0 n) in
        let is = get_or-range_with_len 0 n i 0 low in omega (arith, is, low)

synced_at : (clear : List (List ℕ)) (js : List ℕ) → AreSynced clear → All (λ j. j < length clear) js →
    AreSynced (packets_at clear js)
synced_at clear [] are low = All-nil IsSynced
synced_at clear (j ∷ js) are low =
    All-cons IsSynced (packet_at clear j) (packets_at clear js)
    (All-get_or IsSynced clear j [] (All-head (λ i. i < length clear) j js low) are)
    (synced_at clear js are (All-tail (λ i. i < length clear) j js low))

opened_synced : (plan : Plan) (u : ℕ) (clear : List (List ℕ)) → AreSynced clear → AreSynced (opened_by plan u clear)
unfolding opened_by
opened_synced plan u clear are =
    synced_at clear (filter (λ j. not (is_revoked_in plan u (period_of plan j))) (range_with_len 0 (length clear))) are
    (All-filter (λ j. not (is_revoked_in plan u (period_of plan j))) (λ j. j < length clear)
    (range_with_len 0 (length clear)) (inside (length clear)))

line_told : (u wrote : ℕ) (period : Option ℕ) →
    told_line u wrote (ending_status u (whole_ending period)) ≡ Ok (line_by u wrote period)
line_told u wrote None = refl
line_told u wrote (Some q) = refl

module _ (plan : Plan) (clear : List (List ℕ)) (is : IsPlan plan) (all : IsClear plan.site clear)
    (whole : AreWholePackets clear) (synced : AreSynced clear) where
  abbrev stream : List ℕ
  stream = concat (broadcast plan clear)

  can : IsSendable plan.site clear
  can = clear_sendable plan.site clear all

  abbrev card : ℕ → CardFields
  card u = site_card plan.site u

  leaf_is : (u : ℕ) → (card u).leaf ≡ u
  unfolding card_of
  leaf_is u = refl

  heard_bytes : (u : ℕ) → u < 2 ^ plan.site.height → received_of (card u) stream ≡ concat (opened_by plan u clear)
  heard_bytes u leaf =
      bytes_are (card u) stream
      ∙ ap (λ (ps : List (List ℕ)). concat (out_from (card u) [] ps)) (broadcast_taken plan clear is can whole synced).0
      ∙ ap concat (whole_opened plan clear u is can whole leaf)

  heard_status : (u : ℕ) → u < 2 ^ plan.site.height →
      received_status (card u) stream ≡ ending_status u (whole_ending (first_revoked plan u clear))
  unfolding receive_end_status
  heard_status u leaf =
      let taken = broadcast_taken plan clear is can whole synced in
      none_refused (card u) stream Whole
      (ap (break_from (card u) []) taken.0 ∙ whole_refused plan clear u is can whole leaf) taken.1
      ∙ ap (λ (ps : List (List ℕ)). ending_status (card u).leaf (ending_of (card u) (reverse ps))) taken.0
      ∙ ap (ending_status (card u).leaf) (whole_ended plan clear u is can whole leaf)
      ∙ ap (λ (v : ℕ). ending_status v (whole_ending (first_revoked plan u clear))) (leaf_is u)

  heard_line : (u : ℕ) → u < 2 ^ plan.site.height →
      trial_receiver_line plan.site stream u ≡ Ok (opened_line plan clear u)
  unfolding trial_receiver_line opened_line
  heard_line u leaf =
      ap (λ (n : ℕ). told_line u n (received_status (card u) stream))
      (ap (λ (xs : List ℕ). length xs / 188) (heard_bytes u leaf)
      ∙ long_packets (opened_by plan u clear) (opened_synced plan u clear synced))
      ∙ ap (told_line u (length (opened_by plan u clear))) (heard_status u leaf)
      ∙ line_told u (length (opened_by plan u clear)) (first_revoked plan u clear)

  all_lines : (n : ℕ) → n ≤ 2 ^ plan.site.height →
      lines_of_trial plan.site stream (trial_clear_line (length clear) (length (broadcast plan clear))) n
      ≡ Ok (opened_lines plan clear n)
  unfolding lines_of_trial opened_lines
  all_lines zero low = refl
  all_lines (suc n) low =
      ap (λ (r : Result (List ℕ) Status). then_line r (trial_receiver_line plan.site stream n))
      (all_lines n (omega (arith, low)))
      ∙ ap (then_line (Ok (opened_lines plan clear n))) (heard_line n (omega (arith, low)))

-- a head end that went to the end has sent all
all_told : (status : Status) (sent bytes : List ℕ) → Done ≡ status → bytes ≡ sent → sent_or status false sent ≡ Ok bytes
all_told status sent bytes done is =
    ap (λ (s : Status). sent_or s false sent) (sym done) ∙ ap Ok (sym is)

pub trial_opened : (plan : Plan) (bytes : List ℕ) → IsPlan plan → whole_refusal plan.site (packets_taken bytes) ≡ None →
    AreBytes bytes → end_of bytes ≡ Whole → trial_text plan (record { bytes = bytes; more = false })
    ≡ Ok (opened_lines plan (packets_taken bytes) (2 ^ plan.site.height))
unfolding trial_text told_sent
trial_opened plan bytes is none are end =
    let clear : List (List ℕ) = packets_taken bytes in
    let all = (none_whole plan.site clear none).0 in
    let stream : List ℕ = concat (broadcast plan clear) in
    let whole = taken_whole bytes are in
    let synced = taken_synced bytes in
    let sent = sent_whole plan bytes none end in
    let size : length bytes / 188 ≡ length clear =
    ap (λ (xs : List ℕ). length xs / 188) (sym (taken_joined bytes end)) ∙ long_packets clear synced in
    let long : length stream / 188 ≡ length (broadcast plan clear) =
    long_packets (broadcast plan clear)
    (broadcast_synced plan clear is (clear_sendable plan.site clear all) whole synced) in
    ap (trial_lines plan (length bytes)) (all_told (sent_status plan bytes) (sent_of plan bytes) stream sent.1 sent.0)
    ∙ ap (λ (n : ℕ). lines_of_trial plan.site stream (trial_clear_line n (length stream / 188)) (2 ^ plan.site.height))
    size
    ∙ ap (λ (n : ℕ). lines_of_trial plan.site stream (trial_clear_line (length clear) n) (2 ^ plan.site.height)) long
    ∙ all_lines plan clear is all whole synced (2 ^ plan.site.height) (omega arith)

-- a trial of good files, by its steps
pub trial_good : (site book clear : FileArgument) (given : Readings) (plan : Plan) (bytes : List ℕ) → IsPlan plan →
    (trial_plan_meaning site book given).result ≡ Ok plan → given clear ≡ Some bytes →
    length bytes ≤ trial_clear_bytes →
    AreBytes bytes → end_of bytes ≡ Whole → whole_refusal plan.site (packets_taken bytes) ≡ None →
    (trial_meaning site book clear given).result
    ≡ Ok (printing (Ok (opened_lines plan (packets_taken bytes) (2 ^ plan.site.height))))
unfolding trial_meaning prefix_of_file
trial_good site book clear given plan bytes is said there few are end all =
    ap (λ (r : Result Plan Status). (and_then (trial_plan_meaning site book given).calls r (λ plan.
    prefix_of_file clear.number trial_clear_bytes (given clear) >>= λ prefix. value (trying plan prefix))).result) said
    ∙ ap (λ (got : Option (List ℕ)). (prefix_of_file clear.number trial_clear_bytes got
    >>= λ prefix. value (trying plan prefix)).result) there
    ∙ ap (λ (prefix : Prefix). Ok (trying plan prefix)) (whole_prefix trial_clear_bytes bytes few)
    ∙ ap (λ (text : Result (List ℕ) Status). Ok (printing text)) (trial_opened plan bytes is all are end)

-- a trial that is done, by the ways that it may end
done_sent : (end : StreamEnd) (refusal : Option ClearFault) (more : Bool) (sent got : List ℕ) →
    sent_or (status_where end refusal) more sent ≡ Ok got → (end ≡ Whole) × (refusal ≡ None) × (more ≡ false)
done_sent Whole None false sent got e = (refl, refl, refl)
done_sent Whole None true sent got e = absurd (cc)
done_sent (Breaks found) None more sent got e = absurd (cc)
done_sent RunsOn None more sent got e = absurd (cc)
done_sent end (Some fault) more sent got e = absurd (cc)

lines_sent : (plan : Plan) (n : ℕ) (told : Result (List ℕ) Status) (text : List ℕ) → trial_lines plan n told ≡ Ok text →
    (sent : List ℕ) × (told ≡ Ok sent)
lines_sent plan n (Ok sent) text e = (sent, refl)
lines_sent plan n (Err status) text e = absurd (cc)

sent_right : (plan : Plan) (prefix : Prefix) (sent : List ℕ) → told_sent plan prefix ≡ Ok sent →
    (end_of prefix.bytes ≡ Whole) × (whole_refusal plan.site (packets_taken prefix.bytes) ≡ None)
    × (prefix.more ≡ false)
unfolding told_sent sent_status
sent_right plan prefix sent e =
    let clear = packets_taken prefix.bytes in
    let done = done_sent (end_of prefix.bytes) (stream_refusal plan.site clear (end_of prefix.bytes)) prefix.more
    (sent_of plan prefix.bytes) sent e in
    (done.0, ended_whole plan.site clear (end_of prefix.bytes) done.0 done.1, done.2)

pub trial_right : (plan : Plan) (prefix : Prefix) (text : List ℕ) → trial_text plan prefix ≡ Ok text →
    (end_of prefix.bytes ≡ Whole) × (whole_refusal plan.site (packets_taken prefix.bytes) ≡ None)
    × (prefix.more ≡ false)
unfolding trial_text
trial_right plan prefix text e =
    let sent = lines_sent plan (length prefix.bytes) (told_sent plan prefix) text e in
    sent_right plan prefix sent.0 sent.1

-- a text is one
one_text : (told : Result (List ℕ) Status) (a b : List ℕ) → told ≡ Ok a → told ≡ Ok b → a ≡ b
one_text told a b e f = cc

pub trial_done : (plan : Plan) (prefix : Prefix) (text : List ℕ) → IsPlan plan → AreBytes prefix.bytes →
    trial_text plan prefix ≡ Ok text →
    (end_of prefix.bytes ≡ Whole) × (whole_refusal plan.site (packets_taken prefix.bytes) ≡ None)
    × (prefix.more ≡ false)
    × (text ≡ opened_lines plan (packets_taken prefix.bytes) (2 ^ plan.site.height))
trial_done plan prefix text is are e =
    let right = trial_right plan prefix text e in (
      right.0,
      right.1,
      right.2,
      one_text (trial_text plan prefix) text (opened_lines plan (packets_taken prefix.bytes) (2 ^ plan.site.height)) e
          (ap (λ (more : Bool). trial_text plan (record { bytes = prefix.bytes; more = more })) right.2
          ∙ trial_opened plan prefix.bytes is right.1 are right.0),
    )
