-- What was heard before the first message of a run changes nothing, where it was no message.
use Rattle.std.proofs.Common.{◌≡◌, refl, ℕ, ◌+◌, ◌==◌, ◌&&◌, ◌||◌, ◌++◌, Bool, true, false, List, [], ◌∷◌, map, reverse}
use Rattle.std.proofs.Common.{Option, Some, None, is_none, ap, ◌∙◌, arith}
use Rattle.std.specs.Prelude.{if◌then◌else◌, nat_le, nat_lt, max, find}
use Rattle.std.specs.Option.{option_map_or}
use Rattle.std.proofs.lemmas.Bool.{false≢true}
use Rattle.sd_base.proofs.Bools.{chosen_itself}
use Rattle.sd_site_cards.specs.CardFields.{CardFields}
use Rattle.sd_message.specs.declared.emm.Emm.{Emm}
use Rattle.sd_message.specs.EcmParts.{Message}
use Rattle.sd_message.specs.declared.ecm_part.EcmPart.{EcmPart}
use Rattle.sd_message.specs.declared.ecm_fault.EcmFault.TheVariants.{Back}
use Rattle.sd_spec.specs.declared.ending.Ending.{Ending}
use Rattle.sd_spec.specs.declared.ending.Ending.TheVariants.{Unclosed}
use Rattle.sd_message.specs.declared.stream_fault.StreamFault.TheVariants as Fault
use Rattle.sd_psi.specs.declared.our_cat.Tuning.{Tuning}
use Rattle.sd_spec.specs.Heard.{Heard, Dropped, Entitles, Controls, BadEmm, BadEcm, Other}
use Rattle.sd_spec.specs.Stretches.{Stretch, exceeds, counted_parts, run_of_parts, message_told, message_parts_to}
use Rattle.sd_spec.specs.Stretches.{completed}
use Rattle.sd_spec.specs.Stretches.{stretch_after}
use Rattle.sd_spec.specs.Stretches.{newest_message, completes, messages, with_message, is_closed, period_heard}
use Rattle.sd_spec.specs.Stretches.{current}
use Rattle.sd_spec.specs.Stretches.{sections_seen}
use Rattle.sd_spec.specs.Runs.{run_name_heard, name_or, run_name_in}
use Rattle.sd_spec.specs.Keys.{key_in, key_at}
use Rattle.sd_spec.specs.Confirmed.{WrittenPackets}
use Rattle.sd_spec.specs.Offered.{refused_offering, emm_offering, part_fault, is_before, is_back, segment_wrote}
use Rattle.sd_spec.specs.Offered.{stretch_wrote, word_fault, wrote_or, message_offering, part_offering}
use Rattle.sd_spec.specs.Offered.{heard_offering}
use Rattle.sd_spec.specs.Ending.{periods_told, is_unkeyed, is_all_seen, are_all, closed_ending, run_ending}
use Rattle.sd_law_losses.proofs.Offerings.{emm_of, none_wrote, find_same, closed_with}

-- it is no message, and no faulty one
abbrev pub is_quiet : Heard → Bool
is_quiet Dropped = true
is_quiet (Entitles emm) = false
is_quiet (Controls part) = false
is_quiet (BadEmm fault) = false
is_quiet (BadEcm fault) = false
is_quiet (Other n packet) = true

abbrev pub AreQuiet : List Heard → Type 0
AreQuiet [] = Unit {0}
AreQuiet (thing ∷ past) = (is_quiet thing ≡ true) × AreQuiet past

-- a fact of what was heard that no quiet thing changes
quiet_induct : {X : Type 0} (f : List Heard → X) (x : X) → f [] ≡ x →
    ((past : List Heard) → f (Dropped ∷ past) ≡ f past) →
    ((n : ℕ) (packet : List ℕ) (past : List Heard) → f (Other n packet ∷ past) ≡ f past) →
    (past : List Heard) → AreQuiet past → f past ≡ x
quiet_induct f x base dropped other [] quiet = base
quiet_induct f x base dropped other (Dropped ∷ past) quiet =
    dropped past ∙ quiet_induct f x base dropped other past quiet.1
quiet_induct f x base dropped other (Entitles emm ∷ past) quiet = absurd (false≢true quiet.0)
quiet_induct f x base dropped other (Controls part ∷ past) quiet = absurd (false≢true quiet.0)
quiet_induct f x base dropped other (BadEmm fault ∷ past) quiet = absurd (false≢true quiet.0)
quiet_induct f x base dropped other (BadEcm fault ∷ past) quiet = absurd (false≢true quiet.0)
quiet_induct f x base dropped other (Other n packet ∷ past) quiet =
    other n packet past ∙ quiet_induct f x base dropped other past quiet.1

pub name_quiet : (past : List Heard) → AreQuiet past → run_name_in past ≡ None
unfolding run_name_in
name_quiet past quiet = quiet_induct run_name_in None refl (λ past. refl) (λ n packet past. refl) past quiet

counted_quiet : (message : Option Message) (past : List Heard) → AreQuiet past → counted_parts message past ≡ []
unfolding counted_parts
counted_quiet message past quiet =
    quiet_induct (counted_parts message) [] refl (λ past. refl) (λ n packet past. refl) past quiet

seen_quiet : (q : ℕ) (past : List Heard) → AreQuiet past → sections_seen q past ≡ []
unfolding sections_seen
seen_quiet q past quiet = quiet_induct (sections_seen q) [] refl (λ past. refl) (λ n packet past. refl) past quiet

max_zero : (n : ℕ) → max 0 n ≡ n
max_zero n = omega arith

current_quiet : (past : List Heard) → AreQuiet past → current past ≡ 0
unfolding current
current_quiet past quiet =
    quiet_induct current 0 refl (λ past. max_zero (current past)) (λ n packet past. max_zero (current past)) past quiet

messages_quiet : (past : List Heard) → AreQuiet past → messages past ≡ []
unfolding messages
messages_quiet past quiet = quiet_induct messages [] refl (λ past. refl) (λ n packet past. refl) past quiet

pub closed_quiet : (past : List Heard) → AreQuiet past → is_closed past ≡ false
unfolding is_closed
closed_quiet past quiet =
    quiet_induct is_closed false refl (λ past. chosen_itself (is_closed past))
    (λ n packet past. chosen_itself (is_closed past)) past quiet

pub newest_quiet : (past : List Heard) → AreQuiet past →
    newest_message past ≡ record { message = None; before = []; after = past }
unfolding newest_message
newest_quiet [] quiet = refl
newest_quiet (Dropped ∷ past) quiet =
    ap (λ (s : Stretch). stretch_after past s Dropped None) (newest_quiet past quiet.1)
newest_quiet (Entitles emm ∷ past) quiet = absurd (false≢true quiet.0)
newest_quiet (Controls part ∷ past) quiet = absurd (false≢true quiet.0)
newest_quiet (BadEmm fault ∷ past) quiet = absurd (false≢true quiet.0)
newest_quiet (BadEcm fault ∷ past) quiet = absurd (false≢true quiet.0)
newest_quiet (Other n packet ∷ past) quiet =
    ap (λ (s : Stretch). stretch_after past s (Other n packet) None) (newest_quiet past quiet.1)

-- with quiet things before them
abbrev pub led_by : List Heard → Option Message → List Heard → List Heard → Stretch
led_by lead None before after = record { message = None; before = before; after = after ++ lead }
led_by lead (Some message) before after = record { message = Some message; before = before ++ lead; after = after }

abbrev pub led : List Heard → Stretch → Stretch
led lead stretch = led_by lead stretch.message stretch.before stretch.after

abbrev pub stretch_of : Option Message → List Heard → List Heard → Stretch
stretch_of message before after = record { message = message; before = before; after = after }

counted_led : (message : Option Message) (past lead : List Heard) → AreQuiet lead →
    counted_parts message (past ++ lead) ≡ counted_parts message past
unfolding counted_parts
counted_led message [] lead quiet = counted_quiet message lead quiet
counted_led message (Dropped ∷ past) lead quiet = counted_led message past lead quiet
counted_led message (Entitles emm ∷ past) lead quiet = counted_led message past lead quiet
counted_led message (Controls part ∷ past) lead quiet =
    ap (λ (parts : List EcmPart). if exceeds message part then part ∷ parts else parts)
    (counted_led message past lead quiet)
counted_led message (BadEmm fault ∷ past) lead quiet = counted_led message past lead quiet
counted_led message (BadEcm fault ∷ past) lead quiet = counted_led message past lead quiet
counted_led message (Other n packet ∷ past) lead quiet = counted_led message past lead quiet

run_to_by : (message : Option Message) (before after lead : List Heard) (part : EcmPart) → AreQuiet lead →
    message_parts_to (led_by lead message before after) part ≡ message_parts_to (stretch_of message before after) part
unfolding message_parts_to
run_to_by None before after lead part quiet =
    ap (λ (parts : List EcmPart). if exceeds None part then run_of_parts (part ∷ parts) else [])
    (counted_led None after lead quiet)
run_to_by (Some message) before after lead part quiet = refl

run_to_led : (stretch : Stretch) (lead : List Heard) (part : EcmPart) → AreQuiet lead →
    message_parts_to (led lead stretch) part ≡ message_parts_to stretch part
run_to_led stretch lead part quiet = run_to_by stretch.message stretch.before stretch.after lead part quiet

completed_led : (stretch : Stretch) (lead : List Heard) (thing : Heard) → AreQuiet lead →
    completed (led lead stretch) thing ≡ completed stretch thing
completed_led stretch lead Dropped quiet = refl
completed_led stretch lead (Entitles emm) quiet = refl
completed_led stretch lead (Controls part) quiet =
    ap (λ (parts : List EcmPart). if part.part == part.last_part then message_told parts else None)
    (run_to_led stretch lead part quiet)
completed_led stretch lead (BadEmm fault) quiet = refl
completed_led stretch lead (BadEcm fault) quiet = refl
completed_led stretch lead (Other n packet) quiet = refl

stretched_by : (past lead before after : List Heard) (thing : Heard) (last message : Option Message) →
    stretch_after (past ++ lead) (led_by lead last before after) thing message
    ≡ led lead (stretch_after past (stretch_of last before after) thing message)
stretched_by past lead before after thing None None = refl
stretched_by past lead before after thing (Some last) None = refl
stretched_by past lead before after thing None (Some message) = refl
stretched_by past lead before after thing (Some last) (Some message) = refl

newest_led : (past lead : List Heard) → AreQuiet lead → newest_message (past ++ lead) ≡ led lead (newest_message past)
unfolding newest_message
newest_led [] lead quiet = newest_quiet lead quiet
newest_led (thing ∷ past) lead quiet =
    ap (λ (s : Stretch). stretch_after (past ++ lead) s thing (completed s thing)) (newest_led past lead quiet)
    ∙ (ap (stretch_after (past ++ lead) (led lead (newest_message past)) thing)
    (completed_led (newest_message past) lead thing quiet)
    ∙ stretched_by past lead (newest_message past).before (newest_message past).after thing
    (newest_message past).message
    (completed (newest_message past) thing))

pub completes_led : (past lead : List Heard) (thing : Heard) → AreQuiet lead →
    completes (past ++ lead) thing ≡ completes past thing
completes_led past lead thing quiet =
    ap (λ (s : Stretch). completed s thing) (newest_led past lead quiet)
    ∙ completed_led (newest_message past) lead thing quiet

pub messages_led : (past lead : List Heard) → AreQuiet lead → messages (past ++ lead) ≡ messages past
unfolding messages
messages_led [] lead quiet = messages_quiet lead quiet
messages_led (thing ∷ past) lead quiet =
    ap (λ (m : Option Message). with_message m (messages (past ++ lead))) (completes_led past lead thing quiet)
    ∙ ap (with_message (completes past thing)) (messages_led past lead quiet)

pub closed_led : (past lead : List Heard) → AreQuiet lead → is_closed (past ++ lead) ≡ is_closed past
unfolding is_closed
closed_led [] lead quiet = closed_quiet lead quiet
closed_led (thing ∷ past) lead quiet =
    ap (λ (m : Option Message). if is_closed (past ++ lead) then true
    else option_map_or (λ (m : Message). m.closing) m false) (completes_led past lead thing quiet)
    ∙ ap (λ (closed : Bool). if closed then true
    else option_map_or (λ (m : Message). m.closing) (completes past thing) false) (closed_led past lead quiet)

pub names_led : (past lead : List Heard) → AreQuiet lead → run_name_in (past ++ lead) ≡ run_name_in past
unfolding run_name_in
names_led [] lead quiet = name_quiet lead quiet
names_led (thing ∷ past) lead quiet = ap (name_or (run_name_heard thing)) (names_led past lead quiet)

period_led : (past lead : List Heard) (thing : Heard) → AreQuiet lead →
    period_heard (past ++ lead) thing ≡ period_heard past thing
period_led past lead Dropped quiet = refl
period_led past lead (Entitles emm) quiet = refl
period_led past lead (Controls part) quiet =
    ap (λ (m : Option Message). option_map_or (λ (m : Message). m.period) m 0)
    (completes_led past lead (Controls part) quiet)
period_led past lead (BadEmm fault) quiet = refl
period_led past lead (BadEcm fault) quiet = refl
period_led past lead (Other n packet) quiet = refl

pub current_led : (past lead : List Heard) → AreQuiet lead → current (past ++ lead) ≡ current past
unfolding current
current_led [] lead quiet = current_quiet lead quiet
current_led (thing ∷ past) lead quiet =
    ap (λ (q : ℕ). max q (current (past ++ lead))) (period_led past lead thing quiet)
    ∙ ap (max (period_heard past thing)) (current_led past lead quiet)

seen_led : (q : ℕ) (past lead : List Heard) → AreQuiet lead → sections_seen q (past ++ lead) ≡ sections_seen q past
unfolding sections_seen
seen_led q [] lead quiet = seen_quiet q lead quiet
seen_led q (Dropped ∷ past) lead quiet = seen_led q past lead quiet
seen_led q (Entitles emm ∷ past) lead quiet =
    ap (λ (sections : List Emm). if (emm.period == q) && nat_le (current (past ++ lead)) q
    then emm ∷ sections else sections) (seen_led q past lead quiet)
    ∙ ap (λ (now : ℕ). if (emm.period == q) && nat_le now q then emm ∷ sections_seen q past else sections_seen q past)
    (current_led past lead quiet)
seen_led q (Controls part ∷ past) lead quiet = seen_led q past lead quiet
seen_led q (BadEmm fault ∷ past) lead quiet = seen_led q past lead quiet
seen_led q (BadEcm fault ∷ past) lead quiet = seen_led q past lead quiet
seen_led q (Other n packet ∷ past) lead quiet = seen_led q past lead quiet

pub key_led : (q : ℕ) (card : CardFields) (past lead : List Heard) → AreQuiet lead →
    key_at card (past ++ lead) q ≡ key_at card past q
key_led q card past lead quiet = ap (key_in card) (seen_led q past lead quiet)

-- what comes of a thing after them
wrote_by : (card : CardFields) (tuning : Tuning) (before after lead : List Heard) (message : Option Message)
    (b : Message) → AreQuiet lead →
    stretch_wrote card tuning (led_by lead message before after) (led_by lead message before after).message b
    ≡ stretch_wrote card tuning (stretch_of message before after) message b
wrote_by card tuning before after lead None b quiet = refl
wrote_by card tuning before after lead (Some a) b quiet =
    ap (λ (key : Option (List ℕ)). if nat_le b.since a.number
    then segment_wrote card tuning (stretch_of (Some a) before after) a b key else none_wrote)
    (key_led a.period card before lead quiet)

emm_led : (n : ℕ) (card : CardFields) (past lead : List Heard) (emm : Emm) → AreQuiet lead →
    emm_offering card n (past ++ lead) emm ≡ emm_offering card n past emm
unfolding emm_offering
emm_led n card past lead emm quiet =
    ap (λ (now : ℕ). emm_of card n now (sections_seen emm.period (past ++ lead)) emm) (current_led past lead quiet)
    ∙ ap (λ (sections : List Emm). emm_of card n (current past) sections emm) (seen_led emm.period past lead quiet)

same_message : (lead before after : List Heard) (message : Option Message) →
    (led_by lead message before after).message ≡ message
same_message lead before after None = refl
same_message lead before after (Some m) = refl

message_same : (past lead : List Heard) → AreQuiet lead → (newest_message (past ++ lead)).message
    ≡ (newest_message past).message
message_same past lead quiet =
    ap (λ (s : Stretch). s.message) (newest_led past lead quiet)
    ∙ same_message lead (newest_message past).before (newest_message past).after (newest_message past).message

back_led : (past lead : List Heard) (b : Message) → AreQuiet lead → is_back (past ++ lead) b ≡ is_back past b
unfolding is_back
back_led past lead b quiet =
    ap (λ (now : ℕ). nat_lt b.period now
    || option_map_or (is_before b) (newest_message (past ++ lead)).message false) (current_led past lead quiet)
    ∙ ap (λ (m : Option Message). nat_lt b.period (current past) || option_map_or (is_before b) m false)
    (message_same past lead quiet)

message_led : (n : ℕ) (card : CardFields) (tuning : Tuning) (past lead : List Heard) (message : Option Message) →
    AreQuiet lead →
    message_offering card tuning n (past ++ lead) message ≡ message_offering card tuning n past message
message_led n card tuning past lead None quiet = refl
message_led n card tuning past lead (Some b) quiet =
    let all : List Heard = past ++ lead in
    ap (λ (back : Bool). if back then refused_offering (Fault.BadEcm n Back)
    else wrote_or (stretch_wrote card tuning (newest_message all) (newest_message all).message b)
    (word_fault n b (key_at card all b.period))) (back_led past lead b quiet)
    ∙ (ap (λ (s : Stretch). if is_back past b then refused_offering (Fault.BadEcm n Back)
    else wrote_or (stretch_wrote card tuning s s.message b) (word_fault n b (key_at card all b.period)))
    (newest_led past lead quiet)
    ∙ (ap (λ (w : WrittenPackets). if is_back past b then refused_offering (Fault.BadEcm n Back)
    else wrote_or w (word_fault n b (key_at card all b.period)))
    (wrote_by card tuning (newest_message past).before (newest_message past).after lead (newest_message past).message b
    quiet)
    ∙ ap (λ (key : Option (List ℕ)). if is_back past b then refused_offering (Fault.BadEcm n Back)
    else wrote_or (stretch_wrote card tuning (newest_message past) (newest_message past).message b)
    (word_fault n b key))
    (key_led b.period card past lead quiet)))

pub offering_led : (n : ℕ) (card : CardFields) (tuning : Tuning) (past lead : List Heard) (thing : Heard) →
    AreQuiet lead → heard_offering card tuning n (past ++ lead) thing ≡ heard_offering card tuning n past thing
offering_led n card tuning past lead Dropped quiet = refl
offering_led n card tuning past lead (Entitles emm) quiet = emm_led n card past lead emm quiet
offering_led n card tuning past lead (Controls part) quiet =
    let all : List Heard = past ++ lead in
    ap (λ (s : Stretch). part_offering n (part_fault (message_parts_to s part))
    (message_offering card tuning n all (completes all (Controls part)))) (newest_led past lead quiet)
    ∙ (ap (λ (parts : List EcmPart). part_offering n (part_fault parts)
    (message_offering card tuning n all (completes all (Controls part)))) (run_to_led (newest_message past) lead part
    quiet)
    ∙ (ap (λ (m : Option Message). part_offering n (part_fault (message_parts_to (newest_message past) part))
    (message_offering card tuning n all m)) (completes_led past lead (Controls part) quiet)
    ∙ ap (part_offering n (part_fault (message_parts_to (newest_message past) part)))
    (message_led n card tuning past lead (completes past (Controls part)) quiet)))
offering_led n card tuning past lead (BadEmm fault) quiet = refl
offering_led n card tuning past lead (BadEcm fault) quiet = refl
offering_led n card tuning past lead (Other m packet) quiet = refl

-- how a run ends
periods_led : (past lead : List Heard) → AreQuiet lead → periods_told (past ++ lead) ≡ periods_told past
unfolding periods_told
periods_led past lead quiet =
    ap {B = List ℕ} (λ (ms : List Message). reverse (map (λ (m : Message). m.period) ms))
    (messages_led past lead quiet)

unkeyed_led : (card : CardFields) (past lead : List Heard) → AreQuiet lead → (q : ℕ) →
    is_unkeyed card (past ++ lead) q ≡ is_unkeyed card past q
unkeyed_led card past lead quiet q =
    ap {B = Bool} (λ (key : Option (List ℕ)). is_none key) (key_led q card past lead quiet)

revoked_led : (card : CardFields) (past lead : List Heard) → AreQuiet lead → (q : ℕ) →
    (is_unkeyed card (past ++ lead) q && is_all_seen (past ++ lead) q)
    ≡ (is_unkeyed card past q && is_all_seen past q)
revoked_led card past lead quiet q =
    ap (λ (b : Bool). b && is_all_seen (past ++ lead) q) (unkeyed_led card past lead quiet q)
    ∙ ap (λ (sections : List Emm). is_unkeyed card past q && are_all sections) (seen_led q past lead quiet)

abbrev pub closed_by : Option ℕ → Option ℕ → Option Message → ℕ → Ending
closed_by revoked unheard message written =
    closed_with revoked unheard (stretch_of message [] []) written

closed_ending_led : (written : ℕ) (card : CardFields) (past lead : List Heard) → AreQuiet lead →
    closed_ending card (past ++ lead) written ≡ closed_ending card past written
closed_ending_led written card past lead quiet =
    let all : List Heard = past ++ lead in
    ap (λ (told : List ℕ). closed_by (find (λ q. is_unkeyed card all q && is_all_seen all q) told)
    (find (is_unkeyed card all) told) (newest_message all).message written) (periods_led past lead quiet)
    ∙ (ap (λ (revoked : Option ℕ). closed_by revoked (find (is_unkeyed card all) (periods_told past))
    (newest_message all).message written)
    (find_same (λ q. is_unkeyed card all q && is_all_seen all q) (λ q. is_unkeyed card past q && is_all_seen past q)
    (revoked_led card past lead quiet) (periods_told past))
    ∙ (ap (λ (unheard : Option ℕ). closed_by
    (find (λ q. is_unkeyed card past q && is_all_seen past q) (periods_told past)) unheard (newest_message all).message
    written)
    (find_same (is_unkeyed card all) (is_unkeyed card past) (unkeyed_led card past lead quiet) (periods_told past))
    ∙ ap (λ (m : Option Message). closed_by
    (find (λ q. is_unkeyed card past q && is_all_seen past q) (periods_told past))
    (find (is_unkeyed card past) (periods_told past)) m written) (message_same past lead quiet)))

pub ending_led : (written : ℕ) (card : CardFields) (past lead : List Heard) → AreQuiet lead →
    run_ending card (past ++ lead) written ≡ run_ending card past written
unfolding run_ending
ending_led written card past lead quiet =
    let all : List Heard = past ++ lead in
    ap (λ (closed : Bool). if closed then closed_ending card all written
    else Unclosed (option_map_or (λ (m : Message). m.number + 1) (newest_message all).message 0))
    (closed_led past lead quiet)
    ∙ (ap (λ (ending : Ending). if is_closed past then ending
    else Unclosed (option_map_or (λ (m : Message). m.number + 1) (newest_message all).message 0))
    (closed_ending_led written card past lead quiet)
    ∙ ap (λ (m : Option Message). if is_closed past then closed_ending card past written
    else Unclosed (option_map_or (λ (m : Message). m.number + 1) m 0)) (message_same past lead quiet))
