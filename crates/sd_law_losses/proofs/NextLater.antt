-- The same things heard k packets later come to the same, but for the numbers of the packets.
use Rattle.std.proofs.Common.{◌≡◌, refl, ℕ, ◌+◌, ◌==◌, ◌&&◌, ◌++◌, Bool, true, false, List, [], ◌∷◌, map, reverse}
use Rattle.std.proofs.Common.{Option, Some, None, sym, ap, ◌∙◌}
use Rattle.std.specs.Prelude.{if◌then◌else◌, nat_le, max, Result, Ok, Err}
use Rattle.std.specs.Option.{option_map_or}
use Rattle.std.proofs.lemmas.List.{map-append, reverse-append}
use Rattle.sd_packet.specs.Header.{pid_of}
use Rattle.sd_site_cards.specs.CardFields.{CardFields}
use Rattle.sd_message.specs.EmmJudged.{emm_read}
use Rattle.sd_message.specs.declared.emm.Emm.{Emm}
use Rattle.sd_message.specs.declared.emm_fault.EmmFault.{EmmFault}
use Rattle.sd_message.specs.EcmJudged.{ecm_read}
use Rattle.sd_message.specs.EcmParts.{Message}
use Rattle.sd_message.specs.declared.ecm_part.EcmPart.{EcmPart}
use Rattle.sd_message.specs.declared.ecm_fault.EcmFault.{EcmFault}
use Rattle.sd_psi.specs.declared.our_cat.Tuning.{Tuning}
use Rattle.sd_spec.specs.Heard.{Heard, Dropped, Entitles, Controls, BadEmm, BadEcm, Other, heard_emm}
use Rattle.sd_spec.specs.Heard.{heard_ecm}
use Rattle.sd_spec.specs.Heard.{hears}
use Rattle.sd_spec.specs.Stretches.{Stretch, exceeds, counted_parts, run_of_parts, message_told, message_parts_to}
use Rattle.sd_spec.specs.Stretches.{completed}
use Rattle.sd_spec.specs.Stretches.{stretch_after}
use Rattle.sd_spec.specs.Stretches.{newest_message, completes, messages, with_message, is_closed, period_heard}
use Rattle.sd_spec.specs.Stretches.{current}
use Rattle.sd_spec.specs.Stretches.{sections_seen}
use Rattle.sd_spec.specs.Stretches.{others, held_in}
use Rattle.sd_spec.specs.Runs.{run_name_heard, name_or, run_name_in, are_two, is_turn, of_run}
use Rattle.sd_spec.specs.Keys.{key_in, key_at}

-- a thing that is heard k packets later
abbrev pub thing_later : ℕ → Heard → Heard
thing_later k Dropped = Dropped
thing_later k (Entitles emm) = Entitles emm
thing_later k (Controls part) = Controls part
thing_later k (BadEmm fault) = BadEmm fault
thing_later k (BadEcm fault) = BadEcm fault
thing_later k (Other n packet) = Other (k + n) packet

abbrev pub things_later : ℕ → List Heard → List Heard
things_later k [] = []
things_later k (thing ∷ past) = thing_later k thing ∷ things_later k past

abbrev pub stretch_later : ℕ → Stretch → Stretch
stretch_later k stretch = record {
  message = stretch.message;
  before = things_later k stretch.before;
  after = things_later k stretch.after;
}

emm_later : (k : ℕ) (read : Result (Option Emm) EmmFault) → heard_emm read ≡ thing_later k (heard_emm read)
emm_later k (Ok None) = refl
emm_later k (Ok (Some emm)) = refl
emm_later k (Err fault) = refl

ecm_later : (k : ℕ) (read : Result (Option EcmPart) EcmFault) → heard_ecm read ≡ thing_later k (heard_ecm read)
ecm_later k (Ok None) = refl
ecm_later k (Ok (Some part)) = refl
ecm_later k (Err fault) = refl

-- one of four, by three tests
heard_by_tests : (k n : ℕ) (packet : List ℕ) (a b c : Bool) (emm : Result (Option Emm) EmmFault)
    (ecm : Result (Option EcmPart) EcmFault) →
    (if a then Dropped else if b then heard_emm emm else if c then heard_ecm ecm else Other (k + n) packet)
    ≡ thing_later k (if a then Dropped else if b then heard_emm emm else if c then heard_ecm ecm else Other n packet)
heard_by_tests k n packet true b c emm ecm = refl
heard_by_tests k n packet false true c emm ecm = emm_later k emm
heard_by_tests k n packet false false true emm ecm = ecm_later k ecm
heard_by_tests k n packet false false false emm ecm = refl

-- what a packet is to a receiver
pub hears_later : (h k n : ℕ) (tuning : Tuning) (packet : List ℕ) →
    hears h tuning (k + n) packet ≡ thing_later k (hears h tuning n packet)
unfolding hears
hears_later h k n tuning packet =
    heard_by_tests k n packet (pid_of packet == 1) (pid_of packet == tuning.emm) (pid_of packet == tuning.ecm)
    (emm_read h packet) (ecm_read packet)

-- the names of runs
pub name_later : (k : ℕ) (thing : Heard) → run_name_heard (thing_later k thing) ≡ run_name_heard thing
name_later k Dropped = refl
name_later k (Entitles emm) = refl
name_later k (Controls part) = refl
name_later k (BadEmm fault) = refl
name_later k (BadEcm fault) = refl
name_later k (Other n packet) = refl

pub names_later : (k : ℕ) (past : List Heard) → run_name_in (things_later k past) ≡ run_name_in past
unfolding run_name_in
names_later k [] = refl
names_later k (thing ∷ past) =
    ap (λ (name : Option (Option ℕ)). name_or name (run_name_in (things_later k past))) (name_later k thing)
    ∙ ap (name_or (run_name_heard thing)) (names_later k past)

pub turn_later : (k : ℕ) (past : List Heard) (thing : Heard) →
    is_turn (things_later k past) (thing_later k thing) ≡ is_turn past thing
unfolding is_turn
turn_later k past thing =
    ap (λ (name : Option (Option ℕ)). are_two name (run_name_heard (thing_later k thing))) (names_later k past)
    ∙ ap (are_two (run_name_in past)) (name_later k thing)

run_by_test : (k : ℕ) (past : List Heard) (turn : Bool) →
    (if turn then [] else things_later k past) ≡ things_later k (if turn then [] else past)
run_by_test k past true = refl
run_by_test k past false = refl

pub run_later : (k : ℕ) (past : List Heard) (thing : Heard) →
    of_run (things_later k past) (thing_later k thing) ≡ things_later k (of_run past thing)
unfolding of_run
run_later k past thing =
    ap (λ (turn : Bool). if turn then [] else things_later k past) (turn_later k past thing)
    ∙ run_by_test k past (is_turn past thing)

-- control messages
counted_later : (k : ℕ) (message : Option Message) (past : List Heard) →
    counted_parts message (things_later k past) ≡ counted_parts message past
unfolding counted_parts
counted_later k message [] = refl
counted_later k message (Dropped ∷ past) = counted_later k message past
counted_later k message (Entitles emm ∷ past) = counted_later k message past
counted_later k message (Controls part ∷ past) =
    ap (λ (parts : List EcmPart). if exceeds message part then part ∷ parts else parts) (counted_later k message past)
counted_later k message (BadEmm fault ∷ past) = counted_later k message past
counted_later k message (BadEcm fault ∷ past) = counted_later k message past
counted_later k message (Other n packet ∷ past) = counted_later k message past

pub run_to_later : (k : ℕ) (stretch : Stretch) (part : EcmPart) →
    message_parts_to (stretch_later k stretch) part ≡ message_parts_to stretch part
unfolding message_parts_to
run_to_later k stretch part =
    ap (λ (parts : List EcmPart). if exceeds stretch.message part then run_of_parts (part ∷ parts) else [])
    (counted_later k stretch.message stretch.after)

completed_later : (k : ℕ) (stretch : Stretch) (thing : Heard) →
    completed (stretch_later k stretch) (thing_later k thing) ≡ completed stretch thing
completed_later k stretch Dropped = refl
completed_later k stretch (Entitles emm) = refl
completed_later k stretch (Controls part) =
    ap (λ (parts : List EcmPart). if part.part == part.last_part then message_told parts else None)
    (run_to_later k stretch part)
completed_later k stretch (BadEmm fault) = refl
completed_later k stretch (BadEcm fault) = refl
completed_later k stretch (Other n packet) = refl

stretched_later : (k : ℕ) (past : List Heard) (stretch : Stretch) (thing : Heard) (message : Option Message) →
    stretch_after (things_later k past) (stretch_later k stretch) (thing_later k thing) message
    ≡ stretch_later k (stretch_after past stretch thing message)
stretched_later k past stretch thing None = refl
stretched_later k past stretch thing (Some message) = refl

pub newest_later : (k : ℕ) (past : List Heard) → newest_message (things_later k past) ≡ stretch_later k
    (newest_message past)
unfolding newest_message
newest_later k [] = refl
newest_later k (thing ∷ past) =
    ap (λ (stretch : Stretch). stretch_after (things_later k past) stretch (thing_later k thing)
    (completed stretch (thing_later k thing))) (newest_later k past)
    ∙ (ap (stretch_after (things_later k past) (stretch_later k (newest_message past)) (thing_later k thing))
    (completed_later k (newest_message past) thing)
    ∙ stretched_later k past (newest_message past) thing (completed (newest_message past) thing))

pub completes_later : (k : ℕ) (past : List Heard) (thing : Heard) →
    completes (things_later k past) (thing_later k thing) ≡ completes past thing
completes_later k past thing =
    ap (λ (stretch : Stretch). completed stretch (thing_later k thing)) (newest_later k past)
    ∙ completed_later k (newest_message past) thing

pub messages_later : (k : ℕ) (past : List Heard) → messages (things_later k past) ≡ messages past
unfolding messages
messages_later k [] = refl
messages_later k (thing ∷ past) =
    ap (λ (message : Option Message). with_message message (messages (things_later k past)))
    (completes_later k past thing)
    ∙ ap (with_message (completes past thing)) (messages_later k past)

pub closed_later : (k : ℕ) (past : List Heard) → is_closed (things_later k past) ≡ is_closed past
unfolding is_closed
closed_later k [] = refl
closed_later k (thing ∷ past) =
    ap (λ (message : Option Message). if is_closed (things_later k past) then true
    else option_map_or (λ (m : Message). m.closing) message false) (completes_later k past thing)
    ∙ ap (λ (closed : Bool). if closed then true
    else option_map_or (λ (m : Message). m.closing) (completes past thing) false) (closed_later k past)

-- periods and their sections
period_later : (k : ℕ) (past : List Heard) (thing : Heard) →
    period_heard (things_later k past) (thing_later k thing) ≡ period_heard past thing
period_later k past Dropped = refl
period_later k past (Entitles emm) = refl
period_later k past (Controls part) =
    ap (λ (message : Option Message). option_map_or (λ (m : Message). m.period) message 0)
    (completes_later k past (Controls part))
period_later k past (BadEmm fault) = refl
period_later k past (BadEcm fault) = refl
period_later k past (Other n packet) = refl

pub current_later : (k : ℕ) (past : List Heard) → current (things_later k past) ≡ current past
unfolding current
current_later k [] = refl
current_later k (thing ∷ past) =
    ap (λ (q : ℕ). max q (current (things_later k past))) (period_later k past thing)
    ∙ ap (max (period_heard past thing)) (current_later k past)

pub seen_later : (k q : ℕ) (past : List Heard) → sections_seen q (things_later k past) ≡ sections_seen q past
unfolding sections_seen
seen_later k q [] = refl
seen_later k q (Dropped ∷ past) = seen_later k q past
seen_later k q (Entitles emm ∷ past) =
    ap (λ (sections : List Emm). if (emm.period == q) && nat_le (current (things_later k past)) q
    then emm ∷ sections else sections) (seen_later k q past)
    ∙ ap (λ (now : ℕ). if (emm.period == q) && nat_le now q then emm ∷ sections_seen q past else sections_seen q past)
    (current_later k past)
seen_later k q (Controls part ∷ past) = seen_later k q past
seen_later k q (BadEmm fault ∷ past) = seen_later k q past
seen_later k q (BadEcm fault ∷ past) = seen_later k q past
seen_later k q (Other n packet ∷ past) = seen_later k q past

pub key_later : (k q : ℕ) (card : CardFields) (past : List Heard) →
    key_at card (things_later k past) q ≡ key_at card past q
key_later k q card past = ap (key_in card) (seen_later k q past)

-- packets that are held
abbrev pub packet_later : ℕ → ℕ × List ℕ → ℕ × List ℕ
packet_later k held = (k + held.0, held.1)

others_later : (k : ℕ) (past : List Heard) → others (things_later k past) ≡ map (packet_later k) (others past)
unfolding others
others_later k [] = refl
others_later k (Dropped ∷ past) = others_later k past
others_later k (Entitles emm ∷ past) = others_later k past
others_later k (Controls part ∷ past) = others_later k past
others_later k (BadEmm fault ∷ past) = others_later k past
others_later k (BadEcm fault ∷ past) = others_later k past
others_later k (Other n packet ∷ past) =
    ap (λ (held : List (ℕ × List ℕ)). (k + n, packet) ∷ held) (others_later k past)

reversed_later : (k : ℕ) (held : List (ℕ × List ℕ)) →
    reverse (map (packet_later k) held) ≡ map (packet_later k) (reverse held)
reversed_later k [] = refl
reversed_later k (one ∷ held) =
    reverse-append (packet_later k one ∷ []) (map (packet_later k) held)
    ∙ (ap (λ (before : List (ℕ × List ℕ)). before ++ packet_later k one ∷ []) (reversed_later k held)
    ∙ (sym (map-append (packet_later k) (reverse held) (one ∷ []))
    ∙ ap (map (packet_later k)) (sym (reverse-append (one ∷ []) held))))

pub held_later : (k : ℕ) (stretch : Stretch) →
    held_in (stretch_later k stretch) ≡ map (packet_later k) (held_in stretch)
held_later k stretch = ap reverse (others_later k stretch.after) ∙ reversed_later k (others stretch.after)
