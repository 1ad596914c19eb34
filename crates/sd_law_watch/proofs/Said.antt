-- What is heard of messages alone: every fact on messages is a fact on them.
use Rattle.std.proofs.Common.{◌≡◌, refl, ℕ, ◌+◌, ◌==◌, ◌&&◌, Bool, true, false, List, [], ◌∷◌, map, reverse}
use Rattle.std.proofs.Common.{Option, Some, None, sym, ap, ◌∙◌, arith}
use Rattle.std.specs.Prelude.{if◌then◌else◌, nat_le, max, find, is_none}
use Rattle.std.specs.Option.{option_map_or}
use Rattle.sd_base.proofs.Bools.{chosen_itself}
use Rattle.sd_site_cards.specs.CardFields.{CardFields}
use Rattle.sd_message.specs.declared.emm.Emm.{Emm}
use Rattle.sd_message.specs.EcmParts.{Message}
use Rattle.sd_message.specs.declared.ecm_part.EcmPart.{EcmPart}
use Rattle.sd_spec.specs.Heard.{Heard, Dropped, Entitles, Controls, BadEmm, BadEcm, Other}
use Rattle.sd_spec.specs.Stretches.{Stretch, exceeds, counted_parts, run_of_parts, message_told, message_parts_to}
use Rattle.sd_spec.specs.Stretches.{completed, stretch_after}
use Rattle.sd_spec.specs.Stretches.{newest_message}
use Rattle.sd_spec.specs.Stretches.{completes, messages, with_message, is_closed, period_heard, current, sections_seen}
use Rattle.sd_spec.specs.Runs.{run_name_heard, run_name_in, are_two, is_turn}
use Rattle.sd_spec.specs.Keys.{key_in, key_at}
use Rattle.sd_spec.specs.Ending.{periods_told, is_unkeyed, is_all_seen, are_all, closed_ending, run_ending}
use Rattle.sd_spec.specs.declared.ending.Ending.{Ending}
use Rattle.sd_spec.specs.declared.ending.Ending.TheVariants.{Unclosed}
use Rattle.sd_law_losses.proofs.Offerings.{closed_with, find_same}

-- what is heard of messages
abbrev pub said : List Heard → List Heard
said [] = []
said (Dropped ∷ past) = said past
said (Entitles emm ∷ past) = Entitles emm ∷ said past
said (Controls part ∷ past) = Controls part ∷ said past
said (BadEmm fault ∷ past) = BadEmm fault ∷ said past
said (BadEcm fault ∷ past) = BadEcm fault ∷ said past
said (Other n packet ∷ past) = said past

abbrev pub stretch_said : Stretch → Stretch
stretch_said stretch = record {
  message = stretch.message;
  before = said stretch.before;
  after = said stretch.after;
}

-- the names of runs
pub names_said : (past : List Heard) → run_name_in (said past) ≡ run_name_in past
unfolding run_name_in
names_said [] = refl
names_said (Dropped ∷ past) = names_said past
names_said (Entitles emm ∷ past) = refl
names_said (Controls part ∷ past) = refl
names_said (BadEmm fault ∷ past) = names_said past
names_said (BadEcm fault ∷ past) = names_said past
names_said (Other n packet ∷ past) = names_said past

pub turn_said : (past : List Heard) (thing : Heard) → is_turn (said past) thing ≡ is_turn past thing
unfolding is_turn
turn_said past thing =
    ap (λ (name : Option (Option ℕ)). are_two name (run_name_heard thing)) (names_said past)

-- control messages
counted_said : (message : Option Message) (past : List Heard) → counted_parts message (said past)
    ≡ counted_parts message past
unfolding counted_parts
counted_said message [] = refl
counted_said message (Dropped ∷ past) = counted_said message past
counted_said message (Entitles emm ∷ past) = counted_said message past
counted_said message (Controls part ∷ past) =
    ap (λ (parts : List EcmPart). if exceeds message part then part ∷ parts else parts) (counted_said message past)
counted_said message (BadEmm fault ∷ past) = counted_said message past
counted_said message (BadEcm fault ∷ past) = counted_said message past
counted_said message (Other n packet ∷ past) = counted_said message past

pub run_to_said : (stretch : Stretch) (part : EcmPart) → message_parts_to (stretch_said stretch) part
    ≡ message_parts_to stretch part
unfolding message_parts_to
run_to_said stretch part =
    ap (λ (parts : List EcmPart). if exceeds stretch.message part then run_of_parts (part ∷ parts) else [])
    (counted_said stretch.message stretch.after)

completed_said : (stretch : Stretch) (thing : Heard) → completed (stretch_said stretch) thing ≡ completed stretch thing
completed_said stretch Dropped = refl
completed_said stretch (Entitles emm) = refl
completed_said stretch (Controls part) =
    ap (λ (parts : List EcmPart). if part.part == part.last_part then message_told parts else None)
    (run_to_said stretch part)
completed_said stretch (BadEmm fault) = refl
completed_said stretch (BadEcm fault) = refl
completed_said stretch (Other n packet) = refl

-- a thing more of a message
stretched_said : (past : List Heard) (stretch : Stretch) (thing : Heard) (message : Option Message) →
    said (thing ∷ stretch.after) ≡ thing ∷ said stretch.after →
    stretch_after (said past) (stretch_said stretch) thing message ≡ stretch_said
    (stretch_after past stretch thing message)
stretched_said past stretch thing None speaks =
    ap {B = Stretch} (λ (after : List Heard). record {
      message = stretch.message;
      before = said stretch.before;
      after = after;
    }) (sym speaks)
stretched_said past stretch thing (Some message) speaks = refl

more_said : (past : List Heard) (thing : Heard) → newest_message (said past) ≡ stretch_said (newest_message past) →
    said (thing ∷ (newest_message past).after) ≡ thing ∷ said (newest_message past).after →
    newest_message (thing ∷ said past) ≡ stretch_said (newest_message (thing ∷ past))
unfolding newest_message
more_said past thing before speaks =
    ap (λ (stretch : Stretch). stretch_after (said past) stretch thing (completed stretch thing)) before
    ∙ (ap (stretch_after (said past) (stretch_said (newest_message past)) thing)
    (completed_said (newest_message past) thing)
    ∙ stretched_said past (newest_message past) thing (completed (newest_message past) thing) speaks)

pub newest_said : (past : List Heard) → newest_message (said past) ≡ stretch_said (newest_message past)
unfolding newest_message
newest_said [] = refl
newest_said (Dropped ∷ past) = newest_said past
newest_said (Entitles emm ∷ past) = more_said past (Entitles emm) (newest_said past) refl
newest_said (Controls part ∷ past) = more_said past (Controls part) (newest_said past) refl
newest_said (BadEmm fault ∷ past) = more_said past (BadEmm fault) (newest_said past) refl
newest_said (BadEcm fault ∷ past) = more_said past (BadEcm fault) (newest_said past) refl
newest_said (Other n packet ∷ past) = newest_said past

pub completes_said : (past : List Heard) (thing : Heard) → completes (said past) thing ≡ completes past thing
completes_said past thing =
    ap (λ (stretch : Stretch). completed stretch thing) (newest_said past) ∙ completed_said (newest_message past) thing

messages_more : (past : List Heard) (thing : Heard) → messages (said past) ≡ messages past →
    messages (thing ∷ said past) ≡ messages (thing ∷ past)
unfolding messages
messages_more past thing before =
    ap (λ (message : Option Message). with_message message (messages (said past))) (completes_said past thing)
    ∙ ap (with_message (completes past thing)) before

pub messages_said : (past : List Heard) → messages (said past) ≡ messages past
unfolding messages
messages_said [] = refl
messages_said (Dropped ∷ past) = messages_said past
messages_said (Entitles emm ∷ past) = messages_more past (Entitles emm) (messages_said past)
messages_said (Controls part ∷ past) = messages_more past (Controls part) (messages_said past)
messages_said (BadEmm fault ∷ past) = messages_more past (BadEmm fault) (messages_said past)
messages_said (BadEcm fault ∷ past) = messages_more past (BadEcm fault) (messages_said past)
messages_said (Other n packet ∷ past) = messages_said past

closed_more : (past : List Heard) (thing : Heard) → is_closed (said past) ≡ is_closed past →
    is_closed (thing ∷ said past) ≡ is_closed (thing ∷ past)
unfolding is_closed
closed_more past thing before =
    ap (λ (message : Option Message). if is_closed (said past) then true
    else option_map_or (λ (m : Message). m.closing) message false) (completes_said past thing)
    ∙ ap (λ (closed : Bool). if closed then true
    else option_map_or (λ (m : Message). m.closing) (completes past thing) false) before

pub closed_said : (past : List Heard) → is_closed (said past) ≡ is_closed past
unfolding is_closed
closed_said [] = refl
closed_said (Dropped ∷ past) = closed_said past ∙ sym (chosen_itself (is_closed past))
closed_said (Entitles emm ∷ past) = closed_more past (Entitles emm) (closed_said past)
closed_said (Controls part ∷ past) = closed_more past (Controls part) (closed_said past)
closed_said (BadEmm fault ∷ past) = closed_more past (BadEmm fault) (closed_said past)
closed_said (BadEcm fault ∷ past) = closed_more past (BadEcm fault) (closed_said past)
closed_said (Other n packet ∷ past) = closed_said past ∙ sym (chosen_itself (is_closed past))

-- periods and their sections
period_said : (past : List Heard) (thing : Heard) → period_heard (said past) thing ≡ period_heard past thing
period_said past Dropped = refl
period_said past (Entitles emm) = refl
period_said past (Controls part) =
    ap (λ (message : Option Message). option_map_or (λ (m : Message). m.period) message 0)
    (completes_said past (Controls part))
period_said past (BadEmm fault) = refl
period_said past (BadEcm fault) = refl
period_said past (Other n packet) = refl

current_more : (past : List Heard) (thing : Heard) → current (said past) ≡ current past →
    current (thing ∷ said past) ≡ current (thing ∷ past)
unfolding current
current_more past thing before =
    ap (λ (q : ℕ). max q (current (said past))) (period_said past thing) ∙ ap (max (period_heard past thing)) before

none_above : (q : ℕ) → q ≡ max 0 q
none_above q = omega arith

pub current_said : (past : List Heard) → current (said past) ≡ current past
unfolding current
current_said [] = refl
current_said (Dropped ∷ past) = current_said past ∙ none_above (current past)
current_said (Entitles emm ∷ past) = current_more past (Entitles emm) (current_said past)
current_said (Controls part ∷ past) = current_more past (Controls part) (current_said past)
current_said (BadEmm fault ∷ past) = current_more past (BadEmm fault) (current_said past)
current_said (BadEcm fault ∷ past) = current_more past (BadEcm fault) (current_said past)
current_said (Other n packet ∷ past) = current_said past ∙ none_above (current past)

pub seen_said : (q : ℕ) (past : List Heard) → sections_seen q (said past) ≡ sections_seen q past
unfolding sections_seen
seen_said q [] = refl
seen_said q (Dropped ∷ past) = seen_said q past
seen_said q (Entitles emm ∷ past) =
    ap (λ (sections : List Emm). if (emm.period == q) && nat_le (current (said past)) q
    then emm ∷ sections else sections) (seen_said q past)
    ∙ ap (λ (now : ℕ). if (emm.period == q) && nat_le now q then emm ∷ sections_seen q past else sections_seen q past)
    (current_said past)
seen_said q (Controls part ∷ past) = seen_said q past
seen_said q (BadEmm fault ∷ past) = seen_said q past
seen_said q (BadEcm fault ∷ past) = seen_said q past
seen_said q (Other n packet ∷ past) = seen_said q past

pub key_said : (q : ℕ) (card : CardFields) (past : List Heard) → key_at card (said past) q ≡ key_at card past q
key_said q card past = ap (key_in card) (seen_said q past)

-- how a run ends
periods_said : (past : List Heard) → periods_told (said past) ≡ periods_told past
unfolding periods_told
periods_said past =
    ap {B = List ℕ} (λ (ms : List Message). reverse (map (λ (m : Message). m.period) ms)) (messages_said past)

unkeyed_said : (card : CardFields) (past : List Heard) (q : ℕ) →
    is_unkeyed card (said past) q ≡ is_unkeyed card past q
unkeyed_said card past q = ap {B = Bool} (λ (key : Option (List ℕ)). is_none key) (key_said q card past)

revoked_said : (card : CardFields) (past : List Heard) (q : ℕ) →
    (is_unkeyed card (said past) q && is_all_seen (said past) q)
    ≡ (is_unkeyed card past q && is_all_seen past q)
revoked_said card past q =
    ap (λ (b : Bool). b && is_all_seen (said past) q) (unkeyed_said card past q)
    ∙ ap (λ (b : Bool). is_unkeyed card past q && b) (ap are_all (seen_said q past))

closed_ending_said : (written : ℕ) (card : CardFields) (past : List Heard) →
    closed_ending card (said past) written ≡ closed_ending card past written
closed_ending_said written card past =
    ap (λ (told : List ℕ). closed_with (find (λ q. is_unkeyed card (said past) q && is_all_seen (said past) q) told)
    (find (is_unkeyed card (said past)) told) (newest_message (said past)) written) (periods_said past)
    ∙ (ap (λ (revoked : Option ℕ). closed_with revoked (find (is_unkeyed card (said past)) (periods_told past))
    (newest_message (said past)) written)
    (find_same (λ q. is_unkeyed card (said past) q && is_all_seen (said past) q)
    (λ q. is_unkeyed card past q && is_all_seen past q) (revoked_said card past) (periods_told past))
    ∙ (ap (λ (unheard : Option ℕ). closed_with
    (find (λ q. is_unkeyed card past q && is_all_seen past q) (periods_told past)) unheard (newest_message (said past))
    written)
    (find_same (is_unkeyed card (said past)) (is_unkeyed card past) (unkeyed_said card past) (periods_told past))
    ∙ ap (λ (stretch : Stretch). closed_with
    (find (λ q. is_unkeyed card past q && is_all_seen past q) (periods_told past))
    (find (is_unkeyed card past) (periods_told past)) stretch written) (newest_said past)))

pub ending_said : (written : ℕ) (card : CardFields) (past : List Heard) →
    run_ending card (said past) written ≡ run_ending card past written
unfolding run_ending
ending_said written card past =
    ap (λ (closed : Bool). if closed then closed_ending card (said past) written
    else Unclosed (option_map_or (λ (m : Message). m.number + 1) (newest_message (said past)).message 0))
    (closed_said past)
    ∙ (ap (λ (ending : Ending). if is_closed past then ending
    else Unclosed (option_map_or (λ (m : Message). m.number + 1) (newest_message (said past)).message 0))
    (closed_ending_said written card past)
    ∙ ap (λ (stretch : Stretch). if is_closed past then closed_ending card past written
    else Unclosed (option_map_or (λ (m : Message). m.number + 1) stretch.message 0)) (newest_said past))
