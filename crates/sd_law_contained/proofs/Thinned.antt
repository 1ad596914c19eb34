-- What is heard of messages and of one PID says the same without the rest of what was heard.
use Rattle.std.proofs.Common.{◌≡◌, refl, ℕ, ◌==◌, ◌&&◌, Bool, true, false, List, [], ◌∷◌, map}
use Rattle.std.proofs.Common.{Option, Some, None, sym, ap, ◌∙◌}
use Rattle.std.specs.Prelude.{if◌then◌else◌, nat_le, max, filter}
use Rattle.std.specs.Option.{option_map_or}
use Rattle.std.proofs.Math.Nat.{zero-max}
use Rattle.sd_base.proofs.Bools.{chosen_itself}
use Rattle.sd_packet.specs.Header.{pid_of}
use Rattle.sd_site_cards.specs.CardFields.{CardFields}
use Rattle.sd_message.specs.declared.emm.Emm.{Emm}
use Rattle.sd_message.specs.EcmParts.{Message}
use Rattle.sd_message.specs.declared.ecm_part.EcmPart.{EcmPart}
use Rattle.sd_spec.specs.Heard.{Heard, Dropped, Entitles, Controls, BadEmm, BadEcm, Other}
use Rattle.sd_spec.specs.Stretches.{Stretch, exceeds, counted_parts, run_of_parts, message_told, message_parts_to}
use Rattle.sd_spec.specs.Stretches.{completed}
use Rattle.sd_spec.specs.Stretches.{stretch_after}
use Rattle.sd_spec.specs.Stretches.{newest_message, completes, messages, with_message, is_closed, period_heard}
use Rattle.sd_spec.specs.Stretches.{current}
use Rattle.sd_spec.specs.Stretches.{sections_seen}
use Rattle.sd_spec.specs.Stretches.{others}
use Rattle.sd_spec.specs.Runs.{run_name_in}
use Rattle.sd_spec.specs.Keys.{key_in, key_at}

-- what is heard, and what was heard before, if it is a message or a packet of one PID; its number is left out
abbrev pub thin_with : ℕ → Heard → List Heard → List Heard
thin_with pid Dropped past = past
thin_with pid (Entitles emm) past = Entitles emm ∷ past
thin_with pid (Controls part) past = Controls part ∷ past
thin_with pid (BadEmm fault) past = past
thin_with pid (BadEcm fault) past = past
thin_with pid (Other n packet) past = if pid_of packet == pid then Other 0 packet ∷ past else past

-- the messages and the packets of one PID
abbrev pub thinned : ℕ → List Heard → List Heard
thinned pid [] = []
thinned pid (thing ∷ past) = thin_with pid thing (thinned pid past)

abbrev pub stretch_thinned : ℕ → Stretch → Stretch
stretch_thinned pid stretch = record {
  message = stretch.message;
  before = thinned pid stretch.before;
  after = thinned pid stretch.after;
}

-- what is the same of thinned lists is the same of lists that are thinned to one
pub same_by : {A : Type 0} (f : List Heard → A) (pid : ℕ) (a b : List Heard) →
    ((past : List Heard) → f (thinned pid past) ≡ f past) → thinned pid a ≡ thinned pid b → f a ≡ f b
same_by f pid a b each same = sym (each a) ∙ (ap f same ∙ each b)

-- control messages
counted_other : (test : Bool) (message : Option Message) (packet : List ℕ) (past : List Heard) →
    counted_parts message (if test then Other 0 packet ∷ past else past) ≡ counted_parts message past
unfolding counted_parts
counted_other true message packet past = refl
counted_other false message packet past = refl

counted_thinned : (pid : ℕ) (message : Option Message) (past : List Heard) →
    counted_parts message (thinned pid past) ≡ counted_parts message past
unfolding counted_parts
counted_thinned pid message [] = refl
counted_thinned pid message (Dropped ∷ past) = counted_thinned pid message past
counted_thinned pid message (Entitles emm ∷ past) = counted_thinned pid message past
counted_thinned pid message (Controls part ∷ past) =
    ap (λ (parts : List EcmPart). if exceeds message part then part ∷ parts else parts)
    (counted_thinned pid message past)
counted_thinned pid message (BadEmm fault ∷ past) = counted_thinned pid message past
counted_thinned pid message (BadEcm fault ∷ past) = counted_thinned pid message past
counted_thinned pid message (Other n packet ∷ past) =
    counted_other (pid_of packet == pid) message packet (thinned pid past) ∙ counted_thinned pid message past

run_to_thinned : (pid : ℕ) (stretch : Stretch) (part : EcmPart) →
    message_parts_to (stretch_thinned pid stretch) part ≡ message_parts_to stretch part
unfolding message_parts_to
run_to_thinned pid stretch part =
    ap (λ (parts : List EcmPart). if exceeds stretch.message part then run_of_parts (part ∷ parts) else [])
    (counted_thinned pid stretch.message stretch.after)

completed_thinned : (pid : ℕ) (stretch : Stretch) (part : EcmPart) →
    completed (stretch_thinned pid stretch) (Controls part) ≡ completed stretch (Controls part)
completed_thinned pid stretch part =
    ap (λ (parts : List EcmPart). if part.part == part.last_part then message_told parts else None)
    (run_to_thinned pid stretch part)

stretched_thinned : (pid : ℕ) (past : List Heard) (stretch : Stretch) (part : EcmPart) (message : Option Message) →
    stretch_after (thinned pid past) (stretch_thinned pid stretch) (Controls part) message
    ≡ stretch_thinned pid (stretch_after past stretch (Controls part) message)
stretched_thinned pid past stretch part None = refl
stretched_thinned pid past stretch part (Some message) = refl

newest_other : (test : Bool) (packet : List ℕ) (past before after : List Heard) (message : Option Message) →
    newest_message past ≡ record { message = message; before = before; after = after } →
    newest_message (if test then Other 0 packet ∷ past else past)
    ≡ record { message = message; before = before; after = if test then Other 0 packet ∷ after else after }
unfolding newest_message
newest_other true packet past before after message is =
    ap (λ (stretch : Stretch). stretch_after past stretch (Other 0 packet) None) is
newest_other false packet past before after message is = is

pub newest_thinned : (pid : ℕ) (past : List Heard) → newest_message (thinned pid past) ≡ stretch_thinned pid
    (newest_message past)
unfolding newest_message
newest_thinned pid [] = refl
newest_thinned pid (Dropped ∷ past) = newest_thinned pid past
newest_thinned pid (Entitles emm ∷ past) =
    ap (λ (stretch : Stretch). stretch_after (thinned pid past) stretch (Entitles emm) None) (newest_thinned pid past)
newest_thinned pid (Controls part ∷ past) =
    ap (λ (stretch : Stretch). stretch_after (thinned pid past) stretch (Controls part)
    (completed stretch (Controls part))) (newest_thinned pid past)
    ∙ (ap (stretch_after (thinned pid past) (stretch_thinned pid (newest_message past)) (Controls part))
    (completed_thinned pid (newest_message past) part)
    ∙ stretched_thinned pid past (newest_message past) part (completed (newest_message past) (Controls part)))
newest_thinned pid (BadEmm fault ∷ past) = newest_thinned pid past
newest_thinned pid (BadEcm fault ∷ past) = newest_thinned pid past
newest_thinned pid (Other n packet ∷ past) =
    newest_other (pid_of packet == pid) packet (thinned pid past) (thinned pid (newest_message past).before)
    (thinned pid (newest_message past).after) (newest_message past).message (newest_thinned pid past)

pub run_thinned : (pid : ℕ) (part : EcmPart) (past : List Heard) →
    message_parts_to (newest_message (thinned pid past)) part ≡ message_parts_to (newest_message past) part
run_thinned pid part past =
    ap (λ (stretch : Stretch). message_parts_to stretch part) (newest_thinned pid past) ∙ run_to_thinned pid
    (newest_message past) part

pub completes_thinned : (pid : ℕ) (part : EcmPart) (past : List Heard) →
    completes (thinned pid past) (Controls part) ≡ completes past (Controls part)
completes_thinned pid part past =
    ap (λ (stretch : Stretch). completed stretch (Controls part)) (newest_thinned pid past)
    ∙ completed_thinned pid (newest_message past) part

pub message_thinned : (pid : ℕ) (past : List Heard) → (newest_message (thinned pid past)).message
    ≡ (newest_message past).message
message_thinned pid past = ap (λ (stretch : Stretch). stretch.message) (newest_thinned pid past)

messages_other : (test : Bool) (packet : List ℕ) (past : List Heard) →
    messages (if test then Other 0 packet ∷ past else past) ≡ messages past
unfolding messages
messages_other true packet past = refl
messages_other false packet past = refl

pub messages_thinned : (pid : ℕ) (past : List Heard) → messages (thinned pid past) ≡ messages past
unfolding messages
messages_thinned pid [] = refl
messages_thinned pid (Dropped ∷ past) = messages_thinned pid past
messages_thinned pid (Entitles emm ∷ past) = messages_thinned pid past
messages_thinned pid (Controls part ∷ past) =
    ap (λ (message : Option Message). with_message message (messages (thinned pid past)))
    (completes_thinned pid part past)
    ∙ ap (with_message (completes past (Controls part))) (messages_thinned pid past)
messages_thinned pid (BadEmm fault ∷ past) = messages_thinned pid past
messages_thinned pid (BadEcm fault ∷ past) = messages_thinned pid past
messages_thinned pid (Other n packet ∷ past) =
    messages_other (pid_of packet == pid) packet (thinned pid past) ∙ messages_thinned pid past

closed_other : (test : Bool) (packet : List ℕ) (past : List Heard) →
    is_closed (if test then Other 0 packet ∷ past else past) ≡ is_closed past
unfolding is_closed
closed_other true packet past = chosen_itself (is_closed past)
closed_other false packet past = refl

pub closed_thinned : (pid : ℕ) (past : List Heard) → is_closed (thinned pid past) ≡ is_closed past
unfolding is_closed
closed_thinned pid [] = refl
closed_thinned pid (Dropped ∷ past) = closed_thinned pid past ∙ sym (chosen_itself (is_closed past))
closed_thinned pid (Entitles emm ∷ past) =
    ap (λ (closed : Bool). if closed then true else false) (closed_thinned pid past)
closed_thinned pid (Controls part ∷ past) =
    ap (λ (message : Option Message). if is_closed (thinned pid past) then true
    else option_map_or (λ (m : Message). m.closing) message false) (completes_thinned pid part past)
    ∙ ap (λ (closed : Bool). if closed then true
    else option_map_or (λ (m : Message). m.closing) (completes past (Controls part)) false) (closed_thinned pid past)
closed_thinned pid (BadEmm fault ∷ past) = closed_thinned pid past ∙ sym (chosen_itself (is_closed past))
closed_thinned pid (BadEcm fault ∷ past) = closed_thinned pid past ∙ sym (chosen_itself (is_closed past))
closed_thinned pid (Other n packet ∷ past) =
    closed_other (pid_of packet == pid) packet (thinned pid past)
    ∙ (closed_thinned pid past ∙ sym (chosen_itself (is_closed past)))

-- periods and their sections
current_other : (test : Bool) (packet : List ℕ) (past : List Heard) →
    current (if test then Other 0 packet ∷ past else past) ≡ current past
unfolding current
current_other true packet past = zero-max (current past)
current_other false packet past = refl

pub current_thinned : (pid : ℕ) (past : List Heard) → current (thinned pid past) ≡ current past
unfolding current
current_thinned pid [] = refl
current_thinned pid (Dropped ∷ past) = current_thinned pid past ∙ sym (zero-max (current past))
current_thinned pid (Entitles emm ∷ past) = ap (max emm.period) (current_thinned pid past)
current_thinned pid (Controls part ∷ past) =
    ap (λ (message : Option Message). max (option_map_or (λ (m : Message). m.period) message 0)
    (current (thinned pid past))) (completes_thinned pid part past)
    ∙ ap (max (period_heard past (Controls part))) (current_thinned pid past)
current_thinned pid (BadEmm fault ∷ past) = current_thinned pid past ∙ sym (zero-max (current past))
current_thinned pid (BadEcm fault ∷ past) = current_thinned pid past ∙ sym (zero-max (current past))
current_thinned pid (Other n packet ∷ past) =
    current_other (pid_of packet == pid) packet (thinned pid past)
    ∙ (current_thinned pid past ∙ sym (zero-max (current past)))

seen_other : (test : Bool) (q : ℕ) (packet : List ℕ) (past : List Heard) →
    sections_seen q (if test then Other 0 packet ∷ past else past) ≡ sections_seen q past
unfolding sections_seen
seen_other true q packet past = refl
seen_other false q packet past = refl

pub seen_thinned : (pid q : ℕ) (past : List Heard) → sections_seen q (thinned pid past) ≡ sections_seen q past
unfolding sections_seen
seen_thinned pid q [] = refl
seen_thinned pid q (Dropped ∷ past) = seen_thinned pid q past
seen_thinned pid q (Entitles emm ∷ past) =
    ap (λ (sections : List Emm). if (emm.period == q) && nat_le (current (thinned pid past)) q
    then emm ∷ sections else sections) (seen_thinned pid q past)
    ∙ ap (λ (now : ℕ). if (emm.period == q) && nat_le now q then emm ∷ sections_seen q past else sections_seen q past)
    (current_thinned pid past)
seen_thinned pid q (Controls part ∷ past) = seen_thinned pid q past
seen_thinned pid q (BadEmm fault ∷ past) = seen_thinned pid q past
seen_thinned pid q (BadEcm fault ∷ past) = seen_thinned pid q past
seen_thinned pid q (Other n packet ∷ past) =
    seen_other (pid_of packet == pid) q packet (thinned pid past) ∙ seen_thinned pid q past

pub key_thinned : (pid q : ℕ) (card : CardFields) (past : List Heard) →
    key_at card (thinned pid past) q ≡ key_at card past q
key_thinned pid q card past = ap (key_in card) (seen_thinned pid q past)

-- the names of runs
name_other : (test : Bool) (packet : List ℕ) (past : List Heard) →
    run_name_in (if test then Other 0 packet ∷ past else past) ≡ run_name_in past
unfolding run_name_in
name_other true packet past = refl
name_other false packet past = refl

pub name_thinned : (pid : ℕ) (past : List Heard) → run_name_in (thinned pid past) ≡ run_name_in past
unfolding run_name_in
name_thinned pid [] = refl
name_thinned pid (Dropped ∷ past) = name_thinned pid past
name_thinned pid (Entitles emm ∷ past) = refl
name_thinned pid (Controls part ∷ past) = refl
name_thinned pid (BadEmm fault ∷ past) = name_thinned pid past
name_thinned pid (BadEcm fault ∷ past) = name_thinned pid past
name_thinned pid (Other n packet ∷ past) =
    name_other (pid_of packet == pid) packet (thinned pid past) ∙ name_thinned pid past

-- the packets that are heard
abbrev pub packets_heard : List Heard → List (List ℕ)
packets_heard past = map (λ one. one.1) (others past)

packets_other : (test : Bool) (packet : List ℕ) (past : List Heard) (packets : List (List ℕ)) →
    packets_heard past ≡ packets →
    packets_heard (if test then Other 0 packet ∷ past else past) ≡ (if test then packet ∷ packets else packets)
unfolding others
packets_other true packet past packets is = ap (λ (ps : List (List ℕ)). packet ∷ ps) is
packets_other false packet past packets is = is

pub packets_thinned : (pid : ℕ) (past : List Heard) →
    packets_heard (thinned pid past) ≡ filter (λ packet. pid_of packet == pid) (packets_heard past)
unfolding others
packets_thinned pid [] = refl
packets_thinned pid (Dropped ∷ past) = packets_thinned pid past
packets_thinned pid (Entitles emm ∷ past) = packets_thinned pid past
packets_thinned pid (Controls part ∷ past) = packets_thinned pid past
packets_thinned pid (BadEmm fault ∷ past) = packets_thinned pid past
packets_thinned pid (BadEcm fault ∷ past) = packets_thinned pid past
packets_thinned pid (Other n packet ∷ past) =
    packets_other (pid_of packet == pid) packet (thinned pid past)
    (filter (λ p. pid_of p == pid) (packets_heard past)) (packets_thinned pid past)

-- all packets that are heard are of one PID
abbrev pub AreOn : ℕ → List Heard → Type 0
AreOn pid [] = Unit {0}
AreOn pid (Dropped ∷ past) = AreOn pid past
AreOn pid (Entitles emm ∷ past) = AreOn pid past
AreOn pid (Controls part ∷ past) = AreOn pid past
AreOn pid (BadEmm fault ∷ past) = AreOn pid past
AreOn pid (BadEcm fault ∷ past) = AreOn pid past
AreOn pid (Other n packet ∷ past) = ((pid_of packet == pid) ≡ true) × AreOn pid past

pub all_on : (pid : ℕ) (past : List Heard) → AreOn pid past →
    filter (λ packet. pid_of packet == pid) (packets_heard past) ≡ packets_heard past
unfolding others
all_on pid [] are = refl
all_on pid (Dropped ∷ past) are = all_on pid past are
all_on pid (Entitles emm ∷ past) are = all_on pid past are
all_on pid (Controls part ∷ past) are = all_on pid past are
all_on pid (BadEmm fault ∷ past) are = all_on pid past are
all_on pid (BadEcm fault ∷ past) are = all_on pid past are
all_on pid (Other n packet ∷ past) are =
    rw are.0 (ap (λ (ps : List (List ℕ)). packet ∷ ps) (all_on pid past are.1))

after_by : (pid : ℕ) (past : List Heard) (stretch : Stretch) (part : EcmPart) (message : Option Message) →
    AreOn pid stretch.after → AreOn pid (stretch_after past stretch (Controls part) message).after
after_by pid past stretch part None are = are
after_by pid past stretch part (Some message) are = tt

pub after_on : (pid : ℕ) (past : List Heard) → AreOn pid past → AreOn pid (newest_message past).after
unfolding newest_message
after_on pid [] are = are
after_on pid (Dropped ∷ past) are = after_on pid past are
after_on pid (Entitles emm ∷ past) are = after_on pid past are
after_on pid (Controls part ∷ past) are =
    after_by pid past (newest_message past) part (completed (newest_message past) (Controls part))
    (after_on pid past are)
after_on pid (BadEmm fault ∷ past) are = after_on pid past are
after_on pid (BadEcm fault ∷ past) are = after_on pid past are
after_on pid (Other n packet ∷ past) are = (are.0, after_on pid past are.1)
