-- What comes of the same things heard k packets later.
use Rattle.std.proofs.Common.{◌≡◌, refl, ℕ, ◌+◌, ◌-◌, ◌==◌, ◌&&◌, ◌||◌, ◌++◌, Bool, true, false, List, [], ◌∷◌, map}
use Rattle.std.proofs.Common.{reverse, length, Option, Some, None, is_none, ap, ◌∙◌}
use Rattle.std.specs.Prelude.{if◌then◌else◌, nat_le, nat_lt, option_map, bytes_eq, find, Result, Ok, Err}
use Rattle.std.specs.Option.{option_map_or}
use Rattle.std.proofs.lemmas.List.{length-map}
use Rattle.sd_packet.specs.Header.{pid_of, scrambling_of}
use Rattle.sd_tree_keys.specs.Keys.{check_value_of}
use Rattle.sd_cipher.specs.Wrapping.{wrapped as under}
use Rattle.sd_site_cards.specs.CardFields.{CardFields}
use Rattle.sd_cipher.specs.Scrambling.{descrambled}
use Rattle.sd_message.specs.declared.emm.Emm.{Emm}
use Rattle.sd_message.specs.declared.emm_fault.EmmFault.TheVariants as Emms
use Rattle.sd_message.specs.EcmParts.{Message}
use Rattle.sd_message.specs.declared.ecm_part.EcmPart.{EcmPart}
use Rattle.sd_message.specs.declared.ecm_fault.EcmFault.{EcmFault}
use Rattle.sd_message.specs.declared.ecm_fault.EcmFault.TheVariants.{Back}
use Rattle.sd_spec.specs.declared.ending.Ending.{Ending}
use Rattle.sd_spec.specs.declared.ending.Ending.TheVariants.{Unclosed}
use Rattle.sd_message.specs.declared.stream_fault.StreamFault.{StreamFault}
use Rattle.sd_message.specs.declared.stream_fault.StreamFault.TheVariants as Fault
use Rattle.sd_psi.specs.declared.our_cat.Tuning.{Tuning}
use Rattle.sd_spec.specs.Heard.{Heard, Dropped, Entitles, Controls, BadEmm, BadEcm, Other}
use Rattle.sd_spec.specs.Stretches.{Stretch, newest_message, message_parts_to, completes, is_closed, current}
use Rattle.sd_spec.specs.Stretches.{sections_seen, held_in}
use Rattle.sd_spec.specs.Runs.{of_run}
use Rattle.sd_spec.specs.Keys.{key_from, key_in, key_at}
use Rattle.sd_spec.specs.Confirmed.{Segment, WrittenPackets, unmarked, is_foreign, is_confirmed, tracked, judged_packet}
use Rattle.sd_spec.specs.Confirmed.{then_segment_output}
use Rattle.sd_spec.specs.Confirmed.{written_from}
use Rattle.sd_spec.specs.Offered.{most_held, heard_more, Offering, no_offering, refused_offering, is_mixed}
use Rattle.sd_spec.specs.Offered.{key_offering}
use Rattle.sd_spec.specs.Offered.{key_if_none, emm_offering, part_fault, is_before, is_back, segment_wrote}
use Rattle.sd_spec.specs.Offered.{stretch_wrote, word_fault, wrote_or, message_offering, part_offering}
use Rattle.sd_spec.specs.Offered.{heard_offering}
use Rattle.sd_spec.specs.Ending.{periods_told, is_unkeyed, are_all, is_all_seen, ending_with, closed_ending}
use Rattle.sd_spec.specs.Ending.{run_ending}
use Rattle.sd_law_losses.specs.Together.{fault_later}
use Rattle.sd_law_losses.proofs.NextLater.{thing_later, things_later, stretch_later, packet_later, run_later}
use Rattle.sd_law_losses.proofs.NextLater.{newest_later}
use Rattle.sd_law_losses.proofs.NextLater.{run_to_later, completes_later, messages_later, closed_later, current_later}
use Rattle.sd_law_losses.proofs.NextLater.{seen_later}
use Rattle.sd_law_losses.proofs.NextLater.{key_later, held_later}

-- a packet between two messages
abbrev pub refused_later : ℕ → Result (List (List ℕ)) ℕ → Result (List (List ℕ)) ℕ
refused_later k (Ok packets) = Ok packets
refused_later k (Err n) = Err (k + n)

abbrev pub judged_of : ℕ → Bool → Bool → Bool → List (List ℕ) → List (List ℕ) → Result (List (List ℕ)) ℕ
judged_of n a b c clear opened = if a then Ok clear else if b then Err n else if c then Ok opened else Ok []

judged_by_tests : (k n : ℕ) (a b c : Bool) (clear opened : List (List ℕ)) →
    judged_of (k + n) a b c clear opened ≡ refused_later k (judged_of n a b c clear opened)
judged_by_tests k n true b c clear opened = refl
judged_by_tests k n false true c clear opened = refl
judged_by_tests k n false false true clear opened = refl
judged_by_tests k n false false false clear opened = refl

judged_later : (k : ℕ) (segment : Segment) (before : List (List ℕ)) (held : ℕ × List ℕ) →
    judged_packet segment before (packet_later k held) ≡ refused_later k (judged_packet segment before held)
unfolding judged_packet
judged_later k segment before held =
    judged_by_tests k held.0 (scrambling_of held.1 == 0) (is_foreign segment held.1) (is_confirmed segment (pid_of
    held.1))
    (unmarked segment held.1 ∷ [])
    (descrambled held.1 segment.word (tracked segment.first (pid_of held.1) (before ++ held.1 ∷ [])) ∷ [])

abbrev pub wrote_later : ℕ → WrittenPackets → WrittenPackets
wrote_later k wrote = record { packets = wrote.packets; refused = option_map (λ n. k + n) wrote.refused }

then_later : (k : ℕ) (result : Result (List (List ℕ)) ℕ) (rest : WrittenPackets) →
    then_segment_output (refused_later k result) (wrote_later k rest) ≡ wrote_later k (then_segment_output result rest)
then_later k (Ok packets) rest = refl
then_later k (Err n) rest = refl

written_later : (k : ℕ) (segment : Segment) (before : List (List ℕ)) (held : List (ℕ × List ℕ)) →
    written_from segment before (map (packet_later k) held) ≡ wrote_later k (written_from segment before held)
unfolding written_from
written_later k segment before [] = refl
written_later k segment before (one ∷ held) =
    ap (λ (result : Result (List (List ℕ)) ℕ). then_segment_output result
    (written_from segment (before ++ one.1 ∷ []) (map (packet_later k) held))) (judged_later k segment before one)
    ∙ (ap (then_segment_output (refused_later k (judged_packet segment before one)))
    (written_later k segment (before ++ one.1 ∷ []) held)
    ∙ then_later k (judged_packet segment before one) (written_from segment (before ++ one.1 ∷ []) held))

abbrev pub packets_in : List (ℕ × List ℕ) → List (List ℕ)
packets_in held = map (λ one. one.1) held

packets_same : (k : ℕ) (held : List (ℕ × List ℕ)) → packets_in (map (packet_later k) held) ≡ packets_in held
packets_same k [] = refl
packets_same k (one ∷ held) = ap (λ (packets : List (List ℕ)). one.1 ∷ packets) (packets_same k held)

-- between two messages
abbrev pub none_wrote : WrittenPackets
none_wrote = record { packets = []; refused = None }

abbrev pub segment_of : CardFields → Tuning → Message → Message → List ℕ → List (List ℕ) → Segment
segment_of card tuning a b key packets = record {
  first = a;
  last = b;
  word = under key a.word a.wrapped;
  ca = card.ca;
  ecm = tuning.ecm;
  packets = packets;
}

abbrev pub wrote_of : CardFields → Tuning → Message → Message → List ℕ → List (ℕ × List ℕ) → WrittenPackets
wrote_of card tuning a b key held =
    if nat_lt most_held (length held) then none_wrote
    else written_from (segment_of card tuning a b key (packets_in held)) [] held

unless_later : (k : ℕ) (test : Bool) (wrote : WrittenPackets) →
    (if test then none_wrote else wrote_later k wrote) ≡ wrote_later k (if test then none_wrote else wrote)
unless_later k true wrote = refl
unless_later k false wrote = refl

if_later : (k : ℕ) (test : Bool) (wrote : WrittenPackets) →
    (if test then wrote_later k wrote else none_wrote) ≡ wrote_later k (if test then wrote else none_wrote)
if_later k true wrote = refl
if_later k false wrote = refl

wrote_of_later : (k : ℕ) (card : CardFields) (tuning : Tuning) (a b : Message) (key : List ℕ)
    (held : List (ℕ × List ℕ)) →
    wrote_of card tuning a b key (map (packet_later k) held) ≡ wrote_later k (wrote_of card tuning a b key held)
wrote_of_later k card tuning a b key held =
    let later : List (ℕ × List ℕ) = map (packet_later k) held in
    ap (λ (n : ℕ). if nat_lt most_held n then none_wrote
    else written_from (segment_of card tuning a b key (packets_in later)) [] later) (length-map held (packet_later k))
    ∙ (ap (λ (packets : List (List ℕ)). if nat_lt most_held (length held) then none_wrote
    else written_from (segment_of card tuning a b key packets) [] later) (packets_same k held)
    ∙ (ap (λ (wrote : WrittenPackets). if nat_lt most_held (length held) then none_wrote else wrote)
    (written_later k (segment_of card tuning a b key (packets_in held)) [] held)
    ∙ unless_later k (nat_lt most_held (length held))
    (written_from (segment_of card tuning a b key (packets_in held)) [] held)))

segment_later : (k : ℕ) (card : CardFields) (tuning : Tuning) (stretch : Stretch) (a b : Message)
    (key : Option (List ℕ)) →
    segment_wrote card tuning (stretch_later k stretch) a b key
    ≡ wrote_later k (segment_wrote card tuning stretch a b key)
segment_later k card tuning stretch a b None = refl
segment_later k card tuning stretch a b (Some key) =
    ap (wrote_of card tuning a b key) (held_later k stretch)
    ∙ wrote_of_later k card tuning a b key (held_in stretch)

stretch_wrote_later : (k : ℕ) (card : CardFields) (tuning : Tuning) (stretch : Stretch) (message : Option Message)
    (b : Message) →
    stretch_wrote card tuning (stretch_later k stretch) message b
    ≡ wrote_later k (stretch_wrote card tuning stretch message b)
stretch_wrote_later k card tuning stretch None b = refl
stretch_wrote_later k card tuning stretch (Some a) b =
    ap (λ (key : Option (List ℕ)). if nat_le b.since a.number
    then segment_wrote card tuning (stretch_later k stretch) a b key else none_wrote)
    (key_later k a.period card stretch.before)
    ∙ (ap (λ (wrote : WrittenPackets). if nat_le b.since a.number then wrote else none_wrote)
    (segment_later k card tuning stretch a b (key_at card stretch.before a.period))
    ∙ if_later k (nat_le b.since a.number)
    (segment_wrote card tuning stretch a b (key_at card stretch.before a.period)))

-- what an offered packet comes to
abbrev pub offering_later : ℕ → Offering → Offering
offering_later k offering =
    record { wrote = offering.wrote; fault = option_map (fault_later k) offering.fault }

parity_later : (k : ℕ) (refused : Option ℕ) (fault : Option StreamFault) →
    option_map_or (λ (n : ℕ). Some (Fault.Parity n)) (option_map (λ (n : ℕ). k + n) refused)
    (option_map (fault_later k) fault)
    ≡ option_map (fault_later k) (option_map_or (λ (n : ℕ). Some (Fault.Parity n)) refused fault)
parity_later k None fault = refl
parity_later k (Some n) fault = refl

wrote_or_later : (k : ℕ) (wrote : WrittenPackets) (fault : Option StreamFault) →
    wrote_or (wrote_later k wrote) (option_map (fault_later k) fault) ≡ offering_later k (wrote_or wrote fault)
wrote_or_later k wrote fault =
    ap {B = Offering} (λ (f : Option StreamFault). record { wrote = wrote.packets; fault = f })
    (parity_later k wrote.refused fault)

fault_by_test : (k : ℕ) (test : Bool) (fault : StreamFault) →
    (if test then None else Some (fault_later k fault))
    ≡ option_map (fault_later k) (if test then None else Some fault)
fault_by_test k true fault = refl
fault_by_test k false fault = refl

word_later : (k n : ℕ) (b : Message) (key : Option (List ℕ)) →
    word_fault (k + n) b key ≡ option_map (fault_later k) (word_fault n b key)
word_later k n b None = refl
word_later k n b (Some key) =
    fault_by_test k (bytes_eq (check_value_of (under key b.word b.wrapped)) b.check)
    (Fault.WrongWord n b.word (check_value_of (under key b.word b.wrapped)) b.check)

-- sections of entitlements
nothing_or : (k : ℕ) (test : Bool) (offering : Offering) →
    (if test then no_offering else offering_later k offering) ≡ offering_later k
    (if test then no_offering else offering)
nothing_or k true offering = refl
nothing_or k false offering = refl

refuses_or : (k : ℕ) (test : Bool) (fault : StreamFault) (offering : Offering) →
    (if test then refused_offering (fault_later k fault) else offering_later k offering)
    ≡ offering_later k (if test then refused_offering fault else offering)
refuses_or k true fault offering = refl
refuses_or k false fault offering = refl

key_offered : (k n : ℕ) (emm : Emm) (key : Option (List ℕ)) →
    key_offering (k + n) emm key ≡ offering_later k (key_offering n emm key)
key_offered k n emm None = refl
key_offered k n emm (Some key) =
    nothing_or k (bytes_eq (check_value_of key) emm.check)
    (refused_offering (Fault.WrongKey n emm.period (check_value_of key) emm.check))

key_if_later : (k n : ℕ) (emm : Emm) (held found : Option (List ℕ)) →
    key_if_none (k + n) emm held found ≡ offering_later k (key_if_none n emm held found)
key_if_later k n emm None found = key_offered k n emm found
key_if_later k n emm (Some key) found = refl

abbrev pub emm_of : CardFields → ℕ → ℕ → List Emm → Emm → Offering
emm_of card n now sections emm =
    if nat_lt emm.period now then no_offering
    else if is_mixed sections emm then refused_offering (Fault.BadEmm n Emms.Mixed)
    else key_if_none n emm (key_in card sections) (key_from card emm)

emm_of_later : (k n now : ℕ) (card : CardFields) (sections : List Emm) (emm : Emm) →
    emm_of card (k + n) now sections emm ≡ offering_later k (emm_of card n now sections emm)
emm_of_later k n now card sections emm =
    ap (λ (offering : Offering). if nat_lt emm.period now then no_offering
    else if is_mixed sections emm then refused_offering (Fault.BadEmm (k + n) Emms.Mixed) else offering)
    (key_if_later k n emm (key_in card sections) (key_from card emm))
    ∙ (ap (λ (offering : Offering). if nat_lt emm.period now then no_offering else offering)
    (refuses_or k (is_mixed sections emm) (Fault.BadEmm n Emms.Mixed)
    (key_if_none n emm (key_in card sections) (key_from card emm)))
    ∙ nothing_or k (nat_lt emm.period now)
    (if is_mixed sections emm then refused_offering (Fault.BadEmm n Emms.Mixed)
    else key_if_none n emm (key_in card sections) (key_from card emm)))

emm_offering_later : (k n : ℕ) (card : CardFields) (past : List Heard) (emm : Emm) →
    emm_offering card (k + n) (things_later k past) emm ≡ offering_later k (emm_offering card n past emm)
unfolding emm_offering
emm_offering_later k n card past emm =
    ap (λ (now : ℕ). emm_of card (k + n) now (sections_seen emm.period (things_later k past)) emm)
    (current_later k past)
    ∙ (ap (λ (sections : List Emm). emm_of card (k + n) (current past) sections emm) (seen_later k emm.period past)
    ∙ emm_of_later k n (current past) card (sections_seen emm.period past) emm)

-- control messages
back_later : (k : ℕ) (past : List Heard) (b : Message) → is_back (things_later k past) b ≡ is_back past b
unfolding is_back
back_later k past b =
    ap (λ (now : ℕ). nat_lt b.period now
    || option_map_or (is_before b) (newest_message (things_later k past)).message false) (current_later k past)
    ∙ ap (λ (stretch : Stretch). nat_lt b.period (current past)
    || option_map_or (is_before b) stretch.message false) (newest_later k past)

message_later : (k n : ℕ) (card : CardFields) (tuning : Tuning) (past : List Heard) (message : Option Message) →
    message_offering card tuning (k + n) (things_later k past) message
    ≡ offering_later k (message_offering card tuning n past message)
message_later k n card tuning past None = refl
message_later k n card tuning past (Some b) =
    let later : List Heard = things_later k past in
    let wrote : WrittenPackets = stretch_wrote card tuning (newest_message past) (newest_message past).message b in
    let fault : Option StreamFault = word_fault n b (key_at card past b.period) in
    ap (λ (back : Bool). if back then refused_offering (Fault.BadEcm (k + n) Back)
    else wrote_or (stretch_wrote card tuning (newest_message later) (newest_message later).message b)
    (word_fault (k + n) b (key_at card later b.period))) (back_later k past b)
    ∙ (ap (λ (stretch : Stretch). if is_back past b then refused_offering (Fault.BadEcm (k + n) Back)
    else wrote_or (stretch_wrote card tuning stretch stretch.message b)
    (word_fault (k + n) b (key_at card later b.period))) (newest_later k past)
    ∙ (ap (λ (w : WrittenPackets). if is_back past b then refused_offering (Fault.BadEcm (k + n) Back)
    else wrote_or w (word_fault (k + n) b (key_at card later b.period)))
    (stretch_wrote_later k card tuning (newest_message past) (newest_message past).message b)
    ∙ (ap (λ (key : Option (List ℕ)). if is_back past b then refused_offering (Fault.BadEcm (k + n) Back)
    else wrote_or (wrote_later k wrote) (word_fault (k + n) b key)) (key_later k b.period card past)
    ∙ (ap (λ (f : Option StreamFault). if is_back past b then refused_offering (Fault.BadEcm (k + n) Back)
    else wrote_or (wrote_later k wrote) f) (word_later k n b (key_at card past b.period))
    ∙ (ap (λ (offering : Offering). if is_back past b then refused_offering (Fault.BadEcm (k + n) Back) else offering)
    (wrote_or_later k wrote fault)
    ∙ refuses_or k (is_back past b) (Fault.BadEcm n Back) (wrote_or wrote fault))))))

part_later : (k n : ℕ) (fault : Option EcmFault) (next : Offering) →
    part_offering (k + n) fault (offering_later k next) ≡ offering_later k (part_offering n fault next)
part_later k n None next = refl
part_later k n (Some fault) next = refl

pub heard_later : (k n : ℕ) (card : CardFields) (tuning : Tuning) (past : List Heard) (thing : Heard) →
    heard_offering card tuning (k + n) (things_later k past) (thing_later k thing)
    ≡ offering_later k (heard_offering card tuning n past thing)
heard_later k n card tuning past Dropped = refl
heard_later k n card tuning past (Entitles emm) = emm_offering_later k n card past emm
heard_later k n card tuning past (Controls part) =
    let later : List Heard = things_later k past in
    ap (λ (stretch : Stretch). part_offering (k + n) (part_fault (message_parts_to stretch part))
    (message_offering card tuning (k + n) later (completes later (Controls part)))) (newest_later k past)
    ∙ (ap (λ (parts : List EcmPart). part_offering (k + n) (part_fault parts)
    (message_offering card tuning (k + n) later (completes later (Controls part))))
    (run_to_later k (newest_message past) part)
    ∙ (ap (λ (message : Option Message). part_offering (k + n)
    (part_fault (message_parts_to (newest_message past) part))
    (message_offering card tuning (k + n) later message)) (completes_later k past (Controls part))
    ∙ (ap (part_offering (k + n) (part_fault (message_parts_to (newest_message past) part)))
    (message_later k n card tuning past (completes past (Controls part)))
    ∙ part_later k n (part_fault (message_parts_to (newest_message past) part))
    (message_offering card tuning n past (completes past (Controls part))))))
heard_later k n card tuning past (BadEmm fault) = refl
heard_later k n card tuning past (BadEcm fault) = refl
heard_later k n card tuning past (Other m packet) = refl

-- what comes of a thing after what was heard of its run
abbrev pub open_offering : CardFields → Tuning → ℕ → List Heard → Heard → Offering
open_offering card tuning n run thing =
    if is_closed run then no_offering else heard_offering card tuning n run thing

pub open_later : (k n : ℕ) (card : CardFields) (tuning : Tuning) (run : List Heard) (thing : Heard) →
    open_offering card tuning (k + n) (things_later k run) (thing_later k thing)
    ≡ offering_later k (open_offering card tuning n run thing)
open_later k n card tuning run thing =
    ap (λ (closed : Bool). if closed then no_offering
    else heard_offering card tuning (k + n) (things_later k run) (thing_later k thing)) (closed_later k run)
    ∙ (ap (λ (offering : Offering). if is_closed run then no_offering else offering)
    (heard_later k n card tuning run thing)
    ∙ nothing_or k (is_closed run) (heard_offering card tuning n run thing))

more_by_test : (k : ℕ) (past run : List Heard) (thing : Heard) (closed : Bool) →
    (if closed then things_later k past else thing_later k thing ∷ things_later k run)
    ≡ things_later k (if closed then past else thing ∷ run)
more_by_test k past run thing true = refl
more_by_test k past run thing false = refl

pub more_later : (k : ℕ) (past : List Heard) (thing : Heard) →
    heard_more (things_later k past) (thing_later k thing) ≡ things_later k (heard_more past thing)
more_later k past thing =
    ap (λ (run : List Heard). if is_closed run then things_later k past else thing_later k thing ∷ run)
    (run_later k past thing)
    ∙ (ap (λ (closed : Bool). if closed then things_later k past
    else thing_later k thing ∷ things_later k (of_run past thing)) (closed_later k (of_run past thing))
    ∙ more_by_test k past (of_run past thing) thing (is_closed (of_run past thing)))

-- how a run ends
pub find_same : {X : Type 0} (f g : X → Bool) (same : (x : X) → f x ≡ g x) (xs : List X) → find f xs ≡ find g xs
find_same {X = X} f g same [] = refl
find_same {X = X} f g same (x ∷ xs) =
    ap {B = Option X} (λ (test : Bool). if test then Some x else find f xs) (same x)
    ∙ ap (λ (found : Option X). if g x then Some x else found) (find_same f g same xs)

periods_later : (k : ℕ) (past : List Heard) → periods_told (things_later k past) ≡ periods_told past
unfolding periods_told
periods_later k past =
    ap {B = List ℕ} (λ (ms : List Message). reverse (map (λ (m : Message). m.period) ms)) (messages_later k past)

unkeyed_later : (k : ℕ) (card : CardFields) (past : List Heard) (q : ℕ) →
    is_unkeyed card (things_later k past) q ≡ is_unkeyed card past q
unkeyed_later k card past q =
    ap {B = Bool} (λ (key : Option (List ℕ)). is_none key) (key_later k q card past)

all_seen_later : (k : ℕ) (past : List Heard) (q : ℕ) → is_all_seen (things_later k past) q ≡ is_all_seen past q
all_seen_later k past q = ap are_all (seen_later k q past)

revoked_later : (k : ℕ) (card : CardFields) (past : List Heard) (q : ℕ) →
    (is_unkeyed card (things_later k past) q && is_all_seen (things_later k past) q)
    ≡ (is_unkeyed card past q && is_all_seen past q)
revoked_later k card past q =
    ap (λ (b : Bool). b && is_all_seen (things_later k past) q) (unkeyed_later k card past q)
    ∙ ap (λ (b : Bool). is_unkeyed card past q && b) (all_seen_later k past q)

abbrev pub closed_with : Option ℕ → Option ℕ → Stretch → ℕ → Ending
closed_with revoked unheard stretch written =
    ending_with revoked unheard (option_map_or (λ message. message.clear) stretch.message 0 - written)

closed_ending_later : (k written : ℕ) (card : CardFields) (past : List Heard) →
    closed_ending card (things_later k past) written ≡ closed_ending card past written
closed_ending_later k written card past =
    let later : List Heard = things_later k past in
    ap (λ (told : List ℕ). closed_with (find (λ q. is_unkeyed card later q && is_all_seen later q) told)
    (find (is_unkeyed card later) told) (newest_message later) written) (periods_later k past)
    ∙ (ap (λ (revoked : Option ℕ). closed_with revoked (find (is_unkeyed card later) (periods_told past))
    (newest_message later) written)
    (find_same (λ q. is_unkeyed card later q && is_all_seen later q) (λ q. is_unkeyed card past q && is_all_seen past q)
    (revoked_later k card past) (periods_told past))
    ∙ (ap (λ (unheard : Option ℕ). closed_with
    (find (λ q. is_unkeyed card past q && is_all_seen past q) (periods_told past)) unheard (newest_message later)
    written)
    (find_same (is_unkeyed card later) (is_unkeyed card past) (unkeyed_later k card past) (periods_told past))
    ∙ ap (λ (stretch : Stretch). closed_with
    (find (λ q. is_unkeyed card past q && is_all_seen past q) (periods_told past))
    (find (is_unkeyed card past) (periods_told past)) stretch written) (newest_later k past)))

pub ending_later : (k written : ℕ) (card : CardFields) (past : List Heard) →
    run_ending card (things_later k past) written ≡ run_ending card past written
unfolding run_ending
ending_later k written card past =
    let later : List Heard = things_later k past in
    ap (λ (closed : Bool). if closed then closed_ending card later written
    else Unclosed (option_map_or (λ (m : Message). m.number + 1) (newest_message later).message 0))
    (closed_later k past)
    ∙ (ap (λ (ending : Ending). if is_closed past then ending
    else Unclosed (option_map_or (λ (m : Message). m.number + 1) (newest_message later).message 0))
    (closed_ending_later k written card past)
    ∙ ap (λ (stretch : Stretch). if is_closed past then closed_ending card past written
    else Unclosed (option_map_or (λ (m : Message). m.number + 1) stretch.message 0)) (newest_later k past))
