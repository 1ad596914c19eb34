-- What a packet makes a receiver write of one PID, if the receiver heard messages and that PID alone.
use Rattle.std.proofs.Common.{◌≡◌, refl, ℕ, ◌==◌, ◌≤◌, ◌||◌, ◌++◌, Bool, true, false, List, [], ◌∷◌}
use Rattle.std.proofs.Common.{length, reverse, Option, Some, None, is_none, ap, sym, subst, ◌∙◌, arith, append-nil}
use Rattle.std.specs.Prelude.{if◌then◌else◌, filter, nat_le, nat_lt, bytes_eq}
use Rattle.std.specs.List.{list_any}
use Rattle.std.specs.Option.{option_map_or}
use Rattle.std.proofs.lemmas.Bool.Decides.{nat_tests}
use Rattle.std.proofs.lemmas.List.{reverse-append, map-append, length-map}
use Rattle.std.proofs.lemmas.List.Elements.{filter-append}
use Rattle.sd_base.proofs.Bools.{tested}
use Rattle.sd_packet.specs.Header.{pid_of}
use Rattle.sd_tree_keys.specs.Keys.{check_value_of}
use Rattle.sd_cipher.specs.Wrapping.{wrapped as under}
use Rattle.sd_site_cards.specs.CardFields.{CardFields}
use Rattle.sd_message.specs.declared.emm.Emm.{Emm}
use Rattle.sd_message.specs.declared.emm_fault.EmmFault.TheVariants as Emms
use Rattle.sd_message.specs.EcmParts.{Message}
use Rattle.sd_message.specs.declared.ecm_part.EcmPart.{EcmPart}
use Rattle.sd_message.specs.declared.ecm_fault.EcmFault.{EcmFault}
use Rattle.sd_message.specs.declared.ecm_fault.EcmFault.TheVariants.{Back}
use Rattle.sd_message.specs.declared.stream_fault.StreamFault.{StreamFault}
use Rattle.sd_message.specs.declared.stream_fault.StreamFault.TheVariants as Fault
use Rattle.sd_psi.specs.declared.our_cat.Tuning.{Tuning}
use Rattle.sd_spec.specs.Heard.{Heard, Dropped, Entitles, Controls, BadEmm, BadEcm, Other}
use Rattle.sd_spec.specs.Stretches.{Stretch, newest_message, message_parts_to, completes, current, sections_seen}
use Rattle.sd_spec.specs.Stretches.{others, held_in}
use Rattle.sd_spec.specs.Keys.{key_from, key_in, key_at}
use Rattle.sd_spec.specs.Confirmed.{Segment, WrittenPackets, written_from}
use Rattle.sd_spec.specs.Offered.{most_held, Offering, no_offering, refused_offering, is_mixed}
use Rattle.sd_spec.specs.Offered.{key_if_none, emm_offering, part_fault, is_before, is_back, segment_wrote}
use Rattle.sd_spec.specs.Offered.{stretch_wrote, word_fault, wrote_or, message_offering, part_offering}
use Rattle.sd_spec.specs.Offered.{heard_offering}
use Rattle.sd_law_contained.specs.Alone.{few_held}
use Rattle.sd_law_contained.proofs.Thinned.{thinned, stretch_thinned, same_by, newest_thinned, run_thinned}
use Rattle.sd_law_contained.proofs.Thinned.{message_thinned, current_thinned}
use Rattle.sd_law_contained.proofs.Thinned.{seen_thinned, key_thinned, packets_heard, packets_thinned, AreOn, all_on}
use Rattle.sd_law_contained.proofs.Thinned.{after_on}
use Rattle.sd_law_contained.proofs.Written.{those_on, segment_on, packets_in, is_wrong, all_written, none_wrong}
use Rattle.sd_law_contained.proofs.Written.{all_told}
use Rattle.sd_law_contained.proofs.Written.{none_wrong_on, all_on_pid}

-- the second of two offerings, if the first isn't refused: it isn't refused, and writes what the first writes of one
-- PID
abbrev pub Follows : ℕ → Offering → Offering → Type 0
Follows pid whole alone = whole.fault ≡ None → (alone.fault ≡ None) × (alone.wrote ≡ those_on pid whole.wrote)

-- a thing that is heard of packet n
abbrev pub numbered : ℕ → Heard → Heard
numbered n Dropped = Dropped
numbered n (Entitles emm) = Entitles emm
numbered n (Controls part) = Controls part
numbered n (BadEmm fault) = BadEmm fault
numbered n (BadEcm fault) = BadEcm fault
numbered n (Other k packet) = Other n packet

-- packets are reversed
mapped_back : (held : List (ℕ × List ℕ)) → packets_in (reverse held) ≡ reverse (packets_in held)
mapped_back [] = refl
mapped_back (one ∷ held) =
    ap packets_in (reverse-append (one ∷ []) held)
    ∙ (map-append (λ one. one.1) (reverse held) (one ∷ [])
    ∙ (ap (λ (ps : List (List ℕ)). ps ++ one.1 ∷ []) (mapped_back held)
    ∙ sym (reverse-append (one.1 ∷ []) (packets_in held))))

one_back : (test : Bool) (packet : List ℕ) (packets : List (List ℕ)) →
    reverse packets ++ (if test then packet ∷ [] else []) ≡ reverse (if test then packet ∷ packets else packets)
one_back true packet packets = sym (reverse-append (packet ∷ []) packets)
one_back false packet packets = append-nil (reverse packets)

filtered_back : (test : List ℕ → Bool) (packets : List (List ℕ)) →
    filter test (reverse packets) ≡ reverse (filter test packets)
filtered_back test [] = refl
filtered_back test (packet ∷ packets) =
    ap (filter test) (reverse-append (packet ∷ []) packets)
    ∙ (filter-append test (reverse packets) (packet ∷ [])
    ∙ (ap (λ (ps : List (List ℕ)). ps ++ filter test (packet ∷ [])) (filtered_back test packets)
    ∙ one_back (test packet) packet (filter test packets)))

-- the packets that are buffered are those of the PID
pub held_on : (pid : ℕ) (past alone : List Heard) → thinned pid alone ≡ thinned pid past → AreOn pid alone →
    packets_in (held_in (newest_message alone)) ≡ those_on pid (packets_in (held_in (newest_message past)))
held_on pid past alone same are =
    let stretches : stretch_thinned pid (newest_message alone) ≡ stretch_thinned pid (newest_message past) =
    sym (newest_thinned pid alone) ∙ (ap newest_message same ∙ newest_thinned pid past) in
    let after : thinned pid (newest_message alone).after ≡ thinned pid (newest_message past).after =
    ap (λ (stretch : Stretch). stretch.after) stretches in
    let packets : packets_heard (newest_message alone).after ≡ those_on pid (packets_heard (newest_message past).after)
    =
    sym (all_on pid (newest_message alone).after (after_on pid alone are))
    ∙ (sym (packets_thinned pid (newest_message alone).after)
    ∙ (ap packets_heard after ∙ packets_thinned pid (newest_message past).after)) in
    mapped_back (others (newest_message alone).after)
    ∙ (ap reverse packets
    ∙ (sym (filtered_back (λ packet. pid_of packet == pid) (packets_heard (newest_message past).after))
    ∙ ap (those_on pid) (sym (mapped_back (others (newest_message past).after)))))

-- there are no more of them
fewer_on : (pid : ℕ) (packets : List (List ℕ)) → length (those_on pid packets) ≤ length packets
fewer_on pid [] = omega arith
fewer_on pid (packet ∷ packets) =
    let rest = fewer_on pid packets in
    tested (pid_of packet == pid)
    (λ here. rw here (omega (arith, rest)))
    (λ off. rw off (omega (arith, rest)))

fewer_held : (pid : ℕ) (past alone : List Heard) → thinned pid alone ≡ thinned pid past → AreOn pid alone →
    length (held_in (newest_message alone)) ≤ length (held_in (newest_message past))
fewer_held pid past alone same are =
    let here = ap (λ (ps : List (List ℕ)). length ps) (held_on pid past alone same are) in
    let few = fewer_on pid (packets_in (held_in (newest_message past))) in
    let one = length-map (held_in (newest_message alone)) (λ one. one.1) in
    let two = length-map (held_in (newest_message past)) (λ one. one.1) in
    omega (arith, here, few, one, two)

-- the same of what is written between two messages
abbrev WritesOn : ℕ → WrittenPackets → WrittenPackets → Type 0
WritesOn pid whole alone =
    whole.refused ≡ None → (alone.refused ≡ None) × (alone.packets ≡ those_on pid whole.packets)

abbrev segment_of : CardFields → Tuning → Message → Message → List ℕ → List (List ℕ) → Segment
segment_of card tuning a b key packets = record {
  first = a;
  last = b;
  word = under key a.word a.wrapped;
  ca = card.ca;
  ecm = tuning.ecm;
  packets = packets;
}

writing_on : (pid : ℕ) (card : CardFields) (tuning : Tuning) (a b : Message) (key : List ℕ)
    (whole held : List (ℕ × List ℕ)) → packets_in held ≡ those_on pid (packets_in whole) →
    WritesOn pid (written_from (segment_of card tuning a b key (packets_in whole)) [] whole)
    (written_from (segment_of card tuning a b key (packets_in held)) [] held)
writing_on pid card tuning a b key whole held same calm =
    let segment : Segment = segment_of card tuning a b key (packets_in whole) in
    let right = none_wrong segment [] whole calm in
    let all = all_told segment [] whole right in
    let here : list_any (is_wrong (segment_on pid segment)) (packets_in held) ≡ false =
    ap (list_any (is_wrong segment)) same ∙ none_wrong_on pid segment (packets_in whole) right in
    let is : segment_of card tuning a b key (packets_in held) ≡ segment_on pid segment =
    ap (segment_of card tuning a b key) same in
    let some : written_from (segment_of card tuning a b key (packets_in held)) [] held
    ≡ record { packets = those_on pid (all_written segment [] (packets_in whole)); refused = None } =
    ap (λ (s : Segment). written_from s [] held) is
    ∙ (all_told (segment_on pid segment) [] held here
    ∙ ap {B = WrittenPackets} (λ (ps : List (List ℕ)). record { packets = ps; refused = None })
    (ap (all_written (segment_on pid segment) []) same ∙ all_on_pid pid segment [] (packets_in whole))) in (
      ap (λ (wrote : WrittenPackets). wrote.refused) some,
      ap (λ (wrote : WrittenPackets). wrote.packets) some
          ∙ ap (λ (wrote : WrittenPackets). those_on pid wrote.packets) (sym all),
    )

few_enough : (n : ℕ) → nat_le n 4096 ≡ true → nat_lt most_held n ≡ false
few_enough n few = grind (arith, nat_tests, few)

fewer_enough : (m n : ℕ) → m ≤ n → nat_le n 4096 ≡ true → nat_lt most_held m ≡ false
fewer_enough m n fewer few = grind (arith, nat_tests, few, fewer)

-- if few packets are buffered
unless_many : (pid : ℕ) (many most : Bool) (whole alone : WrittenPackets) → many ≡ false → most ≡ false →
    WritesOn pid whole alone →
    WritesOn pid (if many then record { packets = []; refused = None } else whole)
    (if most then record { packets = []; refused = None } else alone)
unless_many pid many most whole alone e f on = rw (e, f) on

segment_follows : (pid : ℕ) (card : CardFields) (tuning : Tuning) (past alone : List Heard) (a b : Message)
    (key : Option (List ℕ)) → thinned pid alone ≡ thinned pid past → AreOn pid alone →
    nat_le (length (held_in (newest_message past))) 4096 ≡ true →
    WritesOn pid (segment_wrote card tuning (newest_message past) a b key)
    (segment_wrote card tuning (newest_message alone) a b key)
segment_follows pid card tuning past alone a b None same are few = λ calm. (refl, refl)
segment_follows pid card tuning past alone a b (Some key) same are few =
    unless_many pid (nat_lt most_held (length (held_in (newest_message past))))
    (nat_lt most_held (length (held_in (newest_message alone))))
    (written_from (segment_of card tuning a b key (packets_in (held_in (newest_message past)))) []
    (held_in (newest_message past)))
    (written_from (segment_of card tuning a b key (packets_in (held_in (newest_message alone)))) []
    (held_in (newest_message alone)))
    (few_enough (length (held_in (newest_message past))) few)
    (fewer_enough (length (held_in (newest_message alone))) (length (held_in (newest_message past)))
    (fewer_held pid past alone same are) few)
    (writing_on pid card tuning a b key (held_in (newest_message past)) (held_in (newest_message alone))
    (held_on pid past alone same are))

-- between the newest message and the next one
if_open : (pid : ℕ) (near : Bool) (whole alone : WrittenPackets) → WritesOn pid whole alone →
    WritesOn pid (if near then whole else record { packets = []; refused = None })
    (if near then alone else record { packets = []; refused = None })
if_open pid true whole alone on = on
if_open pid false whole alone on = λ calm. (refl, refl)

stretch_by : (pid : ℕ) (card : CardFields) (tuning : Tuning) (past alone : List Heard) (message : Option Message)
    (b : Message) → thinned pid alone ≡ thinned pid past → AreOn pid alone →
    (is_none message || nat_le (length (held_in (newest_message past))) 4096) ≡ true →
    WritesOn pid (stretch_wrote card tuning (newest_message past) message b)
    (stretch_wrote card tuning (newest_message alone) message b)
stretch_by pid card tuning past alone None b same are few = λ calm. (refl, refl)
stretch_by pid card tuning past alone (Some a) b same are few =
    let stretches : stretch_thinned pid (newest_message alone) ≡ stretch_thinned pid (newest_message past) =
    sym (newest_thinned pid alone) ∙ (ap newest_message same ∙ newest_thinned pid past) in
    let before : thinned pid (newest_message alone).before ≡ thinned pid (newest_message past).before =
    ap (λ (stretch : Stretch). stretch.before) stretches in
    let key : key_at card (newest_message alone).before a.period ≡ key_at card (newest_message past).before a.period =
    same_by (λ (hs : List Heard). key_at card hs a.period) pid (newest_message alone).before
    (newest_message past).before
    (key_thinned pid a.period card) before in
    if_open pid (nat_le b.since a.number)
    (segment_wrote card tuning (newest_message past) a b (key_at card (newest_message past).before a.period))
    (segment_wrote card tuning (newest_message alone) a b (key_at card (newest_message alone).before a.period))
    (rw key (segment_follows pid card tuning past alone a b (key_at card (newest_message past).before a.period) same
    are few))

stretch_follows : (pid : ℕ) (card : CardFields) (tuning : Tuning) (past alone : List Heard) (b : Message) →
    thinned pid alone ≡ thinned pid past → AreOn pid alone → few_held past ≡ true →
    WritesOn pid (stretch_wrote card tuning (newest_message past) (newest_message past).message b)
    (stretch_wrote card tuning (newest_message alone) (newest_message alone).message b)
stretch_follows pid card tuning past alone b same are few =
    let message : (newest_message alone).message ≡ (newest_message past).message =
    same_by (λ (hs : List Heard). (newest_message hs).message) pid alone past (message_thinned pid) same in
    rw message (stretch_by pid card tuning past alone (newest_message past).message b same are few)

-- a complete message
word_follows : (n m : ℕ) (b : Message) (key : Option (List ℕ)) → word_fault n b key ≡ None → word_fault m b key ≡ None
word_follows n m b None calm = refl
word_follows n m b (Some key) calm = by_check (bytes_eq (check_value_of (under key b.word b.wrapped)) b.check) calm
  where
    by_check : (right : Bool) →
        (if right then None else Some (Fault.WrongWord n b.word (check_value_of (under key b.word b.wrapped)) b.check))
        ≡ None →
        (if right then None else Some (Fault.WrongWord m b.word (check_value_of (under key b.word b.wrapped)) b.check))
        ≡ None
    by_check true calm = refl
    by_check false calm = absurd (cc)

none_refused : (refused : Option ℕ) (fault : Option StreamFault) →
    option_map_or (λ (n : ℕ). Some (Fault.Parity n)) refused fault ≡ None → (refused ≡ None) × (fault ≡ None)
none_refused None fault calm = (refl, calm)
none_refused (Some n) fault calm = absurd (cc)

wrote_follows : (pid : ℕ) (whole alone : WrittenPackets) (fault other : Option StreamFault) → WritesOn pid whole alone →
    (fault ≡ None → other ≡ None) → Follows pid (wrote_or whole fault) (wrote_or alone other)
wrote_follows pid whole alone fault other on calm none =
    let parts = none_refused whole.refused fault none in
    let both = on parts.0 in
    (rw (both.0) (calm parts.1), both.1)

back_follows : (pid : ℕ) (back : Bool) (fault other : StreamFault) (whole alone : Offering) →
    Follows pid whole alone →
    Follows pid (if back then refused_offering fault else whole) (if back then refused_offering other else alone)
back_follows pid true fault other whole alone follows = λ calm. absurd (cc)
back_follows pid false fault other whole alone follows = follows

message_follows : (pid n m : ℕ) (card : CardFields) (tuning : Tuning) (past alone : List Heard)
    (message : Option Message) → thinned pid alone ≡ thinned pid past → AreOn pid alone → few_held past ≡ true →
    Follows pid (message_offering card tuning n past message) (message_offering card tuning m alone message)
unfolding is_back
message_follows pid n m card tuning past alone None same are few = λ calm. (refl, refl)
message_follows pid n m card tuning past alone (Some b) same are few =
    let now : current alone ≡ current past = same_by current pid alone past (current_thinned pid) same in
    let message : (newest_message alone).message ≡ (newest_message past).message =
    same_by (λ (hs : List Heard). (newest_message hs).message) pid alone past (message_thinned pid) same in
    let back : is_back alone b ≡ is_back past b =
    ap (λ (q : ℕ). nat_lt b.period q || option_map_or (is_before b) (newest_message alone).message false) now
    ∙ ap (λ (message : Option Message). nat_lt b.period (current past)
    || option_map_or (is_before b) message false) message in
    let key : key_at card alone b.period ≡ key_at card past b.period =
    same_by (λ (hs : List Heard). key_at card hs b.period) pid alone past (key_thinned pid b.period card) same in
    let wrote : WrittenPackets = stretch_wrote card tuning (newest_message past) (newest_message past).message b in
    let less : WrittenPackets = stretch_wrote card tuning (newest_message alone) (newest_message alone).message b in
    subst (λ (test : Bool). Follows pid (message_offering card tuning n past (Some b))
    (if test then refused_offering (Fault.BadEcm m Back) else wrote_or less
    (word_fault m b (key_at card alone b.period))))
    (sym back)
    (back_follows pid (is_back past b) (Fault.BadEcm n Back) (Fault.BadEcm m Back)
    (wrote_or wrote (word_fault n b (key_at card past b.period)))
    (wrote_or less (word_fault m b (key_at card alone b.period)))
    (wrote_follows pid wrote less (word_fault n b (key_at card past b.period))
    (word_fault m b (key_at card alone b.period)) (stretch_follows pid card tuning past alone b same are few)
    (λ calm. ap (word_fault m b) key ∙ word_follows n m b (key_at card past b.period) calm)))

-- a part of one
part_follows : (pid n m : ℕ) (fault : Option EcmFault) (whole alone : Offering) → Follows pid whole alone →
    Follows pid (part_offering n fault whole) (part_offering m fault alone)
part_follows pid n m None whole alone follows = follows
part_follows pid n m (Some fault) whole alone follows = λ calm. absurd (cc)

control_follows : (pid n m : ℕ) (card : CardFields) (tuning : Tuning) (past alone : List Heard) (part : EcmPart) →
    thinned pid alone ≡ thinned pid past → AreOn pid alone → few_held past ≡ true →
    Follows pid (heard_offering card tuning n past (Controls part))
    (heard_offering card tuning m alone (Controls part))
control_follows pid n m card tuning past alone part same are few =
    let run : message_parts_to (newest_message alone) part ≡ message_parts_to (newest_message past) part =
    same_by (λ (hs : List Heard). message_parts_to (newest_message hs) part) pid alone past (run_thinned pid part) same
    in
    rw run
    (part_follows pid n m (part_fault (message_parts_to (newest_message past) part))
    (message_offering card tuning n past (completes past (Controls part)))
    (message_offering card tuning m alone (completes past (Controls part)))
    (message_follows pid n m card tuning past alone (completes past (Controls part)) same are few))

-- a section of entitlements
abbrev section_offering : ℕ → CardFields → ℕ → List Emm → Emm → Offering
section_offering n card now sections emm =
    if nat_lt emm.period now then no_offering
    else if is_mixed sections emm then refused_offering (Fault.BadEmm n Emms.Mixed)
    else key_if_none n emm (key_in card sections) (key_from card emm)

key_follows : (pid n m : ℕ) (emm : Emm) (known found : Option (List ℕ)) →
    Follows pid (key_if_none n emm known found) (key_if_none m emm known found)
key_follows pid n m emm (Some key) found = λ calm. (refl, refl)
key_follows pid n m emm None None = λ calm. (refl, refl)
key_follows pid n m emm None (Some key) = by_check (bytes_eq (check_value_of key) emm.check)
  where
    by_check : (right : Bool) →
        Follows pid (if right then no_offering else refused_offering (Fault.WrongKey n emm.period (check_value_of key)
        emm.check))
        (if right then no_offering else refused_offering (Fault.WrongKey m emm.period (check_value_of key) emm.check))
    by_check true = λ calm. (refl, refl)
    by_check false = λ calm. absurd (cc)

section_by : (pid n m : ℕ) (old mixed : Bool) (whole alone : Offering) → Follows pid whole alone →
    Follows pid
    (if old then no_offering else if mixed then refused_offering (Fault.BadEmm n Emms.Mixed) else whole)
    (if old then no_offering else if mixed then refused_offering (Fault.BadEmm m Emms.Mixed) else alone)
section_by pid n m true mixed whole alone follows = λ calm. (refl, refl)
section_by pid n m false true whole alone follows = λ calm. absurd (cc)
section_by pid n m false false whole alone follows = follows

section_follows : (pid n m : ℕ) (card : CardFields) (past alone : List Heard) (emm : Emm) →
    thinned pid alone ≡ thinned pid past →
    Follows pid (emm_offering card n past emm) (emm_offering card m alone emm)
unfolding emm_offering
section_follows pid n m card past alone emm same =
    let now : current alone ≡ current past = same_by current pid alone past (current_thinned pid) same in
    let sections : sections_seen emm.period alone ≡ sections_seen emm.period past =
    same_by (sections_seen emm.period) pid alone past (seen_thinned pid emm.period) same in
    rw (now, sections)
    (section_by pid n m (nat_lt emm.period (current past)) (is_mixed (sections_seen emm.period past) emm)
    (key_if_none n emm (key_in card (sections_seen emm.period past)) (key_from card emm))
    (key_if_none m emm (key_in card (sections_seen emm.period past)) (key_from card emm))
    (key_follows pid n m emm (key_in card (sections_seen emm.period past)) (key_from card emm)))

-- anything that is heard, which has its number
pub thing_follows : (pid n m i j : ℕ) (card : CardFields) (tuning : Tuning) (past alone : List Heard) (thing : Heard) →
    thinned pid alone ≡ thinned pid past → AreOn pid alone → few_held past ≡ true →
    Follows pid (heard_offering card tuning n past (numbered i thing))
    (heard_offering card tuning m alone (numbered j thing))
thing_follows pid n m i j card tuning past alone Dropped same are few = λ calm. (refl, refl)
thing_follows pid n m i j card tuning past alone (Entitles emm) same are few =
    section_follows pid n m card past alone emm same
thing_follows pid n m i j card tuning past alone (Controls part) same are few =
    control_follows pid n m card tuning past alone part same are few
thing_follows pid n m i j card tuning past alone (BadEmm fault) same are few = λ calm. absurd (cc)
thing_follows pid n m i j card tuning past alone (BadEcm fault) same are few = λ calm. absurd (cc)
thing_follows pid n m i j card tuning past alone (Other k packet) same are few = λ calm. (refl, refl)
