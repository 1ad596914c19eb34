-- What is refused doesn't depend on the number of the packet, but for the number in the fault.
use Rattle.std.proofs.Common.{◌≡◌, ◌==◌, List, refl, ap, sym, ◌∙◌, Bool, true, false, length}
use Rattle.std.specs.Prelude.{bytes_eq, nat_lt, if◌then◌else◌, Option, Some, None, option_map}
use Rattle.sd_base.specs.Types.{Packet, Packets, PacketNumber, Key}
use Rattle.sd_tree_keys.specs.Keys.{check_value_of}
use Rattle.sd_cipher.specs.Wrapping.{wrapped as under}
use Rattle.sd_packet.specs.Header.{pid_of}
use Rattle.sd_site_cards.specs.CardFields.{CardFields}
use Rattle.sd_message.specs.EmmJudged.{emm_read}
use Rattle.sd_message.specs.EcmJudged.{ecm_read}
use Rattle.sd_message.specs.EcmParts.{Message}
use Rattle.sd_message.specs.declared.emm.Emm.{Emm}
use Rattle.sd_message.specs.declared.emm_fault.EmmFault.TheVariants as Emms
use Rattle.sd_message.specs.declared.ecm_fault.EcmFault.{EcmFault}
use Rattle.sd_message.specs.declared.ecm_fault.EcmFault.TheVariants.{Back}
use Rattle.sd_message.specs.declared.stream_fault.StreamFault.TheVariants as Fault
use Rattle.sd_psi.specs.declared.our_cat.Tuning.{Tuning}
use Rattle.sd_spec.specs.Confirmed.{WrittenPackets}
use Rattle.sd_spec.specs.Heard.{Heard, Dropped, Entitles, Controls, BadEmm, BadEcm, Other, hears, heard_emm, heard_ecm}
use Rattle.sd_spec.specs.Keys.{key_at, key_from}
use Rattle.sd_spec.specs.Runs.{of_run}
use Rattle.sd_spec.specs.Stretches.{current, sections_seen, newest_message, message_parts_to, completes, is_closed}
use Rattle.sd_spec.specs.Tuned.{tuning_of}
use Rattle.sd_spec.specs.Offered.{Offering, no_offering, refused_offering, is_mixed, key_offering, key_if_none}
use Rattle.sd_spec.specs.Offered.{emm_offering}
use Rattle.sd_spec.specs.Offered.{part_fault, part_offering, message_offering, is_back, stretch_wrote, word_fault}
use Rattle.sd_spec.specs.Offered.{wrote_or}
use Rattle.sd_spec.specs.Offered.{heard_offering, run_offering, tuned_offering, heard, offered}
use Rattle.sd_watch.specs.Numbered.{stream_fault_at}

-- the second offering is the first one as that of packet n
abbrev IsSameAt : PacketNumber → Offering → Offering → Type 0
IsSameAt n of to = to.fault ≡ option_map (stream_fault_at n) of.fault

key_same : (n m : PacketNumber) (emm : Emm) (key : Key) (good : Bool) →
    IsSameAt n (if good then no_offering
    else refused_offering (Fault.WrongKey m emm.period (check_value_of key) emm.check))
    (if good then no_offering else refused_offering (Fault.WrongKey n emm.period (check_value_of key) emm.check))
key_same n m emm key true = refl
key_same n m emm key false = refl

found_same : (n m : PacketNumber) (emm : Emm) (found : Option Key) →
    IsSameAt n (key_offering m emm found) (key_offering n emm found)
found_same n m emm None = refl
found_same n m emm (Some key) = key_same n m emm key (bytes_eq (check_value_of key) emm.check)

known_same : (n m : PacketNumber) (emm : Emm) (known found : Option Key) →
    IsSameAt n (key_if_none m emm known found) (key_if_none n emm known found)
known_same n m emm (Some key) found = refl
known_same n m emm None found = found_same n m emm found

mixed_same : (n m : PacketNumber) (mixed : Bool) (of to : Offering) → IsSameAt n of to →
    IsSameAt n (if mixed then refused_offering (Fault.BadEmm m Emms.Mixed) else of)
    (if mixed then refused_offering (Fault.BadEmm n Emms.Mixed) else to)
mixed_same n m true of to same = refl
mixed_same n m false of to same = same

early_same : (n : PacketNumber) (early : Bool) (of to : Offering) → IsSameAt n of to →
    IsSameAt n (if early then no_offering else of) (if early then no_offering else to)
early_same n true of to same = refl
early_same n false of to same = same

emm_same : (card : CardFields) (n m : PacketNumber) (past : List Heard) (emm : Emm) →
    IsSameAt n (emm_offering card m past emm) (emm_offering card n past emm)
unfolding emm_offering
emm_same card n m past emm =
    let of = key_if_none m emm (key_at card past emm.period) (key_from card emm) in
    let to = key_if_none n emm (key_at card past emm.period) (key_from card emm) in
    early_same n (nat_lt emm.period (current past))
    (if is_mixed (sections_seen emm.period past) emm then refused_offering (Fault.BadEmm m Emms.Mixed) else of)
    (if is_mixed (sections_seen emm.period past) emm then refused_offering (Fault.BadEmm n Emms.Mixed) else to)
    (mixed_same n m (is_mixed (sections_seen emm.period past) emm) of to
    (known_same n m emm (key_at card past emm.period) (key_from card emm)))

check_same : (n m : PacketNumber) (b : Message) (key : Key) (good : Bool) →
    (if good then None else Some (Fault.WrongWord n b.word (check_value_of (under key b.word b.wrapped)) b.check))
    ≡ option_map (stream_fault_at n)
    (if good then None else Some (Fault.WrongWord m b.word (check_value_of (under key b.word b.wrapped)) b.check))
check_same n m b key true = refl
check_same n m b key false = refl

word_same : (n m : PacketNumber) (b : Message) (key : Option Key) →
    word_fault n b key ≡ option_map (stream_fault_at n) (word_fault m b key)
word_same n m b None = refl
word_same n m b (Some key) =
    check_same n m b key (bytes_eq (check_value_of (under key b.word b.wrapped)) b.check)

wrote_same : (n m : PacketNumber) (packets : Packets) (refused : Option PacketNumber) (b : Message)
    (key : Option Key) → IsSameAt n (wrote_or (record { packets = packets; refused = refused }) (word_fault m b key))
    (wrote_or (record { packets = packets; refused = refused }) (word_fault n b key))
wrote_same n m packets None b key = word_same n m b key
wrote_same n m packets (Some k) b key = refl

back_same : (n m : PacketNumber) (back : Bool) (of to : Offering) → IsSameAt n of to →
    IsSameAt n (if back then refused_offering (Fault.BadEcm m Back) else of)
    (if back then refused_offering (Fault.BadEcm n Back) else to)
back_same n m true of to same = refl
back_same n m false of to same = same

message_same : (card : CardFields) (tuning : Tuning) (n m : PacketNumber) (past : List Heard)
    (message : Option Message) →
    IsSameAt n (message_offering card tuning m past message) (message_offering card tuning n past message)
message_same card tuning n m past None = refl
message_same card tuning n m past (Some b) =
    let wrote : WrittenPackets = stretch_wrote card tuning (newest_message past) (newest_message past).message b in
    let key : Option Key = key_at card past b.period in
    back_same n m (is_back past b) (wrote_or wrote (word_fault m b key)) (wrote_or wrote (word_fault n b key))
    (wrote_same n m wrote.packets wrote.refused b key)

part_same : (n m : PacketNumber) (fault : Option EcmFault) (of to : Offering) → IsSameAt n of to →
    IsSameAt n (part_offering m fault of) (part_offering n fault to)
part_same n m None of to same = same
part_same n m (Some fault) of to same = refl

heard_same : (card : CardFields) (tuning : Tuning) (n m : PacketNumber) (past : List Heard) (thing : Heard) →
    IsSameAt n (heard_offering card tuning m past thing) (heard_offering card tuning n past thing)
heard_same card tuning n m past Dropped = refl
heard_same card tuning n m past (Entitles emm) = emm_same card n m past emm
heard_same card tuning n m past (Controls part) =
    part_same n m (part_fault (message_parts_to (newest_message past) part))
    (message_offering card tuning m past (completes past (Controls part)))
    (message_offering card tuning n past (completes past (Controls part)))
    (message_same card tuning n m past (completes past (Controls part)))
heard_same card tuning n m past (BadEmm fault) = refl
heard_same card tuning n m past (BadEcm fault) = refl
heard_same card tuning n m past (Other k packet) = refl

run_same : (card : CardFields) (tuning : Tuning) (n m : PacketNumber) (past : List Heard) (thing : Heard) →
    IsSameAt n (run_offering card tuning m past thing) (run_offering card tuning n past thing)
run_same card tuning n m past thing =
    early_same n (is_closed (of_run past thing)) (heard_offering card tuning m (of_run past thing) thing)
    (heard_offering card tuning n (of_run past thing) thing)
    (heard_same card tuning n m (of_run past thing) thing)

-- nothing is refused of another packet, whatever its number
either_none : (closed : Bool) → (if closed then no_offering else no_offering).fault ≡ None
either_none true = refl
either_none false = refl

other_none : (card : CardFields) (tuning : Tuning) (n k : PacketNumber) (past : List Heard) (packet : Packet) →
    (run_offering card tuning n past (Other k packet)).fault ≡ None
other_none card tuning n k past packet = either_none (is_closed (of_run past (Other k packet)))

other_same : (card : CardFields) (tuning : Tuning) (n m : PacketNumber) (past : List Heard) (packet : Packet) →
    IsSameAt n (run_offering card tuning m past (Other m packet)) (run_offering card tuning n past (Other n packet))
other_same card tuning n m past packet =
    other_none card tuning n n past packet
    ∙ ap (option_map (stream_fault_at n)) (sym (other_none card tuning m m past packet))

-- a packet by its PID
pid_same : (card : CardFields) (tuning : Tuning) (n m : PacketNumber) (past : List Heard) (packet : Packet)
    (a b c : Bool) → IsSameAt n
    (run_offering card tuning m past (if a then Dropped else if b then heard_emm (emm_read card.height packet)
    else if c then heard_ecm (ecm_read packet) else Other m packet))
    (run_offering card tuning n past (if a then Dropped else if b then heard_emm (emm_read card.height packet)
    else if c then heard_ecm (ecm_read packet) else Other n packet))
pid_same card tuning n m past packet true b c = run_same card tuning n m past Dropped
pid_same card tuning n m past packet false true c =
    run_same card tuning n m past (heard_emm (emm_read card.height packet))
pid_same card tuning n m past packet false false true = run_same card tuning n m past (heard_ecm (ecm_read packet))
pid_same card tuning n m past packet false false false = other_same card tuning n m past packet

-- the fault of a packet as number n is that as number m, but for the number
pub fault_at : (card : CardFields) (tuning : Option Tuning) (n m : PacketNumber) (past : List Heard)
    (packet : Packet) → (tuned_offering card tuning n past packet).fault
    ≡ option_map (stream_fault_at n) (tuned_offering card tuning m past packet).fault
unfolding hears
fault_at card None n m past packet = refl
fault_at card (Some tuning) n m past packet =
    pid_same card tuning n m past packet (pid_of packet == 1) (pid_of packet == tuning.emm)
    (pid_of packet == tuning.ecm)

pub offered_at : (card : CardFields) (n : PacketNumber) (past : Packets) (packet : Packet) →
    (tuned_offering card (tuning_of card.ca past) n (heard card past) packet).fault
    ≡ option_map (stream_fault_at n) (offered card past packet).fault
unfolding offered
offered_at card n past packet = fault_at card (tuning_of card.ca past) n (length past) (heard card past) packet
