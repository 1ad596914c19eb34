-- What a packet comes to for the receiver.
use Rattle.std.proofs.Common.{◌≡◌, ◌⊎◌, inl, inr, ℕ, suc, ◌+◌, ◌-◌, ◌<◌, ◌≤◌, ◌++◌, List, [], ◌∷◌, length}
use Rattle.std.proofs.Common.{append-nil, length-append, refl, sym, ap, ◌∙◌, subst, true, false, Bool, arith}
use Rattle.std.specs.Prelude.{◌==◌, ◌&&◌, is_none, not, find, Option, Some, None, option_map, IfSome, OnOk, IsErrOf}
use Rattle.std.specs.Prelude.{reverse, Result, Ok, Err, if◌then◌else◌}
use Rattle.std.specs.List.{concat}
use Rattle.std.specs.Option.{option_or}
use Rattle.std.proofs.lemmas.Bool.{cases_Bool, le-ltb, true≢false}
use Rattle.std.proofs.lemmas.List.{reverse-append, reverse-reverse}
use Rattle.sd_base.proofs.Bools.{tested}
use Rattle.sd_site_cards.specs.declared.card.Card.{Card}
use Rattle.sd_site_cards.specs.CardFields.{CardFields, card_fields_of}
use Rattle.sd_engine.specs.Stage.{SinkState, HasGrown, IsCutShort}
use Rattle.sd_engine.specs.declared.stage.StageFault.{StageFault}
use Rattle.sd_engine.specs.declared.stage.StageFault.TheVariants.{Write, Refused}
use Rattle.sd_engine.proofs.Chains.{took_none}
use Rattle.sd_message.specs.declared.stream_fault.StreamFault.{StreamFault}
use Rattle.sd_base.proofs.Fields.{field_below}
use Rattle.sd_packet.specs.Header.{pid_of, has_payload}
use Rattle.sd_section.specs.Header.{body_of}
use Rattle.sd_psi.specs.Tables.{descriptors_of}
use Rattle.sd_psi.specs.Forms.{cat_fault, section_in}
use Rattle.sd_spec.specs.Tuned.{tuned_by, tuning_of}
use Rattle.sd_psi.specs.OurCat.{tuning_in, is_for, cat_tuning}
use Rattle.sd_psi.specs.declared.our_cat.Tuning.{Tuning}
use Rattle.sd_message.specs.EcmForm.{IsEcm}
use Rattle.sd_message.specs.EcmParts.{Message}
use Rattle.sd_message.specs.declared.ecm_part.EcmPart.{EcmPart}
use Rattle.sd_message.specs.declared.ecm_fault.EcmFault.{EcmFault}
use Rattle.sd_spec.specs.Heard.{Heard, Controls, hears}
use Rattle.sd_spec.specs.declared.ending.Ending.{Ending}
use Rattle.sd_spec.specs.declared.ending.Ending.TheVariants.{Opened}
use Rattle.sd_spec.specs.Stretches.{is_closed, current, sections_seen, newest_message, completes, message_parts_to}
use Rattle.sd_spec.specs.Stretches.{run_of_parts}
use Rattle.sd_spec.specs.Stretches.{counted_parts as counted_of}
use Rattle.sd_spec.specs.Keys.{key_in}
use Rattle.sd_spec.specs.Runs.{run_name_heard, run_name_in, are_two, is_turn, of_run}
use Rattle.sd_spec.specs.Offered.{Offering, no_offering, refused_offering, heard, offered, heard_offering, break_from}
use Rattle.sd_spec.specs.Offered.{out_from}
use Rattle.sd_spec.specs.Offered.{part_offering, part_fault, message_offering, is_back}
use Rattle.sd_spec.proofs.Hearing.{no_fault_in_none}
use Rattle.sd_spec.specs.Ending.{run_ending, endings_joined, turns_at, run_wrote, ended_before}
use Rattle.sd_spec.proofs.Runs.{same_run, new_run, never_turns, ended_on, ended_now}
use Rattle.sd_receive.specs.Filter.{heard_as, IsFormed}
use Rattle.sd_receive.specs.declared.filter.kind.PacketKind.{PacketKind as Kept}
use Rattle.sd_receive.specs.declared.filter.kind.PacketKind.TheVariants as Kinds
use Rattle.sd_receive.specs.PartialEcm.{part_positions}
use Rattle.sd_receive.proofs.Gathering.{few_listed, none_wrong}
use Rattle.sd_receive.specs.Session.{IsListenerAfter, capped_count, heard_of_run, IsJudgedAs, Judgement, TakesHeard}
use Rattle.sd_receive.specs.Session.{RefusesHeard, IsCalm, IsStill, SessionOutcome}
use Rattle.sd_receive.specs.Receiving.{receiver_card, HasReceived, TurnsBy, takes_key_of, takes_key_at, steps_at}
use Rattle.sd_receive.specs.Receiving.{IsCountable, TakesReceivedPacket, RefusesReceivedPacket, TakesBy, RefusesBy}
use Rattle.sd_receive.specs.Receiving.{CutsBy, ended_at}
use Rattle.sd_receive.specs.Receiving.{receiver_does, Refusing, IsSoundReceiver}
use Rattle.sd_receive.specs.declared.receiver.ended.EndedRuns.{EndedRuns}
use Rattle.sd_spec.specs.Reports.{run_end}
use Rattle.sd_spec.specs.Counting.{holds_stray}
use Rattle.sd_receive.specs.declared.session.Session.{Session}
use Rattle.sd_receive.specs.declared.receiver.Receiver.{Receiver}
use Rattle.sd_receive.proofs.Turns.{out_more, break_more, not_tuned, was_closed, was_heard, turns_is}
use Rattle.sd_receive.proofs.Turns.{name_now, wrote_before, wrote_now}

-- the receiver with another count and another tuning
abbrev pub counted : Receiver → ℕ → Option Tuning → Receiver
counted s count tuning = record {
  card = s.card;
  count = count;
  tuning = tuning;
  name = s.name;
  ended = s.ended;
  session = s.session;
  refusal = s.refusal;
}

-- the receiver after one packet more, with another name of the run at hand, of which this is kept, after runs that
-- ended so
abbrev pub listening : Receiver → ℕ → Option (Option ℕ) → EndedRuns → Session → Receiver
listening s count name ended session = record {
  card = s.card;
  count = count;
  tuning = s.tuning;
  name = name;
  ended = ended;
  session = session;
  refusal = s.refusal;
}

plus_one : (n : ℕ) → n + 1 ≡ suc n
plus_one n = omega arith

last_reversed : (packet : List ℕ) (past : List (List ℕ)) → reverse (packet ∷ past) ≡ reverse past ++ packet ∷ []
last_reversed packet past = reverse-append (packet ∷ []) past

twice_reversed : (past : List (List ℕ)) → reverse (reverse past) ++ [] ≡ past
twice_reversed past = append-nil (reverse (reverse past)) ∙ reverse-reverse past

-- none of the packets with one more is refused
unbroken_more : (card : CardFields) (past : List (List ℕ)) (packet : List ℕ) →
    break_from card [] (reverse past) ≡ None → (offered card past packet).fault ≡ None →
    break_from card [] (reverse (packet ∷ past)) ≡ None
unbroken_more card past packet none good =
    ap (break_from card []) (last_reversed packet past)
    ∙ (break_more card [] (reverse past) packet none
    ∙ (ap (λ (b : List (List ℕ)). (offered card b packet).fault) (twice_reversed past) ∙ good))

-- how many packets are written with one more
out_with : (card : CardFields) (past : List (List ℕ)) (packet : List ℕ) → break_from card [] (reverse past) ≡ None →
    length (out_from card [] (reverse (packet ∷ past)))
    ≡ length (out_from card [] (reverse past)) + length (offered card past packet).wrote
out_with card past packet none =
    let out = out_from card [] (reverse past) in
    let wrote : List (List ℕ) → List (List ℕ) = λ before. (offered card before packet).wrote in
    ap (λ (packets : List (List ℕ)). length (out_from card [] packets)) (last_reversed packet past)
    ∙ (ap (λ (xs : List (List ℕ)). length xs) (out_more card [] (reverse past) packet none)
    ∙ (length-append out (wrote (reverse (reverse past) ++ []))
    ∙ ap (λ (before : List (List ℕ)). length out + length (wrote before)) (twice_reversed past)))

-- a packet that offers nothing, of which nothing is heard, and which ends no run
pub idle : (past : List (List ℕ)) (s : Receiver) (packet : List ℕ) (tuning : Option Tuning) (count : ℕ) →
    HasReceived past s →
    offered (receiver_card s) past packet ≡ no_offering → heard (receiver_card s) (packet ∷ past)
    ≡ heard (receiver_card s) past →
    turns_at (receiver_card s) past packet ≡ false →
    count ≡ length past + 1 →
    tuning ≡ tuning_of s.card.ca (packet ∷ past) →
    TakesReceivedPacket past s packet (counted s count tuning) [] 0
idle past s packet tuning count after offers same stays is tuned_is =
    let card = receiver_card s in
    let good = ap (λ (o : Offering). o.fault) offers in
    let wrote : run_wrote card (packet ∷ past) ≡ run_wrote card past =
    let w = wrote_now card past packet in
    let n = ap (λ (o : Offering). length o.wrote) offers in
    let b : wrote_before card past packet ≡ run_wrote card past = rw stays refl in
    omega (arith, w, n, b) in
    record {
      fault = good;
      bytes_are = ap (λ (o : Offering). concat o.wrote) (sym offers);
      few = omega arith;
      after = record {
        count = is ∙ plus_one (length past);
        tuning = tuned_is;
        name = after.name ∙ ap run_name_in (sym same);
        so_far = after.so_far ∙ sym (ended_on card past packet stays);
        follows = subst (λ (h : List Heard). IsListenerAfter card h s.session) (sym same) after.follows;
        written = after.written ∙ ap capped_count (sym wrote);
        total = let out = out_with card past packet after.unbroken in
            let none = ap (λ (o : Offering). length o.wrote) offers in
            let before = after.total in omega (arith, out, none, before);
        unbroken = unbroken_more card past packet after.unbroken good;
        unrefused = after.unrefused;
      };
      ended = sym (rw stays refl);
      same = refl;
    }

-- a packet before the CAT is taken
pub idle_untuned : (s : Receiver) (packet : List ℕ) (tuning : Option Tuning) (count : ℕ) → s.tuning ≡ None →
    tuning ≡ cat_tuning s.card.ca packet → count ≡ capped_count (s.count + 1) →
    receiver_does s packet (counted s count tuning) [] 0
unfolding tuning_of
idle_untuned s packet tuning count none is added = λ past after countable.
    let untuned : tuning_of s.card.ca past ≡ None = sym after.tuning ∙ none in
    let rests = not_tuned (receiver_card s) past packet untuned in
    idle past s packet tuning count after rests.0 rests.1 (never_turns (receiver_card s) past packet untuned)
    (omega (arith, added, after.count, countable))
    (is ∙ sym (ap (λ (t : Option Tuning). tuned_by t (cat_tuning s.card.ca packet)) untuned))

-- a packet after the CAT
kept_tuning : (ca : ℕ) (past : List (List ℕ)) (packet : List ℕ) (tuning : Option Tuning) (kept : Tuning) →
    tuning ≡ Some kept →
    tuning ≡ tuning_of ca past → tuning ≡ tuning_of ca (packet ∷ past)
unfolding tuning_of
kept_tuning ca past packet tuning kept some is =
    let told : tuning_of ca past ≡ Some kept = sym is ∙ some in
    some ∙ sym (ap (λ (t : Option Tuning). tuned_by t (cat_tuning ca packet)) told)

-- what a packet is heard as that comes now
abbrev pub thing_of : Receiver → Tuning → List ℕ → Heard
thing_of s kept packet = hears s.card.height kept s.count packet

-- what is kept of the run that is at hand with a packet, before it
record Stands (past : List (List ℕ)) (s : Receiver) (packet : List ℕ) (thing : Heard) (ended : EndedRuns)
    (u : Session) : Type 0 where
  follows : IsListenerAfter (receiver_card s) (of_run (heard (receiver_card s) past) thing) u
  written : u.written ≡ capped_count (wrote_before (receiver_card s) past packet)
  so_far_is : ended.so_far ≡ ended_before (receiver_card s) (packet ∷ past)
  last_is : ended.last ≡ ended_at (receiver_card s) past packet s.ended.last
  total : (more : ℕ) → capped_count (ended.written + capped_count (wrote_before (receiver_card s) past packet + more))
      ≡ capped_count (length (out_from (receiver_card s) [] (reverse past)) + more)

-- whether the packet ends the run at hand
ends_run : (past : List (List ℕ)) (s : Receiver) (packet : List ℕ) (kept : Tuning) → HasReceived past s →
    s.tuning ≡ Some kept →
    turns_at (receiver_card s) past packet ≡ are_two s.name (run_name_heard (thing_of s kept packet))
unfolding is_turn
ends_run past s packet kept after some =
    let told : tuning_of s.card.ca past ≡ Some kept = sym after.tuning ∙ some in
    turns_is (receiver_card s) past packet kept told
    ∙ (ap (λ (n : ℕ). is_turn (heard (receiver_card s) past) (hears s.card.height kept n packet)) (sym after.count)
    ∙ ap (λ (name : Option (Option ℕ)). are_two name (run_name_heard (thing_of s kept packet))) (sym after.name))

is_ended : (past : List (List ℕ)) (s : Receiver) (thing : Heard) → HasReceived past s →
    is_turn (heard (receiver_card s) past) thing ≡ are_two s.name (run_name_heard thing)
unfolding is_turn
is_ended past s thing after = ap (λ (name : Option (Option ℕ)). are_two name (run_name_heard thing)) (sym after.name)

-- the run at hand ends as the receiver's current run does, once a CAT was taken
ends_so : (card : CardFields) (past : List (List ℕ)) (tuning : Tuning) → tuning_of card.ca past ≡ Some tuning →
    run_ending card (heard card past) (run_wrote card past) ≡ run_end card past
ends_so card past tuning is = sym (rw is refl)

stands : (past : List (List ℕ)) (s : Receiver) (packet : List ℕ) (kept : Tuning) (ended : EndedRuns) (u : Session) →
    HasReceived past s → s.tuning ≡ Some kept →
    TurnsBy (are_two s.name (run_name_heard (thing_of s kept packet))) s.name s.ended s.session u ended →
    Stands past s packet (thing_of s kept packet) ended u
stands past s packet kept ended u after some turned =
    let card = receiver_card s in
    let thing = thing_of s kept packet in
    let ends = ends_run past s packet kept after some in
    let ends_too = is_ended past s thing after in
    tested (are_two s.name (run_name_heard thing))
    (λ two.
    let now = turned.1 two in
    let turns = ends ∙ two in
    record {
      follows = subst (λ (h : List Heard). IsListenerAfter card h u)
          (sym (new_run (heard card past) thing (ends_too ∙ two)))
          (now.follows card (heard card past) after.follows);
      written = now.written ∙ sym (rw turns refl);
      so_far_is = now.so_far card (heard card past) (run_wrote card past) after.follows after.written
          ∙ (ap (λ (e : Ending). endings_joined e (run_ending card (heard card past) (run_wrote card past)))
          after.so_far
          ∙ sym (ended_now card past packet turns));
      last_is = now.last card (heard card past) (run_wrote card past) after.follows after.written
          ∙ (ap (λ (e : Ending). Some (record { run = s.name; ending = e }))
          (ends_so card past kept (sym after.tuning ∙ some))
          ∙ (ap (λ (name : Option (Option ℕ)). Some (record { run = name; ending = run_end card past })) after.name
          ∙ sym (rw turns refl)));
      total = λ more. let none : wrote_before card past packet ≡ 0 = rw turns refl in
          let sum = now.total in let before = after.total in omega (arith, none, sum, before);
    })
    (λ one.
    let is = turned.0 one in
    let stays = ends ∙ one in
    record {
      follows = subst (λ (l : Session). IsListenerAfter card (of_run (heard card past) thing) l) (sym is.0)
          (subst (λ (h : List Heard). IsListenerAfter card h s.session)
          (sym (same_run (heard card past) thing (ends_too ∙ one))) after.follows);
      written = ap (λ (l : Session). l.written) is.0 ∙ (after.written ∙ sym (rw stays refl));
      so_far_is = ap (λ (e : EndedRuns). e.so_far) is.1 ∙ (after.so_far ∙ sym (ended_on card past packet stays));
      last_is = ap (λ (e : EndedRuns). e.last) is.1 ∙ sym (rw stays refl);
      total = λ more. let all : wrote_before card past packet ≡ run_wrote card past = rw stays refl in
          let same = ap (λ (e : EndedRuns). e.written) is.1 in
          let before = after.total in let kept_so = after.written in omega (arith, all, same, before, kept_so);
    })

-- nothing that was heard is closed
none_closed : is_closed [] ≡ false
unfolding is_closed
none_closed = refl

-- a packet after the closing message of its run
pub idle_closed : (s : Receiver) (packet : List ℕ) (kept : Tuning) (count : ℕ) → s.tuning ≡ Some kept →
    are_two s.name (run_name_heard (thing_of s kept packet)) ≡ false → s.session.closed ≡ true →
    count ≡ capped_count (s.count + 1) → receiver_does s packet (counted s count s.tuning) [] 0
idle_closed s packet kept count some one closed added = λ past after countable.
    let card = receiver_card s in
    let thing = thing_of s kept packet in
    let told : tuning_of s.card.ca past ≡ Some kept = sym after.tuning ∙ some in
    let shut : is_closed (of_run (heard card past) thing) ≡ true =
    ap is_closed (same_run (heard card past) thing (is_ended past s thing after ∙ one))
    ∙ (sym after.follows.closed ∙ closed) in
    let shut_too = subst (λ (n : ℕ).
    is_closed (of_run (heard card past) (hears s.card.height kept n packet)) ≡ true) after.count shut in
    let rests = was_closed card past packet kept told shut_too in
    idle past s packet s.tuning count after rests.0 rests.1 (ends_run past s packet kept after some ∙ one)
    (omega (arith, added, after.count, countable))
    (kept_tuning s.card.ca past packet s.tuning kept some after.tuning)

-- how many steps a packet takes that is heard
pub heard_steps : (card : CardFields) (past : List (List ℕ)) (packet : List ℕ) (tuning : Tuning) →
    tuning_of card.ca past ≡ Some tuning →
    is_closed (of_run (heard card past) (hears card.height tuning (length past) packet)) ≡ false →
    steps_at card past packet
    ≡ (if takes_key_of card (of_run (heard card past) (hears card.height tuning (length past) packet))
    (hears card.height tuning (length past) packet) then card.height else 0)
unfolding takes_key_at
heard_steps card past packet tuning is unclosed = rw (is, unclosed) refl

-- what was found of a packet before anything was changed: whether it begins a run, the key that it gives, and the
-- steps that this took
pub record Found (s : Receiver) (packet : List ℕ) (kept : Tuning) (begins : Bool) (from to : ℕ) : Type 0 where
  pub tuned : s.tuning ≡ Some kept
  pub begins_is : begins ≡ are_two s.name (run_name_heard (thing_of s kept packet))
  pub goes_on : (s.session.closed && not begins) ≡ false
  pub few : (past : List Heard) → IsListenerAfter (receiver_card s) past s.session →
      to ≤ from + (if takes_key_of (receiver_card s) (heard_of_run begins past) (thing_of s kept packet)
      then s.card.height
      else 0)

-- what was heard of the run at hand with a packet
run_heard : (past : List (List ℕ)) (s : Receiver) (packet : List ℕ) (kept : Tuning) (begins : Bool) →
    HasReceived past s → begins ≡ are_two s.name (run_name_heard (thing_of s kept packet)) →
    of_run (heard (receiver_card s) past) (thing_of s kept packet) ≡ heard_of_run begins (heard (receiver_card s) past)
unfolding of_run
run_heard past s packet kept begins after is =
    ap (λ (b : Bool). heard_of_run b (heard (receiver_card s) past))
    (is_ended past s (thing_of s kept packet) after ∙ sym is)

-- it isn't closed
open_of : (closed begins : Bool) (past : List Heard) → closed ≡ is_closed past → (closed && not begins) ≡ false →
    is_closed (heard_of_run begins past) ≡ false
open_of closed true past is on = none_closed
open_of true false past is on = absurd (true≢false on)
open_of false false past is on = sym is

run_open : (past : List (List ℕ)) (s : Receiver) (packet : List ℕ) (kept : Tuning) (begins : Bool) (from to : ℕ) →
    HasReceived past s → Found s packet kept begins from to →
    is_closed (of_run (heard (receiver_card s) past) (thing_of s kept packet)) ≡ false
run_open past s packet kept begins from to after found =
    ap is_closed (run_heard past s packet kept begins after found.begins_is)
    ∙ open_of s.session.closed begins (heard (receiver_card s) past) after.follows.closed found.goes_on

-- what is known of a packet that is heard before the closing message of its run
record Hears (past : List (List ℕ)) (s : Receiver) (packet : List ℕ) (kept : Tuning) : Type 0 where
  offers : offered (receiver_card s) past packet ≡ heard_offering (receiver_card s) kept s.count
      (of_run (heard (receiver_card s) past) (thing_of s kept packet)) (thing_of s kept packet)
  hearing : heard (receiver_card s) (packet ∷ past)
      ≡ thing_of s kept packet ∷ of_run (heard (receiver_card s) past) (thing_of s kept packet)
  few : steps_at (receiver_card s) past packet ≡ (if takes_key_of (receiver_card s)
      (of_run (heard (receiver_card s) past) (thing_of s kept packet)) (thing_of s kept packet) then s.card.height
      else 0)

was_known : (past : List (List ℕ)) (s : Receiver) (packet : List ℕ) (kept : Tuning) → HasReceived past s →
    s.tuning ≡ Some kept →
    is_closed (of_run (heard (receiver_card s) past) (thing_of s kept packet)) ≡ false → Hears past s packet kept
was_known past s packet kept after some unclosed =
    let card = receiver_card s in
    let told : tuning_of s.card.ca past ≡ Some kept = sym after.tuning ∙ some in
    let thing_at : ℕ → Heard = λ n. hears s.card.height kept n packet in
    let open_yet = subst (λ (n : ℕ). is_closed (of_run (heard card past) (thing_at n)) ≡ false) after.count unclosed in
    let here = was_heard card past packet kept told open_yet in
    let back = sym after.count in
    record {
      offers = here.0 ∙ ap (λ (n : ℕ). heard_offering card kept n (of_run (heard card past) (thing_at n))
          (thing_at n)) back;
      hearing = here.1 ∙ ap (λ (n : ℕ). thing_at n ∷ of_run (heard card past) (thing_at n)) back;
      few = heard_steps card past packet kept told open_yet ∙ ap (λ (n : ℕ). if takes_key_of card
          (of_run (heard card past) (thing_at n)) (thing_at n) then s.card.height else 0) back;
    }

-- how many steps were taken, by what is kept
steps_known : (past : List (List ℕ)) (s : Receiver) (packet : List ℕ) (kept : Tuning) (begins : Bool) (from to : ℕ) →
    HasReceived past s → Found s packet kept begins from to → to - from ≤ steps_at (receiver_card s) past packet
steps_known past s packet kept begins from to after found =
    let card = receiver_card s in
    let thing = thing_of s kept packet in
    let known = was_known past s packet kept after found.tuned (run_open past s packet kept begins from to after found)
    in
    let steps = subst (λ (run : List Heard).
    to ≤ from + (if takes_key_of card run thing then s.card.height else 0))
    (sym (run_heard past s packet kept begins after found.begins_is)) (found.few (heard card past) after.follows) in
    omega (arith, steps, known.few)

-- no stray packet is held before anything was heard
calm_none : (strict : Bool) → IsCalm strict []
unfolding holds_stray newest_message
calm_none true = tt
calm_none false = refl

-- no stray packet is held of the run at hand either
calm_run : (strict : Bool) (past : List Heard) (begins : Bool) → IsCalm strict past →
    IsCalm strict (heard_of_run begins past)
calm_run strict past true calm = calm_none strict
calm_run strict past false calm = calm

-- a packet that is heard and taken
heard_opens : (strict : Bool) (s : Receiver) (packet : List ℕ) (kept : Tuning) (begins : Bool) (key : Option (List ℕ))
    (count : ℕ) (name : Option (Option ℕ)) (ended : EndedRuns) (u t : Session) (bytes : List ℕ) (from to : ℕ) →
    Found s packet kept begins from to → TurnsBy begins s.name s.ended s.session u ended →
    ((past : List Heard) → IsListenerAfter (receiver_card s) past s.session →
    IsJudgedAs (receiver_card s) s.count (heard_of_run begins past) (thing_of s kept packet) key) →
    count ≡ capped_count (s.count + 1) →
    name ≡ option_or (run_name_heard (thing_of s kept packet)) s.name →
    TakesHeard strict (receiver_card s) kept s.count (thing_of s kept packet) key u t bytes →
    (past : List (List ℕ)) → HasReceived past s → IsCountable past → IsCalm strict (heard (receiver_card s) past) →
    TakesReceivedPacket past s packet (listening s count name ended t) bytes (to - from)
heard_opens strict s packet kept begins key count name ended u t bytes from to found turned judged added named takes =
    λ past after countable calm.
    let card = receiver_card s in
    let thing = thing_of s kept packet in
    let run_is = run_heard past s packet kept begins after found.begins_is in
    let stood = stands past s packet kept ended u after found.tuned
    (subst (λ (b : Bool). TurnsBy b s.name s.ended s.session u ended) found.begins_is turned) in
    let open_yet = run_open past s packet kept begins from to after found in
    let known = was_known past s packet kept after found.tuned open_yet in
    let taken = takes (of_run (heard card past) thing) stood.follows open_yet
    (subst (λ (run : List Heard). IsJudgedAs card s.count run thing key) (sym run_is)
    (judged (heard card past) after.follows))
    (subst (λ (run : List Heard). IsCalm strict run) (sym run_is) (calm_run strict (heard card past) begins calm)) in
    let good = ap (λ (o : Offering). o.fault) known.offers ∙ taken.0.fault in
    let steps = steps_known past s packet kept begins from to after found in
    let counts : t.written ≡ capped_count (wrote_before card past packet + length (offered card past packet).wrote) =
    taken.0.counted (wrote_before card past packet) stood.written
    ∙ ap capped_count (ap (λ (o : Offering). wrote_before card past packet + length o.wrote) (sym known.offers)) in
    let wrote : t.written ≡ capped_count (run_wrote card (packet ∷ past)) =
    counts ∙ ap capped_count (sym (wrote_now card past packet)) in
    record {
      fault = good;
      bytes_are = taken.0.bytes_are ∙ ap (λ (o : Offering). concat o.wrote) (sym known.offers);
      few = steps;
      after = record {
        count = omega (arith, added, after.count, countable, plus_one (length past));
        tuning = kept_tuning s.card.ca past packet s.tuning kept found.tuned after.tuning;
        name = named ∙ (ap (option_or (run_name_heard thing)) after.name
            ∙ (name_now (heard card past) thing (run_name_heard thing) refl ∙ ap run_name_in (sym known.hearing)));
        so_far = stood.so_far_is;
        follows = subst (λ (h : List Heard). IsListenerAfter card h t) (sym known.hearing) taken.1;
        written = wrote;
        total = ap (λ (n : ℕ). capped_count (ended.written + n)) counts
            ∙ (stood.total (length (offered card past packet).wrote)
            ∙ ap capped_count (sym (out_with card past packet after.unbroken)));
        unbroken = unbroken_more card past packet after.unbroken good;
        unrefused = after.unrefused;
      };
      ended = stood.last_is;
      same = refl;
    }

pub heard_does : (strict : Bool) (s : Receiver) (packet : List ℕ) (kept : Tuning) (begins : Bool)
    (key : Option (List ℕ)) (count : ℕ)
    (name : Option (Option ℕ)) (ended : EndedRuns) (u t : Session) (bytes : List ℕ) (from to : ℕ) →
    Found s packet kept begins from to → TurnsBy begins s.name s.ended s.session u ended →
    ((past : List Heard) → IsListenerAfter (receiver_card s) past s.session →
    IsJudgedAs (receiver_card s) s.count (heard_of_run begins past) (thing_of s kept packet) key) →
    count ≡ capped_count (s.count + 1) →
    name ≡ option_or (run_name_heard (thing_of s kept packet)) s.name →
    TakesHeard strict (receiver_card s) kept s.count (thing_of s kept packet) key u t bytes →
    TakesBy strict s packet (listening s count name ended t) bytes (to - from)
heard_does true s packet kept begins key count name ended u t bytes from to found turned judged added named takes =
    λ past after countable. heard_opens true s packet kept begins key count name ended u t bytes from to found turned
    judged added named takes past after countable tt
heard_does false s packet kept begins key count name ended u t bytes from to found turned judged added named takes =
    heard_opens false s packet kept begins key count name ended u t bytes from to found turned judged added named takes

-- and one that is refused: when it is judged, or when it is taken
stopped_bytes : (strict : Bool) (a b : Offering) (bytes : List ℕ) → a ≡ b →
    bytes ≡ (if strict then concat b.wrote else []) → bytes ≡ (if strict then concat a.wrote else [])
stopped_bytes strict a b bytes is written =
    written ∙ ap (λ (o : Offering). if strict then concat o.wrote else []) (sym is)

-- a refusal, whichever receiver it is
refuses_by : (strict : Bool) (s : Receiver) (packet : List ℕ) (why : StreamFault) (bytes : List ℕ) (steps : ℕ) →
    ((past : List (List ℕ)) → HasReceived past s → IsCountable past → IsCalm strict (heard (receiver_card s) past) →
    RefusesReceivedPacket strict past s packet why bytes steps) → RefusesBy strict s packet why bytes steps
refuses_by true s packet why bytes steps refused_offering = λ past after countable. refused_offering past after
    countable tt
refuses_by false s packet why bytes steps refused_offering = refused_offering

pub heard_refuses : (strict : Bool) (s : Receiver) (packet : List ℕ) (kept : Tuning) (begins : Bool)
    (ended : EndedRuns) (u : Session) (why : StreamFault) (bytes : List ℕ) (from to : ℕ) →
    Found s packet kept begins from to → TurnsBy begins s.name s.ended s.session u ended →
    RefusesHeard strict (receiver_card s) kept s.count (thing_of s kept packet) u why bytes →
    RefusesBy strict s packet why bytes (to - from)
heard_refuses strict s packet kept begins ended u why bytes from to found turned refused_offering =
    refuses_by strict s packet why bytes (to - from) (λ past after countable calm.
    let card = receiver_card s in
    let thing = thing_of s kept packet in
    let run_is = run_heard past s packet kept begins after found.begins_is in
    let stood = stands past s packet kept ended u after found.tuned
    (subst (λ (b : Bool). TurnsBy b s.name s.ended s.session u ended) found.begins_is turned) in
    let open_yet = run_open past s packet kept begins from to after found in
    let known = was_known past s packet kept after found.tuned open_yet in
    let stopped = refused_offering (of_run (heard card past) thing) stood.follows open_yet
    (subst (λ (run : List Heard). IsCalm strict run) (sym run_is) (calm_run strict (heard card past) begins calm)) in
    record {
      fault = ap (λ (o : Offering). o.fault) known.offers ∙ stopped.fault;
      bytes_are = stopped_bytes strict (offered card past packet)
          (heard_offering card kept s.count (of_run (heard card past) thing) thing) bytes known.offers
          stopped.bytes_are;
      few = steps_known past s packet kept begins from to after found;
    })

pub judged_refuses : (strict : Bool) (s : Receiver) (packet : List ℕ) (kept : Tuning) (begins : Bool)
    (key : Option (List ℕ)) (why : StreamFault) (from to : ℕ) → Found s packet kept begins from to →
    ((past : List Heard) → IsListenerAfter (receiver_card s) past s.session →
    Judgement (receiver_card s) s.count (heard_of_run begins past) (thing_of s kept packet) key (Err why)) →
    RefusesBy strict s packet why [] (to - from)
judged_refuses strict s packet kept begins key why from to found judged =
    refuses_by strict s packet why [] (to - from) (λ past after countable calm.
    let card = receiver_card s in
    let thing = thing_of s kept packet in
    let run_is = run_heard past s packet kept begins after found.begins_is in
    let known = was_known past s packet kept after found.tuned (run_open past s packet kept begins from to after found)
    in
    let offers : offered card past packet ≡ refused_offering why = known.offers
    ∙ (ap (λ (run : List Heard). heard_offering card kept s.count run thing) run_is
    ∙ judged (heard card past) after.follows kept) in
    record {
      fault = ap (λ (o : Offering). o.fault) offers;
      bytes_are = stopped_bytes strict (offered card past packet) (refused_offering why) [] offers (if_none strict);
      few = steps_known past s packet kept begins from to after found;
    })
  where
    if_none : (strict : Bool) → [] ≡ (if strict then concat [] else [])
    if_none true = refl
    if_none false = refl

-- what is kept of the run at hand with a packet is of what was heard of it
pub turned_follows : (card : CardFields) (begins : Bool) (name : Option (Option ℕ)) (before ended : EndedRuns)
    (l u : Session) → TurnsBy begins name before l u ended → (past : List Heard) → IsListenerAfter card past l →
    IsListenerAfter card (heard_of_run begins past) u
turned_follows card true name before ended l u turned past follows = (turned.1 refl).follows card past follows
turned_follows card false name before ended l u turned past follows =
    subst (λ (m : Session). IsListenerAfter card past m) (sym (turned.0 refl).0) follows

pub turned_open : (card : CardFields) (begins : Bool) (name : Option (Option ℕ)) (before ended : EndedRuns)
    (l u : Session) → TurnsBy begins name before l u ended → (past : List Heard) × IsListenerAfter card past l →
    (l.closed && not begins) ≡ false → u.closed ≡ false
turned_open card begins name before ended l u turned (past, follows) goes_on =
    (turned_follows card begins name before ended l u turned past follows).closed
    ∙ open_of l.closed begins past follows.closed goes_on

-- a refused packet leaves what is kept, if it begins no run
stands_still : (s : Receiver) (ended : EndedRuns) (u t : Session) → TurnsBy false s.name s.ended s.session u ended →
    IsStill (receiver_card s) u t → (past : List (List ℕ)) → HasReceived past s →
    HasReceived past (listening s s.count s.name ended t)
stands_still s ended u t turned still past after =
    let is = turned.0 refl in
    let wrote : t.written ≡ s.session.written = still.written ∙ ap (λ (l : Session). l.written) is.0 in
    record {
      count = after.count;
      tuning = after.tuning;
      name = after.name;
      so_far = ap (λ (e : EndedRuns). e.so_far) is.1 ∙ after.so_far;
      follows = still.follows (heard (receiver_card s) past)
          (subst (λ (l : Session). IsListenerAfter (receiver_card s) (heard (receiver_card s) past) l)
          (sym is.0) after.follows);
      written = wrote ∙ after.written;
      total = ap (λ (e : EndedRuns). capped_count (e.written + t.written)) is.1
          ∙ (ap (λ (n : ℕ). capped_count (s.ended.written + n)) wrote ∙ after.total);
      unbroken = after.unbroken;
      unrefused = after.unrefused;
    }

-- what is said of a packet that is taken, if it was
pub of_taken : {P : Type 0} (result : Result (Unit {0}) (StageFault StreamFault)) →
    ((fault : StageFault StreamFault) → result ≡ Err fault → ⊥) → OnOk result P → P
of_taken (Ok done) taken says = says
of_taken (Err fault) taken says = absurd (taken fault refl)

-- what is said of all that a packet comes to, by its answer
pub grew_of : (T : Session → List ℕ → Type 0) (R : StreamFault → List ℕ → Type 0) (C : List ℕ → Type 0)
    (u v : SinkState) (t : Session)
    (result : Result (Unit {0}) (StageFault StreamFault)) (from to : ℕ) (Says : List ℕ → ℕ → Type 0) →
    SessionOutcome T R C u v t result →
    ((bytes : List ℕ) → T t bytes → Says bytes (to - from)) → OnOk result (HasGrown u v from to Says)
grew_of T R C u v t (Ok done) from to Says comes says = record {
  bytes = comes.bytes;
  steps = to - from;
  says = says comes.bytes comes.says;
  taken = comes.took.taken;
  room = comes.took.room;
  counted = omega arith;
}
grew_of T R C u v t (Err fault) from to Says comes says = tt

pub refused_of : (T : Session → List ℕ → Type 0) (R : StreamFault → List ℕ → Type 0) (C : List ℕ → Type 0)
    (u v : SinkState) (t : Session)
    (result : Result (Unit {0}) (StageFault StreamFault)) (from to : ℕ) (fault : StreamFault)
    (Says : List ℕ → ℕ → Type 0) →
    result ≡ Err (Refused fault) → SessionOutcome T R C u v t result →
    ((bytes : List ℕ) → R fault bytes → Says bytes (to - from)) → HasGrown u v from to Says
refused_of T R C u v t result from to fault Says is comes says =
    let some = subst (λ (r : Result (Unit {0}) (StageFault StreamFault)). SessionOutcome T R C u v t r) is comes in
    record {
      bytes = some.bytes;
      steps = to - from;
      says = says some.bytes some.says;
      taken = some.took.taken;
      room = some.took.room;
      counted = omega arith;
    }

pub cut_of : (strict : Bool) (T : Session → List ℕ → Type 0) (R : StreamFault → List ℕ → Type 0) (u v : SinkState)
    (t : Session) (result : Result (Unit {0}) (StageFault StreamFault)) (from to : ℕ) (s : Receiver) (packet : List ℕ)
    (C : List ℕ → Type 0) → IsErrOf result Write → SessionOutcome T R C u v t result →
    ((bytes : List ℕ) → C bytes → CutsBy strict s packet from to bytes) →
    IsCutShort u v (CutsBy strict s packet from to)
cut_of strict T R u v t (Ok done) from to s packet C is comes cuts = absurd (grind (arith, is))
cut_of strict T R u v t (Err (Refused fault)) from to s packet C is comes cuts = absurd (grind (arith, is))
cut_of strict T R u v t (Err Write) from to s packet C is comes cuts = record {
  bytes = comes.bytes;
  says = cuts comes.bytes comes.says;
  prefix = comes.prefix;
  short = comes.short;
  taken = comes.taken;
  room = comes.room;
}

-- the bytes of which a write may fail, whichever receiver it is
pub cuts_by : (strict : Bool) (s : Receiver) (packet : List ℕ) (from to : ℕ) (bytes : List ℕ)
    (Takes : Session → Type 0) (Refuses : StreamFault → Type 0) →
    ((x : Session) → Takes x → (y : Receiver) × TakesBy strict s packet y bytes (to - from)) →
    ((fault : StreamFault) → Refuses fault → RefusesBy strict s packet fault bytes (to - from)) →
    ((x : Session) × Takes x) ⊎ ((strict ≡ true) × (fault : StreamFault) × Refuses fault) →
    CutsBy strict s packet from to bytes
cuts_by true s packet from to bytes Takes Refuses takes refused_offering (inl h) =
    (to - from, omega arith, inl (takes h.0 h.1))
cuts_by true s packet from to bytes Takes Refuses takes refused_offering (inr h) =
    (to - from, omega arith, inr (h.1, s, refused_offering h.1 h.2))
cuts_by false s packet from to bytes Takes Refuses takes refused_offering (inl h) =
    let y = takes h.0 h.1 in (to - from, omega arith, y.0, y.1)
cuts_by false s packet from to bytes Takes Refuses takes refused_offering (inr h) = absurd (true≢false (sym h.0))

-- it may be offered a packet still, where this one isn't refused
pub fit_after : (s : Receiver) (count : ℕ) (name : Option (Option ℕ)) (ended : EndedRuns) (u t : Session)
    (tuning : Tuning) (n : ℕ) (thing : Heard) (key : Option (List ℕ)) (R : StreamFault → List ℕ → Type 0)
    (C : List ℕ → Type 0) (v w : SinkState) (result : Result (Unit {0}) (StageFault StreamFault)) →
    (past : List Heard) × IsListenerAfter (receiver_card s) past u × IsJudgedAs (receiver_card s) n past thing key →
    u.closed ≡ false → IfSome s.tuning (λ kept. kept.ecm < 8192) →
    SessionOutcome (TakesHeard true (receiver_card s) tuning n thing key u) R C v w t result →
    OnOk result (IsSoundReceiver (listening s count name ended t))
fit_after s count name ended u t tuning n thing key R C v w (Ok done) (past, follows, judged) unclosed ecm comes =
    record {
      ecm = ecm;
      follows = (thing ∷ past, (comes.says past follows (sym follows.closed ∙ unclosed) judged tt).1);
    }
fit_after s count name ended u t tuning n thing key R C v w (Err fault) live unclosed ecm comes = tt

-- what is found of a thing is found of the one that is heard now
pub found_of : (s : Receiver) (packet : List ℕ) (kept : Tuning) (thing : Heard) (name : Option (Option ℕ))
    (begins : Bool) (from to : ℕ) → s.tuning ≡ Some kept → thing ≡ thing_of s kept packet →
    name ≡ run_name_heard thing → begins ≡ are_two s.name name → (s.session.closed && not begins) ≡ false →
    ((past : List Heard) → IsListenerAfter (receiver_card s) past s.session →
    to ≤ from + (if takes_key_of (receiver_card s) (heard_of_run begins past) thing then s.card.height else 0)) →
    Found s packet kept begins from to
found_of s packet kept thing name begins from to tuned is named begins_is goes_on few = record {
  tuned = tuned;
  begins_is = begins_is ∙ ap (are_two s.name) (named ∙ ap run_name_heard is);
  goes_on = goes_on;
  few = subst (λ (h : Heard). (past : List Heard) → IsListenerAfter (receiver_card s) past s.session →
      to ≤ from + (if takes_key_of (receiver_card s) (heard_of_run begins past) h then s.card.height else 0)) is few;
}

-- what has no name begins no run
nameless : (name : Option (Option ℕ)) → are_two name None ≡ true → ⊥
nameless None two = true≢false (sym two)
nameless (Some name) two = true≢false (sym two)

-- before anything was heard nothing is wrong with a part, nor with the message that it completes
first_run : (part : EcmPart) → message_parts_to (newest_message []) part ≡ (if part.part == 0 then part ∷ [] else [])
unfolding message_parts_to newest_message run_of_parts counted_of
first_run part = refl

first_fault : (part : EcmPart) → IsEcm part → part_fault (message_parts_to (newest_message []) part) ≡ None
unfolding part_positions
first_fault part form =
    ap part_fault (first_run part)
    ∙ elim (cases_Bool (part.part == 0)) [
      | inl h ↦ rw h (none_wrong part [] refl refl (omega (arith, few_listed part form)))
      | inr h ↦ rw h no_fault_in_none
    ]

first_message : (card : CardFields) (tuning : Tuning) (n : ℕ) (message : Option Message) →
    (message_offering card tuning n [] message).fault ≡ None
unfolding newest_message is_back current key_in sections_seen
first_message card tuning n None = refl
first_message card tuning n (Some message) = rw (le-ltb message.period 0 (omega arith)) refl

-- no message that begins a run is refused when it is taken
first_part : (card : CardFields) (tuning : Tuning) (n : ℕ) (part : EcmPart) → IsEcm part →
    (heard_offering card tuning n [] (Controls part)).fault ≡ None
first_part card tuning n part form =
    ap (λ (fault : Option EcmFault).
    (part_offering n fault (message_offering card tuning n [] (completes [] (Controls part)))).fault)
    (first_fault part form)
    ∙ first_message card tuning n (completes [] (Controls part))

pub first_passes : (card : CardFields) (tuning : Tuning) (n k h : ℕ) (packet : List ℕ) (heard : Kept)
    (name : Option (Option ℕ)) (key : Option (List ℕ)) → IsFormed h heard →
    are_two name (run_name_heard (heard_as k packet heard)) ≡ true →
    IsJudgedAs card n [] (heard_as k packet heard) key →
    (heard_offering card tuning n [] (heard_as k packet heard)).fault ≡ None
first_passes card tuning n k h packet (Kinds.Entitles emm) name key form two judged = judged.fault
first_passes card tuning n k h packet (Kinds.Controls part) name key form two judged =
    first_part card tuning n part.now form
first_passes card tuning n k h packet Kinds.Dropped name key form two judged = absurd (nameless name two)
first_passes card tuning n k h packet (Kinds.BadEmm fault) name key form two judged = absurd (nameless name two)
first_passes card tuning n k h packet (Kinds.BadEcm fault) name key form two judged = absurd (nameless name two)
first_passes card tuning n k h packet Kinds.Other name key form two judged = absurd (nameless name two)

-- a packet that is refused when it is taken begins no run
pub begins_none : (strict : Bool) (s : Receiver) (packet : List ℕ) (kept : Tuning) (h : Kept) (begins : Bool)
    (key : Option (List ℕ)) (ended : EndedRuns) (u t : Session) (C : List ℕ → Type 0) (v w : SinkState)
    (result : Result (Unit {0}) (StageFault StreamFault))
    (fault : StreamFault) → IsFormed s.card.height h →
    begins ≡ are_two s.name (run_name_heard (heard_as s.count packet h)) →
    TurnsBy begins s.name s.ended s.session u ended →
    ((past : List Heard) → IsListenerAfter (receiver_card s) past s.session →
    IsJudgedAs (receiver_card s) s.count (heard_of_run begins past) (heard_as s.count packet h) key) →
    result ≡ Err (Refused fault) →
    SessionOutcome (TakesHeard true (receiver_card s) kept s.count (heard_as s.count packet h) key u)
    (RefusesHeard strict (receiver_card s) kept s.count (heard_as s.count packet h) u) C v w t result →
    (past : List Heard) → IsListenerAfter (receiver_card s) past s.session → begins ≡ false
begins_none strict s packet kept h false key ended u t C v w result fault form is turned judged bad comes past
    follows = refl
begins_none strict s packet kept h true key ended u t C v w result fault form is turned judged bad comes past
    follows =
    let card = receiver_card s in
    let thing = heard_as s.count packet h in
    let says = (subst (λ (r : Result (Unit {0}) (StageFault StreamFault)).
    SessionOutcome (TakesHeard true card kept s.count thing key u) (RefusesHeard strict card kept s.count thing u) C v w
    t r) bad comes).says in
    let stops = says [] ((turned.1 refl).follows card past follows) none_closed (calm_none strict) in
    let passes = first_passes card kept s.count s.count s.card.height packet h s.name key form (sym is)
    (judged past follows) in
    absurd (let both = sym passes ∙ stops.fault in cc)

-- after it the receiver is after the same packets as before it
pub stands_after : (begins : Bool) (s : Receiver) (ended : EndedRuns) (u t : Session) → begins ≡ false →
    TurnsBy begins s.name s.ended s.session u ended → IsStill (receiver_card s) u t →
    (past : List (List ℕ)) → HasReceived past s → HasReceived past (listening s s.count s.name ended t)
stands_after begins s ended u t none turned still past after =
    stands_still s ended u t (subst (λ (b : Bool). TurnsBy b s.name s.ended s.session u ended) none turned) still past
    after

-- a run that is over is closed, and isn't left
pub over_parts : (closed begins : Bool) → (closed && not begins) ≡ true → (closed ≡ true) × (begins ≡ false)
over_parts true false is = (refl, refl)
over_parts true true is = absurd (true≢false (sym is))
over_parts false begins is = absurd (true≢false (sym is))

-- nothing was written, but steps may be counted
pub grew_by_steps : (u : SinkState) (from to : ℕ) (Says : List ℕ → ℕ → Type 0) → Says [] (to - from) →
    HasGrown u u from to Says
grew_by_steps u from to Says says =
    let took = took_none u in
    record { bytes = []; steps = to - from; says = says; taken = took.taken; room = took.room; counted = omega arith }

-- nothing was written
pub grew_none : (u : SinkState) (from : ℕ) (Says : List ℕ → ℕ → Type 0) → Says [] 0 → HasGrown u u from from Says
grew_none u from Says says =
    let took = took_none u in
    record { bytes = []; steps = 0; says = says; taken = took.taken; room = took.room; counted = omega arith }

some_none : (o : Option StreamFault) (kept : StreamFault) → o ≡ None → o ≡ Some kept → ⊥
some_none o kept none some = cc

-- a receiver that keeps a refusal stands after no packets
pub refusing : (s : Receiver) (packet : List ℕ) (kept fault : StreamFault) → s.refusal ≡ Some kept →
    Refusing s packet fault [] 0
refusing s packet kept fault some = λ past after countable. absurd (some_none s.refusal kept after.unrefused some)

-- the PID of control messages is one of 13 bits
ecm_within : (test : Bool) (found : Option (List ℕ)) (t : Tuning) →
    Some t ≡ (if test then option_map tuning_in found else None) → t.ecm < 8192
unfolding tuning_in
ecm_within true (Some d) t is = let e : t ≡ tuning_in d = cc in
    subst (λ (x : Tuning). x.ecm < 8192) (sym e) (field_below d 51 13)
ecm_within true None t is = absurd cc
ecm_within false found t is = absurd cc

pub ecm_fits : (ca : ℕ) (packet : List ℕ) (tuning : Option Tuning) → tuning ≡ cat_tuning ca packet →
    IfSome tuning (λ t. t.ecm < 8192)
unfolding cat_tuning
ecm_fits ca packet None is = tt
ecm_fits ca packet (Some kept) is =
    ecm_within ((pid_of packet == 1) && (has_payload packet && is_none (cat_fault packet)))
    (find (is_for ca) (descriptors_of (body_of (section_in packet)))) kept is

-- before the first packet
pub first_after : (card : Card) (session : Session) → session.written ≡ 0 →
    ((fields : CardFields) → IsListenerAfter fields [] session) →
    HasReceived [] (record {
      card = card;
      count = 0;
      tuning = None;
      name = None;
      ended = record { so_far = Opened; written = 0; last = None };
      session = session;
      refusal = None;
    })
unfolding tuning_of heard break_from run_name_in ended_before run_wrote out_from
first_after card session none follows = record {
  count = refl;
  tuning = refl;
  name = refl;
  so_far = refl;
  follows = follows (card_fields_of card);
  written = none;
  total = omega (arith, none);
  unbroken = refl;
  unrefused = refl;
}
