-- What is left out, because it isn't of one PID and tells nothing, changes nothing of that PID.
use Rattle.std.proofs.Common.{◌≡◌, refl, ℕ, ◌==◌, ◌||◌, ◌++◌, Bool, true, false, not, List, [], ◌∷◌, length}
use Rattle.std.proofs.Common.{Option, Some, None, is_none, ap, sym, subst, ◌∙◌}
use Rattle.std.specs.Prelude.{if◌then◌else◌}
use Rattle.std.specs.Option.{option_map_or}
use Rattle.std.proofs.lemmas.Bool.{and_parts}
use Rattle.std.proofs.lemmas.List.Elements.{filter-append}
use Rattle.sd_base.proofs.Bools.{tested}
use Rattle.sd_packet.specs.Header.{pid_of}
use Rattle.sd_site_cards.specs.CardFields.{CardFields}
use Rattle.sd_message.specs.declared.stream_fault.StreamFault.{StreamFault}
use Rattle.sd_psi.specs.OurCat.{cat_tuning}
use Rattle.sd_psi.specs.declared.our_cat.Tuning.{Tuning}
use Rattle.sd_spec.specs.Tuned.{tuned_by, tuning_of}
use Rattle.sd_spec.specs.Heard.{Heard, Dropped, Entitles, Controls, BadEmm, BadEcm, Other, hears}
use Rattle.sd_spec.specs.Stretches.{newest_message, is_closed}
use Rattle.sd_spec.specs.Runs.{run_name_heard, is_turn, of_run}
use Rattle.sd_spec.specs.Offered.{heard_with, heard, Offering, no_offering, heard_offering}
use Rattle.sd_spec.specs.Offered.{tuned_offering, offered, out_from, break_from}
use Rattle.sd_law_contained.specs.Alone.{speaks, packets_alone, few_held, few_held_in}
use Rattle.sd_law_contained.proofs.Thinned.{thinned, AreOn}
use Rattle.sd_law_contained.proofs.Written.{those_on, neither}
use Rattle.sd_law_contained.proofs.Offers.{Follows, numbered, thing_follows}
use Rattle.sd_law_contained.proofs.Following.{IsQuiet, quiet_heard, hears_numbered, closed_same, run_same}
use Rattle.sd_law_contained.proofs.Following.{more_stays, of_run_on, Agrees, both_agree}

-- a packet that is left out
not_none : {X : Type 0} (x : Option X) → not (is_none x) ≡ false → is_none x ≡ true
not_none None silent = refl
not_none (Some x) silent = absurd (cc)

pub is_nothing : {X : Type 0} (x : Option X) → is_none x ≡ true → x ≡ None
is_nothing None e = refl
is_nothing (Some x) e = absurd (cc)

left_tuned : (card : CardFields) (tuning : Option Tuning) (packet : List ℕ) → speaks card tuning packet ≡ false →
    tuned_by tuning (cat_tuning card.ca packet) ≡ tuning
unfolding speaks
left_tuned card None packet silent =
    is_nothing (cat_tuning card.ca packet) (not_none (cat_tuning card.ca packet) silent)
left_tuned card (Some tuning) packet silent = refl

pub left_quiet : (card : CardFields) (pid : ℕ) (tuning : Tuning) (packet : List ℕ) → (pid_of packet == pid) ≡ false →
    speaks card (Some tuning) packet ≡ false → IsQuiet pid (hears card.height tuning 0 packet)
unfolding speaks
left_quiet card pid tuning packet off silent =
    quiet_heard pid card.height tuning packet off
    (not_none (run_name_heard (hears card.height tuning 0 packet)) silent)

left_heard : (card : CardFields) (pid n : ℕ) (tuning : Option Tuning) (packet : List ℕ) (past : List Heard) →
    (pid_of packet == pid) ≡ false → speaks card tuning packet ≡ false →
    thinned pid (heard_with card tuning n packet past) ≡ thinned pid past
left_heard card pid n None packet past off silent = refl
left_heard card pid n (Some tuning) packet past off silent =
    rw (hears_numbered card.height n tuning packet)
    (more_stays pid n past (hears card.height tuning 0 packet) (left_quiet card pid tuning packet off silent))

pub left_agree : (card : CardFields) (pid : ℕ) (packet : List ℕ) (past few : List (List ℕ)) → Agrees card pid past few →
    (pid_of packet == pid) ≡ false → speaks card (tuning_of card.ca past) packet ≡ false →
    Agrees card pid (packet ∷ past) few
unfolding tuning_of heard
left_agree card pid packet past few agrees off silent = record {
  tuned = agrees.tuned ∙ sym (left_tuned card (tuning_of card.ca past) packet silent);
  same = agrees.same
      ∙ sym (left_heard card pid (length past) (tuning_of card.ca past) packet (heard card past) off silent);
  on = agrees.on;
}

-- nothing is written at it
silent_writes : (card : CardFields) (tuning : Tuning) (n : ℕ) (past : List Heard) (thing : Heard) →
    run_name_heard thing ≡ None → (heard_offering card tuning n past (numbered n thing)).wrote ≡ []
silent_writes card tuning n past Dropped silent = refl
silent_writes card tuning n past (Entitles emm) silent = absurd (cc)
silent_writes card tuning n past (Controls part) silent = absurd (cc)
silent_writes card tuning n past (BadEmm fault) silent = refl
silent_writes card tuning n past (BadEcm fault) silent = refl
silent_writes card tuning n past (Other k packet) silent = refl

unless_closed : (closed : Bool) (offering : Offering) → offering.wrote ≡ [] →
    (if closed then no_offering else offering).wrote ≡ []
unless_closed true offering none = refl
unless_closed false offering none = none

left_by : (card : CardFields) (pid n : ℕ) (tuning : Option Tuning) (packet : List ℕ) (past : List Heard) →
    (pid_of packet == pid) ≡ false → speaks card tuning packet ≡ false →
    (tuned_offering card tuning n past packet).wrote ≡ []
left_by card pid n None packet past off silent = refl
left_by card pid n (Some tuning) packet past off silent =
    let thing : Heard = hears card.height tuning 0 packet in
    rw (hears_numbered card.height n tuning packet)
    (unless_closed (is_closed (of_run past (numbered n thing)))
    (heard_offering card tuning n (of_run past (numbered n thing)) (numbered n thing))
    (silent_writes card tuning n (of_run past (numbered n thing)) thing
    (left_quiet card pid tuning packet off silent).nameless))

left_writes : (card : CardFields) (pid : ℕ) (packet : List ℕ) (past : List (List ℕ)) →
    (pid_of packet == pid) ≡ false → speaks card (tuning_of card.ca past) packet ≡ false →
    (offered card past packet).wrote ≡ []
unfolding offered
left_writes card pid packet past off silent =
    left_by card pid (length past) (tuning_of card.ca past) packet (heard card past) off silent

-- a packet that both receivers are offered
run_room : (turn : Bool) (past : List Heard) → few_held past ≡ true → few_held (if turn then [] else past) ≡ true
unfolding newest_message
run_room true past room = refl
run_room false past room = room

of_run_room : (past : List Heard) (thing : Heard) → few_held past ≡ true → few_held (of_run past thing) ≡ true
unfolding of_run
of_run_room past thing room = run_room (is_turn past thing) past room

closed_follows : (pid : ℕ) (closed mine : Bool) (whole less : Offering) → mine ≡ closed → Follows pid whole less →
    Follows pid (if closed then no_offering else whole) (if mine then no_offering else less)
closed_follows pid true mine whole less same follows = rw same (λ calm. (refl, refl))
closed_follows pid false mine whole less same follows = rw same follows

both_by : (card : CardFields) (pid n m : ℕ) (tuning : Option Tuning) (packet : List ℕ) (past few : List Heard) →
    thinned pid few ≡ thinned pid past → AreOn pid few → few_held past ≡ true →
    Follows pid (tuned_offering card tuning n past packet) (tuned_offering card tuning m few packet)
both_by card pid n m None packet past few same on room = λ calm. (refl, refl)
both_by card pid n m (Some tuning) packet past few same on room =
    let thing : Heard = hears card.height tuning 0 packet in
    rw (hears_numbered card.height n tuning packet, hears_numbered card.height m tuning packet)
    (closed_follows pid (is_closed (of_run past (numbered n thing))) (is_closed (of_run few (numbered m thing)))
    (heard_offering card tuning n (of_run past (numbered n thing)) (numbered n thing))
    (heard_offering card tuning m (of_run few (numbered m thing)) (numbered m thing))
    (closed_same pid n m past few thing same)
    (thing_follows pid n m n m card tuning (of_run past (numbered n thing)) (of_run few (numbered m thing)) thing
    (run_same pid n m past few thing same) (of_run_on pid few (numbered m thing) on)
    (of_run_room past (numbered n thing) room)))

both_follow : (card : CardFields) (pid : ℕ) (packet : List ℕ) (past few : List (List ℕ)) → Agrees card pid past few →
    few_held (heard card past) ≡ true → Follows pid (offered card past packet) (offered card few packet)
unfolding offered
both_follow card pid packet past few agrees room =
    subst (λ (tuning : Option Tuning). Follows pid
    (tuned_offering card (tuning_of card.ca past) (length past) (heard card past) packet)
    (tuned_offering card tuning (length few) (heard card few) packet)) (sym agrees.tuned)
    (both_by card pid (length past) (length few) (tuning_of card.ca past) packet (heard card past) (heard card few)
    agrees.same agrees.on room)

-- all packets one after the other
calm_parts : (fault next : Option StreamFault) → option_map_or Some fault next ≡ None → (fault ≡ None) × (next ≡ None)
calm_parts None next calm = (refl, calm)
calm_parts (Some fault) next calm = absurd (cc)

pub calm_both : (fault next : Option StreamFault) → fault ≡ None → next ≡ None → option_map_or Some fault next ≡ None
calm_both fault next none calm = rw none calm

written_both : (pid : ℕ) (whole less : Offering) (rest mine : List (List ℕ)) →
    whole.fault ≡ None → less.fault ≡ None → less.wrote ≡ those_on pid whole.wrote → those_on pid rest ≡ mine →
    those_on pid (whole.wrote ++ (if is_none whole.fault then rest else []))
    ≡ less.wrote ++ (if is_none less.fault then mine else [])
written_both pid whole less rest mine calm still wrote more =
    rw (calm, still) (filter-append (λ p. pid_of p == pid) whole.wrote rest
    ∙ (ap (λ (ps : List (List ℕ)). ps ++ those_on pid rest) (sym wrote) ∙ ap (λ (ps : List (List ℕ)). less.wrote ++
    ps) more))

written_one : (pid : ℕ) (whole : Offering) (rest mine : List (List ℕ)) → whole.fault ≡ None → whole.wrote ≡ [] →
    those_on pid rest ≡ mine → those_on pid (whole.wrote ++ (if is_none whole.fault then rest else [])) ≡ mine
written_one pid whole rest mine calm none more = rw (calm, none) more

abbrev pub WritesAlone : CardFields → ℕ → List (List ℕ) → List (List ℕ) → List (List ℕ) → Type 0
WritesAlone card pid past few packets = (break_from card few (packets_alone card pid past packets) ≡ None)
    × (those_on pid (out_from card past packets) ≡ out_from card few (packets_alone card pid past packets))

taken_writes : (card : CardFields) (pid : ℕ) (packet : List ℕ) (packets past few : List (List ℕ)) →
    Agrees card pid past few → (offered card past packet).fault ≡ None → few_held (heard card past) ≡ true →
    WritesAlone card pid (packet ∷ past) (packet ∷ few) packets →
    (break_from card few (packet ∷ packets_alone card pid (packet ∷ past) packets) ≡ None)
    × (those_on pid (out_from card past (packet ∷ packets))
    ≡ out_from card few (packet ∷ packets_alone card pid (packet ∷ past) packets))
unfolding break_from out_from
taken_writes card pid packet packets past few agrees calm room rest =
    let one = both_follow card pid packet past few agrees room calm in (
      calm_both (offered card few packet).fault
          (break_from card (packet ∷ few) (packets_alone card pid (packet ∷ past) packets)) one.0 rest.0,
      written_both pid (offered card past packet) (offered card few packet) (out_from card (packet ∷ past) packets)
          (out_from card (packet ∷ few) (packets_alone card pid (packet ∷ past) packets)) calm one.0 one.1 rest.1,
    )

left_out : (card : CardFields) (pid : ℕ) (packet : List ℕ) (packets past few : List (List ℕ)) →
    (offered card past packet).fault ≡ None → (offered card past packet).wrote ≡ [] →
    WritesAlone card pid (packet ∷ past) few packets →
    (break_from card few (packets_alone card pid (packet ∷ past) packets) ≡ None)
    × (those_on pid (out_from card past (packet ∷ packets)) ≡ out_from card few (packets_alone card pid (packet ∷ past)
    packets))
unfolding out_from
left_out card pid packet packets past few calm none rest = (
  rest.0,
  written_one pid (offered card past packet) (out_from card (packet ∷ past) packets)
      (out_from card few (packets_alone card pid (packet ∷ past) packets)) calm none rest.1,
)

pub writes_alone : (card : CardFields) (pid : ℕ) (packets past few : List (List ℕ)) → Agrees card pid past few →
    break_from card past packets ≡ None → few_held_in card past packets ≡ true → WritesAlone card pid past few packets
unfolding break_from out_from packets_alone few_held_in
writes_alone card pid [] past few agrees calm room = (refl, refl)
writes_alone card pid (packet ∷ packets) past few agrees calm room =
    let calms = calm_parts (offered card past packet).fault (break_from card (packet ∷ past) packets) calm in
    let rooms = and_parts (few_held (heard card past)) (few_held_in card (packet ∷ past) packets) room in
    tested ((pid_of packet == pid) || speaks card (tuning_of card.ca past) packet)
    (λ taken. rw taken (taken_writes card pid packet packets past few agrees calms.0 rooms.0
    (writes_alone card pid packets (packet ∷ past) (packet ∷ few) (both_agree card pid packet past few agrees taken)
    calms.1 rooms.1)))
    (λ left.
    let apart = neither (pid_of packet == pid) (speaks card (tuning_of card.ca past) packet) left in
    rw left (left_out card pid packet packets past few calms.0
    (left_writes card pid packet past apart.0 apart.1)
    (writes_alone card pid packets (packet ∷ past) few (left_agree card pid packet past few agrees apart.0 apart.1)
    calms.1 rooms.1)))

-- from the begin on
pub begin_agrees : (card : CardFields) (pid : ℕ) → Agrees card pid [] []
unfolding heard
begin_agrees card pid = record { tuned = refl; same = refl; on = tt }

pub none_alone : (card : CardFields) (pid : ℕ) (packets : List (List ℕ)) → break_from card [] packets ≡ None →
    few_held_in card [] packets ≡ true → break_from card [] (packets_alone card pid [] packets) ≡ None
none_alone card pid packets calm room = (writes_alone card pid packets [] [] (begin_agrees card pid) calm room).0

pub out_alone : (card : CardFields) (pid : ℕ) (packets : List (List ℕ)) → break_from card [] packets ≡ None →
    few_held_in card [] packets ≡ true →
    those_on pid (out_from card [] packets) ≡ out_from card [] (packets_alone card pid [] packets)
out_alone card pid packets calm room = (writes_alone card pid packets [] [] (begin_agrees card pid) calm room).1
