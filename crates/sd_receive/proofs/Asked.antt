-- A packet that comes again, and one that can't be under the control word in force.
use Rattle.std.proofs.Common.{◌≡◌, ◌≢◌, ℕ, ◌==◌, List, [], ◌∷◌, refl, ap, sym, ◌∙◌, Bool, true, false, length}
use Rattle.std.specs.Prelude.{◌&&◌, ◌||◌, not, nat_le, Option, Some, None, option_map, Result}
use Rattle.std.specs.Prelude.{Ok, Err, IsTrue, ◌↔◌}
use Rattle.std.specs.List.{flat_map, list_any, list_all}
use Rattle.std.specs.Option.{option_map_or}
use Rattle.std.proofs.lemmas.Bool.{false_from_ne_true, eq-eqb, ne_eqb, false≢true}
use Rattle.std.proofs.lemmas.List.Folds.{list_any-append}
use Rattle.sd_packet.specs.Header.{scrambling_of}
use Rattle.sd_site_cards.specs.CardFields.{CardFields}
use Rattle.sd_message.specs.EcmSpelled.{listed_places}
use Rattle.sd_message.specs.EcmParts.{SaySame, Message, message_of}
use Rattle.sd_message.specs.declared.emm.Emm.{Emm}
use Rattle.sd_message.specs.declared.emm_fault.EmmFault.{EmmFault}
use Rattle.sd_message.specs.declared.ecm_part.EcmPart.{EcmPart}
use Rattle.sd_message.specs.declared.ecm_part.Place.{Place}
use Rattle.sd_message.specs.declared.ecm_message.EcmHead.{EcmHead}
use Rattle.sd_message.specs.declared.ecm_fault.EcmFault.{EcmFault}
use Rattle.sd_psi.specs.declared.our_cat.Tuning.{Tuning}
use Rattle.sd_spec.specs.Confirmed.{is_foreign_under}
use Rattle.sd_spec.specs.Counting.{is_equal_place, is_part_again, is_stray, is_stray_at, says_nothing_new}
use Rattle.sd_spec.specs.Heard.{Heard, Dropped, Other, hears, heard_emm, heard_ecm}
use Rattle.sd_spec.specs.Offered.{heard, same_header}
use Rattle.sd_spec.specs.Stretches.{newest_message, is_closed}
use Rattle.sd_spec.specs.Tuned.{tuning_of}
use Rattle.sd_receive.specs.Again.{has_all_of}
use Rattle.sd_receive.specs.EcmAssembler.{parts_collected}
use Rattle.sd_receive.specs.PartialEcm.{IsGathered, part_positions}
use Rattle.sd_receive.specs.Session.{IsListenerAfter}
use Rattle.sd_receive.specs.Receiving.{HasReceived, receiver_card}
use Rattle.sd_receive.specs.declared.session.Session.{Session}
use Rattle.sd_receive.specs.declared.receiver.Receiver.{Receiver}
use Rattle.sd_receive.proofs.Alike.{headers_told}
use Rattle.sd_receive.proofs.Gathering.{one_more}

-- of two lists in turn some passes, or of the two in the other order
either : (a b : Bool) → (a || b) ≡ (b || a)
either true true = refl
either true false = refl
either false true = refl
either false false = refl

-- one of the positions of some parts passes, in whichever order the parts are
any_of_parts : (p : Place → Bool) (run : List EcmPart) →
    list_any p (part_positions run) ≡ list_any p (flat_map listed_places run)
unfolding part_positions
any_of_parts p [] = refl
any_of_parts p (part ∷ run) =
    ap (list_any p) (one_more part run)
    ∙ (list_any-append p (part_positions run) (listed_places part)
    ∙ (either (list_any p (part_positions run)) (list_any p (listed_places part))
    ∙ (ap (λ (b : Bool). list_any p (listed_places part) || b) (any_of_parts p run)
    ∙ sym (list_any-append p (listed_places part) (flat_map listed_places run)))))

-- two tests that answer alike
all_alike : {X : Type 0} (p q : X → Bool) → ((x : X) → p x ≡ q x) → (xs : List X) → list_all p xs ≡ list_all q xs
all_alike p q same [] = refl
all_alike p q same (x ∷ xs) = rw (same x, all_alike p q same xs) refl

-- nothing was collected
pub none_to_say : (part : EcmPart) (run : List EcmPart) (kept : Option EcmPart) (all : List Place) →
    IsGathered run kept all → kept ≡ None → false ≡ says_nothing_new part run
none_to_say part [] kept all gathered is = refl
none_to_say part (last ∷ run) kept all gathered is = let e = gathered.part in absurd cc

-- the part is of another message than the newest one
pub says_otherwise : (part last : EcmPart) (run : List EcmPart) (kept : Option EcmPart) (all : List Place) (b : Bool) →
    IsGathered run kept all → kept ≡ Some last → (IsTrue b ↔ SaySame last part) → b ≡ false →
    b ≡ says_nothing_new part run
says_otherwise part last [] kept all b gathered is same other = other
says_otherwise part last (first ∷ run) kept all b gathered is same other =
    let e : first ≡ last = let f = gathered.part in cc in
    let test : same_header last part ≡ false =
    false_from_ne_true (same_header last part)
    (λ h. let t : b ≡ true = same.1 ((headers_told last part).0 h) in false≢true (sym other ∙ t)) in
    other ∙ rw e (rw test refl)

-- the part is of the message of the newest one
pub says_as_all : (part last : EcmPart) (run : List EcmPart) (kept : Option EcmPart) (all : List Place) →
    IsGathered run kept all → kept ≡ Some last → SaySame last part →
    has_all_of part last all ≡ says_nothing_new part run
says_as_all part last [] kept all gathered is same = let e = gathered.part in absurd cc
says_as_all part last (first ∷ run) kept all gathered is same =
    let e : first ≡ last = let f = gathered.part in cc in
    let test : same_header last part ≡ true = (headers_told last part).1 same in
    let places : (place : Place) → list_any (is_equal_place place) all
    ≡ list_any (is_equal_place place) (flat_map listed_places (first ∷ run)) =
    λ place. ap (list_any (is_equal_place place)) gathered.places
    ∙ any_of_parts (is_equal_place place) (first ∷ run) in
    let alike = all_alike (λ place. list_any (is_equal_place place) all)
    (λ place. list_any (is_equal_place place) (flat_map listed_places (first ∷ run))) places (listed_places part) in
    let own : (same_header last part && (nat_le part.part last.part
    && list_all (λ place. list_any (is_equal_place place) all) (listed_places part)))
    ≡ has_all_of part last all = rw test refl in
    sym own ∙ (ap (λ (b : Bool). same_header last part && (nat_le part.part last.part && b)) alike
    ∙ ap (λ (p : EcmPart). same_header p part && (nat_le part.part p.part
    && list_all (λ place. list_any (is_equal_place place) (flat_map listed_places (first ∷ run)))
    (listed_places part))) (sym e))

-- what is collected after what was heard
pub again_is : (card : CardFields) (past : List Heard) (state : Session) (part : EcmPart) (b : Bool) →
    IsListenerAfter card past state →
    ((run : List EcmPart) → IsGathered run state.assembler.partial.part state.assembler.partial.places.items →
    b ≡ says_nothing_new part run) → b ≡ is_part_again past (heard_ecm (Ok (Some part)))
unfolding is_part_again parts_collected
again_is card past state part b follows is = is (parts_collected past) follows.assembler.run

-- no part comes again in a packet that has none
pub dropped_not_again : (past : List Heard) (read : Result (Option EcmPart) EcmFault) → read ≡ Ok None →
    false ≡ is_part_again past (heard_ecm read)
unfolding is_part_again
dropped_not_again past read is = rw is refl

pub faulty_not_again : (past : List Heard) (fault : EcmFault) (read : Result (Option EcmPart) EcmFault) →
    read ≡ Err fault → false ≡ is_part_again past (heard_ecm read)
unfolding is_part_again
faulty_not_again past fault read is = rw is refl

-- a packet in the clear isn't stray
scrambled_no : (closed foreign : Bool) → false ≡ (not closed && (false && foreign))
scrambled_no true foreign = refl
scrambled_no false foreign = refl

pub clear_unstray : (past : List Heard) (n : ℕ) (packet : List ℕ) → scrambling_of packet ≡ 0 →
    false ≡ is_stray past (Other n packet)
unfolding is_stray
clear_unstray past n packet clear =
    let test : (scrambling_of packet == 0) ≡ true = eq-eqb (scrambling_of packet) 0 clear in
    rw test (scrambled_no (is_closed past)
    (option_map_or (λ message. is_foreign_under message.word packet) (newest_message past).message false))

-- without a message nothing is stray
wordless : (closed scrambled : Bool) → false ≡ (not closed && (scrambled && false))
wordless true true = refl
wordless true false = refl
wordless false true = refl
wordless false false = refl

pub wordless_unstray : (card : CardFields) (past : List Heard) (state : Session) (n : ℕ) (packet : List ℕ) →
    IsListenerAfter card past state → state.assembler.last ≡ None → false ≡ is_stray past (Other n packet)
unfolding is_stray
wordless_unstray card past state n packet follows none =
    let message : (newest_message past).message ≡ None = follows.assembler.last.says
    ∙ ap (option_map (λ kept. message_of kept state.assembler.places.items)) none in
    wordless (is_closed past) (not (scrambling_of packet == 0))
    ∙ ap (λ (m : Option Message). not (is_closed past) && (not (scrambling_of packet == 0)
    && option_map_or (λ message. is_foreign_under message.word packet) m false)) (sym message)

-- of a closed run nothing is stray
shut : (closed rest : Bool) → closed ≡ true → not closed ≡ (not closed && rest)
shut true rest is = refl
shut false rest is = absurd cc

pub closed_unstray : (card : CardFields) (past : List Heard) (state : Session) (n : ℕ) (packet : List ℕ) →
    IsListenerAfter card past state → state.closed ≡ true → not state.closed ≡ is_stray past (Other n packet)
unfolding is_stray
closed_unstray card past state n packet follows is =
    let rest : Bool = not (scrambling_of packet == 0)
    && option_map_or (λ message. is_foreign_under message.word packet) (newest_message past).message false in
    shut state.closed rest is ∙ ap (λ (closed : Bool). not closed && rest) follows.closed

-- with a message its control word tells
pub stray_under : (card : CardFields) (past : List Heard) (state : Session) (head : EcmHead) (n : ℕ)
    (packet : List ℕ) (foreign : Bool) → IsListenerAfter card past state → state.assembler.last ≡ Some head →
    scrambling_of packet ≢ 0 → state.closed ≡ false → foreign ≡ is_foreign_under head.word packet →
    foreign ≡ is_stray past (Other n packet)
unfolding is_stray
stray_under card past state head n packet foreign follows some scrambled unclosed is =
    let message : (newest_message past).message ≡ Some (message_of head state.assembler.places.items) =
    follows.assembler.last.says
    ∙ ap (option_map (λ kept. message_of kept state.assembler.places.items)) some in
    let test : (scrambling_of packet == 0) ≡ false = ne_eqb (scrambling_of packet) 0 scrambled in
    let closed : is_closed past ≡ false = sym follows.closed ∙ unclosed in
    rw (closed, test, message) is

-- what is asked of the packet once a CAT was taken
stray_at : (card : CardFields) (past : List (List ℕ)) (packet : List ℕ) (tuning : Tuning) →
    tuning_of card.ca past ≡ Some tuning →
    is_stray_at card past packet ≡ is_stray (heard card past) (hears card.height tuning (length past) packet)
unfolding is_stray_at
stray_at card past packet tuning is = rw is refl

-- before a CAT was taken nothing is stray
pub untuned_unstray : (past : List (List ℕ)) (receiver : Receiver) (packet : List ℕ) → HasReceived past receiver →
    receiver.tuning ≡ None → false ≡ is_stray_at (receiver_card receiver) past packet
unfolding is_stray_at
untuned_unstray past receiver packet after none =
    let e : tuning_of receiver.card.ca past ≡ None = sym after.tuning ∙ none in rw e refl

-- a packet that is heard as this is judged as this
pub stray_heard : (past : List (List ℕ)) (receiver : Receiver) (packet : List ℕ) (tuning : Tuning) (thing : Heard)
    (b : Bool) → HasReceived past receiver → receiver.tuning ≡ Some tuning →
    hears (receiver_card receiver).height tuning (length past) packet ≡ thing →
    b ≡ is_stray (heard (receiver_card receiver) past) thing → b ≡ is_stray_at (receiver_card receiver) past packet
stray_heard past receiver packet tuning thing b after some is judged =
    judged ∙ (ap (is_stray (heard (receiver_card receiver) past)) (sym is)
    ∙ sym (stray_at (receiver_card receiver) past packet tuning (sym after.tuning ∙ some)))

-- no message is stray
pub dropped_unstray : (past : List Heard) → false ≡ is_stray past Dropped
unfolding is_stray
dropped_unstray past = refl

pub emm_unstray : (past : List Heard) (read : Result (Option Emm) EmmFault) → false ≡ is_stray past (heard_emm read)
unfolding is_stray
emm_unstray past (Ok None) = refl
emm_unstray past (Ok (Some emm)) = refl
emm_unstray past (Err fault) = refl

pub ecm_unstray : (past : List Heard) (read : Result (Option EcmPart) EcmFault) →
    false ≡ is_stray past (heard_ecm read)
unfolding is_stray
ecm_unstray past (Ok None) = refl
ecm_unstray past (Ok (Some part)) = refl
ecm_unstray past (Err fault) = refl

-- and nothing but a part of a control message comes again as one
pub dropped_unsaid : (past : List Heard) → false ≡ is_part_again past Dropped
unfolding is_part_again
dropped_unsaid past = refl

pub other_unsaid : (past : List Heard) (n : ℕ) (packet : List ℕ) → false ≡ is_part_again past (Other n packet)
unfolding is_part_again
other_unsaid past n packet = refl

pub emm_unsaid : (past : List Heard) (read : Result (Option Emm) EmmFault) →
    false ≡ is_part_again past (heard_emm read)
unfolding is_part_again
emm_unsaid past (Ok None) = refl
emm_unsaid past (Ok (Some emm)) = refl
emm_unsaid past (Err fault) = refl

-- what is asked of a part once a CAT was taken, and before
pub again_heard : (past : List (List ℕ)) (receiver : Receiver) (packet : List ℕ) (tuning : Tuning) (thing : Heard)
    (b : Bool) → HasReceived past receiver → receiver.tuning ≡ Some tuning →
    hears (receiver_card receiver).height tuning (length past) packet ≡ thing →
    b ≡ is_part_again (heard (receiver_card receiver) past) thing →
    b ≡ option_map_or (λ t. is_part_again (heard (receiver_card receiver) past)
    (hears (receiver_card receiver).height t (length past) packet)) (tuning_of (receiver_card receiver).ca past) false
again_heard past receiver packet tuning thing b after some is judged =
    let e : tuning_of receiver.card.ca past ≡ Some tuning = sym after.tuning ∙ some in
    judged ∙ (ap (is_part_again (heard (receiver_card receiver) past)) (sym is) ∙ sym (rw e refl))

pub untuned_unsaid : (past : List (List ℕ)) (receiver : Receiver) (packet : List ℕ) → HasReceived past receiver →
    receiver.tuning ≡ None → false ≡ option_map_or (λ t. is_part_again (heard (receiver_card receiver) past)
    (hears (receiver_card receiver).height t (length past) packet)) (tuning_of (receiver_card receiver).ca past) false
untuned_unsaid past receiver packet after none =
    let e : tuning_of receiver.card.ca past ≡ None = sym after.tuning ∙ none in rw e refl
