-- What a packet makes of what was heard.
use Rattle.std.proofs.Common.{arith, ◌≡◌, ℕ, ◌+◌, ◌-◌, ◌<◌, List, [], ◌∷◌, ◌++◌, refl, ap, sym, subst, ◌∙◌}
use Rattle.std.proofs.Common.{append-nil, append_assoc, length, length-append}
use Rattle.std.specs.Prelude.{Option, Some, None, reverse, is_none, if◌then◌else◌}
use Rattle.std.specs.List.{concat}
use Rattle.std.specs.Option.{option_map_or}
use Rattle.std.proofs.lemmas.List.{length-reverse}
use Rattle.std.proofs.lemmas.List.Folds.{concat-append}
use Rattle.sd_site_cards.specs.CardFields.{CardFields}
use Rattle.sd_ports.specs.Memory.{Store, room_in}
use Rattle.sd_ports.specs.Rooms.{HasTaken}
use Rattle.sd_engine.specs.Stage.{IsTooShort}
use Rattle.sd_engine.proofs.Chains.{chain_on}
use Rattle.sd_message.specs.declared.stream_fault.StreamFault.{StreamFault}
use Rattle.sd_spec.specs.Offered.{offered, out_from, break_from}
use Rattle.sd_receive.specs.Receiving.{HasReceived, IsCountable, MayReceive, Refusing, receiver_card, receiver_does}
use Rattle.sd_receive.specs.declared.receiver.Receiver.{Receiver}
use Rattle.sd_receive.proofs.Chained.{came_to_all}
use Rattle.sd_receive.proofs.Turns.{out_more, break_more}
use Rattle.sd_spec.proofs.Offers.{out_of_one_more}
use Rattle.sd_field.specs.Heard.{IsReceiverAfter, IsHeard, HasStoreRoom}

-- what a receiver keeps that stands after packets
after_of : (card : CardFields) (xs : List (List ℕ)) (s : Receiver) → IsCountable xs → IsReceiverAfter card xs s →
    HasReceived (reverse xs) s × (receiver_card s ≡ card)
after_of card xs s few stands =
    let came = came_to_all xs stands.start s stands.bytes stands.steps stands.new (omega (arith, few)) stands.chain in
    (came.after, came.same ∙ stands.same)

-- none of the packets of a receiver was refused that keeps no refusal
unbroken : (card : CardFields) (earlier : List ℕ) (xs : List (List ℕ)) (s : Receiver) (held : List ℕ) →
    IsHeard card earlier xs s held → s.refusal ≡ None → break_from card [] xs ≡ None
unbroken card earlier xs s held heard calm = by_break (break_from card [] xs) refl
  where
    by_break : (fault : Option StreamFault) → break_from card [] xs ≡ fault → fault ≡ None
    by_break None is = refl
    by_break (Some why) is = absurd (let kept = sym calm ∙ heard.broken why is in cc)

-- one of them was that keeps one
broken : (card : CardFields) (earlier : List ℕ) (xs : List (List ℕ)) (s : Receiver) (held : List ℕ)
    (why : StreamFault) → IsCountable xs → IsHeard card earlier xs s held → s.refusal ≡ Some why →
    break_from card [] xs ≡ Some why
broken card earlier xs s held why few heard kept = by_break (break_from card [] xs) refl
  where
    by_break : (fault : Option StreamFault) → break_from card [] xs ≡ fault → fault ≡ Some why
    by_break None is =
        absurd (let none = sym ((after_of card xs s few (heard.stands is)).0.unrefused) ∙ kept in cc)
    by_break (Some other) is = sym (heard.broken other is) ∙ kept

-- what is written of one packet more
wrote_more : (card : CardFields) (earlier : List ℕ) (xs : List (List ℕ)) (packet held bytes : List ℕ) →
    held ≡ earlier ++ concat (out_from card [] xs) → break_from card [] xs ≡ None →
    bytes ≡ concat (offered card (reverse xs) packet).wrote →
    held ++ bytes ≡ earlier ++ concat (out_from card [] (xs ++ packet ∷ []))
wrote_more card earlier xs packet held bytes is calm wrote =
    let out : List (List ℕ) = out_from card [] xs in
    let more : List (List ℕ) = (offered card (reverse xs) packet).wrote in
    let all : out_from card [] (xs ++ packet ∷ []) ≡ out ++ more =
    out_more card [] xs packet calm
    ∙ ap (λ (past : List (List ℕ)). out ++ (offered card past packet).wrote) (append-nil (reverse xs)) in
    ap (λ (first : List ℕ). first ++ bytes) is
    ∙ (ap (λ (last : List ℕ). (earlier ++ concat out) ++ last) wrote
    ∙ (append_assoc earlier (concat out) (concat more)
    ∙ ap (λ (rest : List ℕ). earlier ++ rest) (sym (ap concat all ∙ concat-append out more))))

fault_more : (card : CardFields) (xs : List (List ℕ)) (packet : List ℕ) (fault : Option StreamFault) →
    break_from card [] xs ≡ None → (offered card (reverse xs) packet).fault ≡ fault →
    break_from card [] (xs ++ packet ∷ []) ≡ fault
fault_more card xs packet fault calm is =
    break_more card [] xs packet calm
    ∙ (ap (λ (past : List (List ℕ)). (offered card past packet).fault) (append-nil (reverse xs)) ∙ is)

-- the reversed packets are as many
countable : (xs : List (List ℕ)) → IsCountable xs → IsCountable (reverse xs)
countable xs few = omega (arith, few, length-reverse xs)

-- a packet that is taken
pub heard_taken : (card : CardFields) (earlier : List ℕ) (xs : List (List ℕ)) (s : Receiver) (packet : List ℕ)
    (t : Receiver) (held bytes : List ℕ) (steps : ℕ) → IsCountable xs → IsHeard card earlier xs s held →
    s.refusal ≡ None → receiver_does s packet t bytes steps → MayReceive t →
    IsHeard card earlier (xs ++ packet ∷ []) t (held ++ bytes)
heard_taken card earlier xs s packet t held bytes steps few heard calm does live =
    let quiet = unbroken card earlier xs s held heard calm in
    let stands = heard.stands quiet in
    let after = after_of card xs s few stands in
    let took = does (reverse xs) after.0 (countable xs few) in
    let wrote : bytes ≡ concat (offered card (reverse xs) packet).wrote =
    took.bytes_are ∙ ap (λ (c : CardFields). concat (offered c (reverse xs) packet).wrote) after.1 in
    let none : break_from card [] (xs ++ packet ∷ []) ≡ None =
    fault_more card xs packet None quiet
    (sym (ap (λ (c : CardFields). (offered c (reverse xs) packet).fault) after.1) ∙ took.fault) in
    record {
      bytes = wrote_more card earlier xs packet held bytes heard.bytes quiet wrote;
      stands = λ _. record {
        start = stands.start;
        bytes = stands.bytes ++ bytes;
        steps = stands.steps + steps;
        new = stands.new;
        live = stands.live;
        same = stands.same;
        chain = chain_on receiver_does stands.start xs s stands.bytes stands.steps packet t bytes steps stands.chain
            does;
        wrote = wrote_more card [] xs packet stands.bytes bytes stands.wrote quiet wrote;
      };
      broken = λ why is. absurd (let no = sym none ∙ is in cc);
      live = live;
    }

-- a packet that is refused
pub heard_refused : (card : CardFields) (earlier : List ℕ) (xs : List (List ℕ)) (s : Receiver) (packet : List ℕ)
    (t : Receiver) (held bytes : List ℕ) (steps : ℕ) (why : StreamFault) → IsCountable xs →
    IsHeard card earlier xs s held → s.refusal ≡ None → Refusing s packet why bytes steps → t.refusal ≡ Some why →
    MayReceive t → IsHeard card earlier (xs ++ packet ∷ []) t (held ++ bytes)
heard_refused card earlier xs s packet t held bytes steps why few heard calm does kept live =
    let quiet = unbroken card earlier xs s held heard calm in
    let after = after_of card xs s few (heard.stands quiet) in
    let took = does (reverse xs) after.0 (countable xs few) in
    let wrote : bytes ≡ concat (offered card (reverse xs) packet).wrote =
    took.bytes_are ∙ ap (λ (c : CardFields). concat (offered c (reverse xs) packet).wrote) after.1 in
    let some : break_from card [] (xs ++ packet ∷ []) ≡ Some why =
    fault_more card xs packet (Some why) quiet
    (sym (ap (λ (c : CardFields). (offered c (reverse xs) packet).fault) after.1) ∙ took.fault) in
    record {
      bytes = wrote_more card earlier xs packet held bytes heard.bytes quiet wrote;
      stands = λ is. absurd (let no = sym is ∙ some in cc);
      broken = λ other is. kept ∙ (sym some ∙ is);
      live = live;
    }

-- a refusal stays with more packets
break_stays : (card : CardFields) (past xs ys : List (List ℕ)) (why : StreamFault) →
    break_from card past xs ≡ Some why → break_from card past (xs ++ ys) ≡ Some why
unfolding break_from
break_stays card past [] ys why is = absurd cc
break_stays card past (x ∷ xs) ys why is =
    first_break (offered card past x).fault (break_from card (x ∷ past) xs) (break_from card (x ∷ past) (xs ++ ys)) why
    is (break_stays card (x ∷ past) xs ys why)
  where
    first_break : (fault rest more : Option StreamFault) (why : StreamFault) →
        option_map_or Some fault rest ≡ Some why → (rest ≡ Some why → more ≡ Some why) →
        option_map_or Some fault more ≡ Some why
    first_break None rest more why is on = on is
    first_break (Some f) rest more why is on = is

-- a packet after a refusal
pub heard_kept : (card : CardFields) (earlier : List ℕ) (xs : List (List ℕ)) (s : Receiver) (packet : List ℕ)
    (t : Receiver) (held : List ℕ) (why : StreamFault) → IsCountable xs → IsHeard card earlier xs s held →
    s.refusal ≡ Some why → t.refusal ≡ Some why → MayReceive t → IsHeard card earlier (xs ++ packet ∷ []) t held
heard_kept card earlier xs s packet t held why few heard kept still live =
    let some = broken card earlier xs s held why few heard kept in
    let more = break_stays card [] xs (packet ∷ []) why some in
    let same : out_from card [] (xs ++ packet ∷ []) ≡ out_from card [] xs =
    out_of_one_more card [] xs packet
    ∙ (ap (λ (fault : Option StreamFault). out_from card [] xs
    ++ (if is_none fault then (offered card (reverse xs ++ []) packet).wrote else [])) some
    ∙ append-nil (out_from card [] xs)) in
    record {
      bytes = heard.bytes ∙ ap (λ (out : List (List ℕ)). earlier ++ concat out) (sym same);
      stands = λ is. absurd (let no = sym is ∙ more in cc);
      broken = λ other is. still ∙ (sym more ∙ is);
      live = live;
    }

-- by whether a refusal is kept
pub by_kept : (A : Type 0) (refusal : Option StreamFault) → (refusal ≡ None → A) →
    ((why : StreamFault) → refusal ≡ Some why → A) → A
by_kept A None calm kept = calm refl
by_kept A (Some why) calm kept = kept why refl

-- what is written of a packet passes the room, if a write fails
pub full_more : (card : CardFields) (earlier : List ℕ) (xs : List (List ℕ)) (s : Receiver) (packet : List ℕ)
    (total : ℕ) (store : Store) (bytes : List ℕ) → IsCountable xs → IsHeard card earlier xs s store.held →
    s.refusal ≡ None → HasStoreRoom total store → IsTooShort (room_in store) (length bytes) →
    ((past : List (List ℕ)) → HasReceived past s → IsCountable past →
    bytes ≡ concat (offered (receiver_card s) past packet).wrote) →
    total < length (earlier ++ concat (out_from card [] (xs ++ packet ∷ [])))
full_more card earlier xs s packet total store bytes few heard calm room short are =
    let quiet = unbroken card earlier xs s store.held heard calm in
    let after = after_of card xs s few (heard.stands quiet) in
    let wrote : bytes ≡ concat (offered card (reverse xs) packet).wrote =
    are (reverse xs) after.0 (countable xs few)
    ∙ ap (λ (c : CardFields). concat (offered c (reverse xs) packet).wrote) after.1 in
    let passes : total - length store.held < length bytes =
    subst (λ (left : Option ℕ). IsTooShort left (length bytes)) room.left short in
    let fits = room.fits in
    omega (
      arith,
      passes,
      fits,
      length-append store.held bytes,
      ap length (wrote_more card earlier xs packet store.held bytes heard.bytes quiet wrote),
    )

-- what is written leaves the room that there is in all
pub room_left : (total : ℕ) (old new : Store) (bytes : List ℕ) → HasStoreRoom total old → new.held ≡ old.held ++ bytes →
    HasTaken (room_in old) (room_in new) (length bytes) → HasStoreRoom total new
room_left total old new bytes room is taken =
    let took = subst (λ (left : Option ℕ). HasTaken left (room_in new) (length bytes)) room.left taken in
    let long : length new.held ≡ length old.held + length bytes = ap length is ∙ length-append old.held bytes in
    let fits = room.fits in
    record {
      fits = omega (arith, long, fits, took.0);
      left = took.1 ∙ ap (λ (n : ℕ). Some n) (omega (arith, long, fits));
    }
