-- What packets come to for the receiver, one after the other.
use Rattle.std.proofs.Common.{◌≡◌, ℕ, ◌+◌, ◌-◌, ◌*◌, ◌^◌, ◌<◌, ◌≤◌, ◌++◌, List, [], ◌∷◌, length, append-nil}
use Rattle.std.proofs.Common.{append_assoc, refl, sym, ap, ◌∙◌, subst, true, false, Bool, arith}
use Rattle.std.specs.Prelude.{Option, Some, None, reverse, is_none, if◌then◌else◌}
use Rattle.std.specs.List.{concat}
use Rattle.std.specs.Option.{option_map_or}
use Rattle.std.proofs.lemmas.List.{length-reverse}
use Rattle.std.proofs.lemmas.List.Folds.{concat-append}
use Rattle.sd_base.proofs.Lists.{reversed, first_none, rest_none}
use Rattle.sd_site_cards.specs.CardFields.{CardFields, card_fields_of}
use Rattle.sd_site_cards.specs.declared.card.Card.{Card}
use Rattle.sd_engine.specs.Stage.{Chain}
use Rattle.sd_message.specs.declared.stream_fault.StreamFault.{StreamFault}
use Rattle.sd_spec.specs.Offered.{offered, out_from, break_from}
use Rattle.sd_spec.proofs.Turns.{one_more}
use Rattle.sd_receive.specs.Receiving.{receiver_card, HasReceived, takes_key_at, steps_at, taken_keys}
use Rattle.sd_receive.specs.Receiving.{RefusesReceivedPacket}
use Rattle.sd_receive.specs.Receiving.{receiver_does, Refusing, OutcomeAfter, OutcomeOf, BreakAt}
use Rattle.sd_receive.specs.declared.receiver.Receiver.{Receiver}

break_first : (card : CardFields) (past : List (List ℕ)) (packet : List ℕ) (packets : List (List ℕ)) →
    (offered card past packet).fault ≡ None → break_from card past (packet ∷ packets) ≡ break_from card
    (packet ∷ past) packets
unfolding break_from
break_first card past packet packets none =
    ap (λ (f : Option StreamFault). option_map_or Some f (break_from card (packet ∷ past) packets)) none

-- or it is
out_last : (card : CardFields) (past : List (List ℕ)) (packet : List ℕ) (packets : List (List ℕ)) (why : StreamFault) →
    (offered card past packet).fault ≡ Some why → out_from card past (packet ∷ packets) ≡
    (offered card past packet).wrote
unfolding out_from
out_last card past packet packets why some =
    ap (λ (f : Option StreamFault). (offered card past packet).wrote ++
    (if is_none f then out_from card (packet ∷ past) packets else [])) some
    ∙ append-nil (offered card past packet).wrote

break_last : (card : CardFields) (past : List (List ℕ)) (packet : List ℕ) (packets : List (List ℕ))
    (why : StreamFault) →
    (offered card past packet).fault ≡ Some why → break_from card past (packet ∷ packets) ≡ Some why
unfolding break_from
break_last card past packet packets why some =
    ap (λ (f : Option StreamFault). option_map_or Some f (break_from card (packet ∷ past) packets)) some

-- the steps of a packet are those of its key
steps_of : (test : Bool) (height more n m : ℕ) → n ≤ (if test then height else 0) → m ≤ height * more →
    n + m ≤ height * ((if test then 1 else 0) + more)
steps_of true height more n m few rest = let e : height * (1 + more) ≡ height + height * more =
    grind (arith) in omega (arith, few, rest, e)
steps_of false height more n m few rest = let e : height * (0 + more) ≡ height * more =
    grind (arith) in omega (arith, few, rest, e)

joined_out : (first rest : List ℕ) (wrote more : List (List ℕ)) → first ≡ concat wrote → rest ≡ concat more →
    first ++ rest ≡ concat (wrote ++ more)
joined_out first rest wrote more p q = ap (λ (x : List ℕ). x ++ rest) p ∙
    (ap (λ (y : List ℕ). concat wrote ++ y) q ∙ sym (concat-append wrote more))

pub came_to : (past packets : List (List ℕ)) (s t : Receiver) (bytes : List ℕ) (n : ℕ) → HasReceived past s →
    length past + length packets ≤ 2 ^ 64 - 1 → Chain receiver_does s packets t bytes n →
    OutcomeAfter (receiver_card s) past packets t bytes n
unfolding out_from break_from taken_keys
came_to past [] s t bytes n after few (same, none, none_taken) = record {
  written = none;
  unbroken = refl;
  after = subst (λ (u : Receiver). HasReceived past u) same after;
  few = omega (arith, none_taken);
  same = ap receiver_card (sym same);
}
came_to past (packet ∷ packets) s t bytes n after few (mid, first, rest, m, k, one, more, joined, counted) =
    let here = one past after (omega (arith, few)) in
    let card = receiver_card s in
    let kept : receiver_card mid ≡ card = ap (λ (c : Card). card_fields_of c) here.same in
    let there = subst (λ (c : CardFields). OutcomeAfter c (packet ∷ past) packets t rest k) kept
    (came_to (packet ∷ past) packets mid t rest k here.after (omega (arith, few)) more) in
    record {
      written = joined ∙ (joined_out first rest (offered card past packet).wrote (out_from card (packet ∷ past) packets)
          here.bytes_are there.written ∙ ap concat (sym (one_more card past packet packets here.fault)));
      unbroken = break_first card past packet packets here.fault ∙ there.unbroken;
      after = subst (λ (ps : List (List ℕ)). HasReceived ps t) (sym (reversed packet packets past)) there.after;
      few = subst (λ (x : ℕ). x ≤ card.height * taken_keys card past (packet ∷ packets)) (sym counted)
          (steps_of (takes_key_at card past packet) card.height (taken_keys card (packet ∷ past) packets) m k here.few
          there.few);
      same = there.same;
    }

pub out_joined : (card : CardFields) (past packets more : List (List ℕ)) → break_from card past packets ≡ None →
    (out_from card past (packets ++ more) ≡ out_from card past packets ++ out_from card (reverse packets ++ past) more)
    × (break_from card past (packets ++ more) ≡ break_from card (reverse packets ++ past) more)
unfolding out_from break_from
out_joined card past [] more none = (refl, refl)
out_joined card past (packet ∷ packets) more none =
    let good = first_none (offered card past packet).fault (break_from card (packet ∷ past) packets) none in
    let rest = rest_none (offered card past packet).fault (break_from card (packet ∷ past) packets) none in
    let there = out_joined card (packet ∷ past) packets more rest in
    let turned = reversed packet packets past in (
      one_more card past packet (packets ++ more) good
          ∙ (ap (λ (o : List (List ℕ)). (offered card past packet).wrote ++ o) there.0
          ∙ (sym (append_assoc (offered card past packet).wrote (out_from card (packet ∷ past) packets)
          (out_from card (reverse packets ++ packet ∷ past) more))
          ∙ (ap (λ (o : List (List ℕ)). o ++ out_from card (reverse packets ++ packet ∷ past) more)
          (sym (one_more card past packet packets good))
          ∙ ap (λ (b : List (List ℕ)). out_from card past (packet ∷ packets) ++ out_from card b more) (sym turned)))),
      break_first card past packet (packets ++ more) good
          ∙ (there.1 ∙ ap (λ (b : List (List ℕ)). break_from card b more) (sym turned)),
    )

pub came_to_all : (packets : List (List ℕ)) (s t : Receiver) (bytes : List ℕ) (n : ℕ) → HasReceived [] s →
    length packets ≤ 2 ^ 64 - 1 → Chain receiver_does s packets t bytes n →
    OutcomeOf (receiver_card s) packets t bytes n
came_to_all packets s t bytes n after few chain =
    let came = came_to [] packets s t bytes n after (omega (arith, few)) chain in
    record {
      written = came.written;
      unbroken = came.unbroken;
      after = subst (λ (ps : List (List ℕ)). HasReceived ps t) (append-nil (reverse packets)) came.after;
      few = came.few;
      same = came.same;
    }

-- a refusal, by the card alone
record RefusedBy (card : CardFields) (past : List (List ℕ)) (packet : List ℕ) (why : StreamFault) (bytes : List ℕ)
    (steps : ℕ) : Type 0 where
  fault : (offered card past packet).fault ≡ Some why
  bytes_are : bytes ≡ concat (offered card past packet).wrote
  few : steps ≤ steps_at card past packet

refused_by : (past : List (List ℕ)) (s : Receiver) (packet : List ℕ) (why : StreamFault) (bytes : List ℕ) (steps : ℕ) →
    RefusesReceivedPacket true past s packet why bytes steps → RefusedBy (receiver_card s) past packet why bytes steps
refused_by past s packet why bytes steps is = record { fault = is.fault; bytes_are = is.bytes_are; few = is.few }

-- one packet more takes one key more or none
keys_more : (card : CardFields) (past packets : List (List ℕ)) (packet : List ℕ) →
    taken_keys card past (packets ++ packet ∷ [])
    ≡ taken_keys card past packets + (if takes_key_at card (reverse packets ++ past) packet then 1 else 0)
unfolding taken_keys
keys_more card past [] packet = omega arith
keys_more card past (first ∷ packets) packet =
    let there = keys_more card (first ∷ past) packets packet in
    let turned = ap {B = ℕ} (λ (b : List (List ℕ)). if takes_key_at card b packet then 1 else 0)
    (reversed first packets past) in
    omega (arith, there, turned)

steps_after : (height keys : ℕ) (test : Bool) (m k : ℕ) → m ≤ height * keys → k ≤ (if test then height else 0) →
    m + k ≤ height * (keys + (if test then 1 else 0))
steps_after height keys true m k few one = let e : height * (keys + 1) ≡ height * keys + height =
    grind (arith) in omega (arith, few, one, e)
steps_after height keys false m k few one = let e : height * (keys + 0) ≡ height * keys =
    grind (arith) in omega (arith, few, one, e)

-- the steps of packets and of the one after them are those of their keys
pub steps_more : (card : CardFields) (packets : List (List ℕ)) (packet : List ℕ) (m k : ℕ) →
    m ≤ card.height * taken_keys card [] packets → k ≤ steps_at card (reverse packets ++ []) packet →
    m + k ≤ card.height * taken_keys card [] (packets ++ packet ∷ [])
steps_more card packets packet m k few one =
    subst (λ (n : ℕ). m + k ≤ card.height * n) (sym (keys_more card [] packets packet))
    (steps_after card.height (taken_keys card [] packets) (takes_key_at card (reverse packets ++ []) packet) m k few
    one)

pub broke_at : (packets : List (List ℕ)) (s mid : Receiver) (packet : List ℕ) (more : List (List ℕ)) (why : StreamFault)
    (first last : List ℕ) (m k : ℕ) → HasReceived [] s → length packets < 2 ^ 64 - 1 →
    Chain receiver_does s packets mid first m →
    Refusing mid packet why last k →
    BreakAt (receiver_card s) packets packet more why (first ++ last) (m + k)
broke_at packets s mid packet more why first last m k after few chain refuses =
    let card = receiver_card s in
    let came = came_to [] packets s mid first m after (omega (arith, few)) chain in
    let before : List (List ℕ) = reverse packets ++ [] in
    let long : length before ≡ length packets =
    ap (λ (l : List (List ℕ)). length l) (append-nil (reverse packets)) ∙ length-reverse packets in
    let stopped = subst (λ (c : CardFields). RefusedBy c before packet why last k) came.same
    (refused_by before mid packet why last k (refuses before came.after (omega (arith, long, few)))) in
    let parts = out_joined card [] packets (packet ∷ more) came.unbroken in
    record {
      written = joined_out first last (out_from card [] packets) (out_from card before (packet ∷ more)) came.written
          (stopped.bytes_are ∙ ap concat (sym (out_last card before packet more why stopped.fault)))
          ∙ ap concat (sym parts.0);
      broken = parts.1 ∙ break_last card before packet more why stopped.fault;
      few = steps_more card packets packet m k came.few stopped.few;
    }
