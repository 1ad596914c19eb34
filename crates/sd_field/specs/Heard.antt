-- Public meaning: what one receiver of a field keeps and wrote.
use Rattle.std.specs.Prelude.{◌≡◌, ℕ, ◌-◌, ◌≤◌, List, [], ◌++◌, length, None, Some}
use Rattle.std.specs.List.{concat}
use Rattle.sd_site_cards.specs.CardFields.{CardFields}
use Rattle.sd_ports.specs.Memory.{Store, room_in}
use Rattle.sd_engine.specs.Stage.{Chain}
use Rattle.sd_message.specs.declared.stream_fault.StreamFault.{StreamFault}
use Rattle.sd_spec.specs.Offered.{out_from, break_from}
use Rattle.sd_receive.specs.Receiving.{HasReceived, MayReceive, receiver_card, receiver_does}
use Rattle.sd_receive.specs.declared.receiver.Receiver.{Receiver}

-- the receiver is a new one with this card that was offered these packets
pub record IsReceiverAfter (card : CardFields) (xs : List (List ℕ)) (receiver : Receiver) : Type 0 where
  pub start : Receiver
  pub bytes : List ℕ
  pub steps : ℕ
  pub new : HasReceived [] start
  pub live : MayReceive start
  pub same : receiver_card start ≡ card
  pub chain : Chain receiver_does start xs receiver bytes steps
  pub wrote : bytes ≡ concat (out_from card [] xs)

-- the receiver after the packets that it was offered since it was switched on. `held` is what was written before, and
-- what a receiver with the card writes of these packets. If one of them is refused, the receiver keeps that refusal
pub record IsHeard (card : CardFields) (earlier : List ℕ) (xs : List (List ℕ)) (receiver : Receiver)
    (held : List ℕ) : Type 0 where
  pub bytes : held ≡ earlier ++ concat (out_from card [] xs)
  pub stands : break_from card [] xs ≡ None → IsReceiverAfter card xs receiver
  pub broken : (why : StreamFault) → break_from card [] xs ≡ Some why → receiver.refusal ≡ Some why
  pub live : MayReceive receiver

-- the sink has room for `total` bytes in all
pub record HasStoreRoom (total : ℕ) (store : Store) : Type 0 where
  pub fits : length store.held ≤ total
  pub left : room_in store ≡ Some (total - length store.held)
