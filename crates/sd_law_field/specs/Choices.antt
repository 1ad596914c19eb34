-- Public meaning: what the receivers of a field can be made to hear. Events are listed with the newest first.
use Rattle.std.specs.Prelude.{ℕ, ◌<◌, Bool, true, false, List, All, length}
use Rattle.std.specs.List.{concat}
use Rattle.std.specs.List.Sorted.{IsStrictlyIncreasing}
use Rattle.sd_base.specs.Types.{PacketNumber}
use Rattle.sd_spec.specs.declared.event.Event.{Event}
use Rattle.sd_spec.specs.declared.event.Event.TheVariants.{Subscribe, Revoke, Send, Offer, Lose, Off, On}

-- the event is one of the head end: a command for the book, or a send
abbrev pub is_of_head : Event → Bool
is_of_head (Subscribe u) = true
is_of_head (Revoke u) = true
is_of_head Send = true
is_of_head (Offer u) = false
is_of_head (Lose u) = false
is_of_head (Off u) = false
is_of_head (On u) = false

-- a choice among n packets that were sent: for each time that a receiver is on, the first of which begins with the
-- field, the numbers of the packets that it is offered. They rise over all times
pub record IsChoice (n : ℕ) (choice : List (List PacketNumber)) : Type 0 where
  pub some : 0 < length choice
  pub rising : IsStrictlyIncreasing (concat choice)
  pub sent : All (λ i. i < n) (concat choice)
