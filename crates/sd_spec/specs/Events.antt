-- Public meaning: what the events of a field are about.
use Rattle.std.specs.Prelude.{ℕ, suc, ◌^◌, Bool, true, false, nat_lt, if◌then◌else◌}
use Rattle.sd_base.specs.Types.{Height}
use Rattle.sd_spec.specs.declared.event.Event.{Event}
use Rattle.sd_spec.specs.declared.event.Event.TheVariants.{Subscribe, Revoke, Send, Offer, Lose, Off, On}

-- the event's leaf, if it has one, is a leaf of a tree of height d
abbrev pub is_of : Height → Event → Bool
is_of d (Subscribe u) = nat_lt u (2 ^ d)
is_of d (Revoke u) = nat_lt u (2 ^ d)
is_of d Send = true
is_of d (Offer u) = nat_lt u (2 ^ d)
is_of d (Lose u) = nat_lt u (2 ^ d)
is_of d (Off u) = nat_lt u (2 ^ d)
is_of d (On u) = nat_lt u (2 ^ d)

-- the event is a send
abbrev pub is_send : Event → Bool
is_send (Subscribe u) = false
is_send (Revoke u) = false
is_send Send = true
is_send (Offer u) = false
is_send (Lose u) = false
is_send (Off u) = false
is_send (On u) = false

-- the number of clear packets that were sent of m after one event more: a send with none left counts for nothing
abbrev pub sends_with : ℕ → Event → ℕ → ℕ
sends_with m event k = if is_send event then (if nat_lt k m then suc k else k) else k
