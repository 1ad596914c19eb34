-- Public meaning: a head end that goes on, whatever comes.
use Rattle.std.specs.Prelude.{◌≡◌, ℕ, ◌+◌, ◌-◌, ◌^◌, ◌<◌, ◌≤◌, ◌==◌, ◌||◌, not, Bool, List, [], ◌∷◌, ◌++◌, length}
use Rattle.std.specs.Prelude.{if◌then◌else◌, None}
use Rattle.std.specs.List.{concat}
use Rattle.sd_base.specs.Types.{Packet, Packets, PacketNumber}
use Rattle.sd_spec.specs.Plan.{Plan, period_of}
use Rattle.sd_spec.specs.Sent.{sent, closing_of, bytes_added, packets_from}
use Rattle.sd_spec.specs.Aired.{Verdict, Marked, Refused, Sent, Ends, verdict_of, by_verdict, aired, ended_from}
use Rattle.sd_spec.specs.Aired.{left_from}
use Rattle.sd_head.specs.Staged.{IsHeadEndAfter, IsOn}
use Rattle.sd_head.specs.declared.live.Live.{Live}
use Rattle.sd_head.specs.declared.live.Taken.{Taken}
use Rattle.sd_head.specs.declared.live.Taken.TheVariants.{On, Begins, Full}

-- the broadcast goes on after these packets; the head end has sent the broadcast of those that are sent, up to where
-- the next one's part begins, and it has counted what is left out [this project, docs/FORMATS.md, On air]
pub record IsLiveAfter (plan : Plan) (past : Packets) (live : Live) : Type 0 where
  pub head_is : IsHeadEndAfter plan (aired plan.site past) live.head
  pub goes_on : ended_from plan.site [] 0 past ≡ None
  pub left_out_is : live.left_out ≡ left_from plan.site [] 0 past
  pub packets_are : live.packets ≡ length past

-- it may be given a packet: no write failed, and it wasn't closed
abbrev pub IsOnAir : Live → Type 0
IsOnAir live = IsOn live.head

-- what becomes of a packet after these [this project, docs/FORMATS.md, On air]
abbrev pub verdict_after : Plan → Packets → Packet → Verdict
verdict_after plan past packet = verdict_of plan.site (aired plan.site past) (length past) packet

-- a period begins with packet k of a broadcast
unfoldable pub starts_period : Plan → PacketNumber → Bool
starts_period plan k = (k == 0) || not (period_of plan (k - 1) == period_of plan k)

-- what is told of a packet of which this becomes, after so many that were sent
abbrev pub told_by_verdict : Plan → PacketNumber → Verdict → Taken
told_by_verdict plan k Marked = On
told_by_verdict plan k (Refused fault) = On
told_by_verdict plan k Sent = if starts_period plan k then Begins else On
told_by_verdict plan k Ends = Full

-- the state after a packet of which this becomes: after one packet more, or as before
abbrev pub LeadsToLive : Plan → Packets → Packet → Live → Live → Verdict → Type 0
LeadsToLive plan past packet s t Marked = IsLiveAfter plan (past ++ packet ∷ []) t
LeadsToLive plan past packet s t (Refused fault) = IsLiveAfter plan (past ++ packet ∷ []) t
LeadsToLive plan past packet s t Sent = IsLiveAfter plan (past ++ packet ∷ []) t
LeadsToLive plan past packet s t Ends = t ≡ s

-- the result of a packet after these: what is told of it, what is written, and the state after it [this project,
-- docs/FORMATS.md, On air]
pub record TakesLivePacket (plan : Plan) (past : Packets) (s : Live) (packet : Packet) (t : Live) (taken : Taken)
    (bytes : List ℕ) : Type 0 where
  pub told : taken ≡ told_by_verdict plan (length (aired plan.site past)) (verdict_after plan past packet)
  pub bytes_are : bytes ≡
      by_verdict (verdict_after plan past packet) (bytes_added plan (aired plan.site past) packet) [] []
  pub leads : LeadsToLive plan past packet s t (verdict_after plan past packet)

-- a packet is taken, whatever packets led to what is kept
abbrev pub live_takes : Live → Packet → Live → Taken → List ℕ → ℕ → Type 0
live_takes s packet t taken bytes steps = (plan : Plan) (past : Packets) → IsLiveAfter plan past s →
    length past < 2 ^ 48 →
    TakesLivePacket plan past s packet t taken bytes

-- a write failed of these bytes: those of a packet that is sent
abbrev pub live_stops : Live → Packet → ℕ → ℕ → List ℕ → Type 0
live_stops s packet from to bytes = (steps : ℕ) × (to ≤ from + steps)
    × ((plan : Plan) (past : Packets) → IsLiveAfter plan past s → (verdict_after plan past packet ≡ Sent)
    × (bytes ≡ bytes_added plan (aired plan.site past) packet))

-- at the end these are the bytes of the closing message
abbrev pub live_ends : Live → List ℕ → ℕ → Type 0
live_ends s bytes steps = (plan : Plan) (past : Packets) → IsLiveAfter plan past s → bytes ≡
    concat (packets_from plan.site (sent plan (aired plan.site past)) (closing_of plan (aired plan.site past)))

-- a write failed of these bytes: those of the closing message
abbrev pub live_breaks : Live → ℕ → ℕ → List ℕ → Type 0
live_breaks s from to bytes = (steps : ℕ) × (to ≤ from + steps) × live_ends s bytes steps
