-- Public meaning: rules that tell positions of the packets between two neighbouring messages.
use Rattle.std.specs.Prelude.{◌≡◌, ℕ, ◌+◌, ◌*◌, ◌<◌, ◌≤◌, ◌==◌, ◌&&◌, Bool, true, false, nat_le, nat_lt, List, []}
use Rattle.std.specs.Prelude.{◌∷◌, ◌++◌, length, map, take, get_or, Option, Some, None, if◌then◌else◌}
use Rattle.std.specs.Option.{option_map_or}
use Rattle.sd_base.specs.Types.{Packet, Packets, Arrived, Pid, Position, MessageNumber, PacketNumber}
use Rattle.sd_packet.specs.Header.{pid_of, unit_start_of, counter_of, scrambling_of, adaptation_of, payload_start_of}
use Rattle.sd_packet.specs.Positions.{first_position, advanced, position_of}
use Rattle.sd_message.specs.EcmParts.{Message}
use Rattle.sd_site_cards.specs.SiteFields.{SiteFields}
use Rattle.sd_spec.specs.Plan.{Plan, closing_number}
use Rattle.sd_spec.specs.Carried.{carried}
use Rattle.sd_spec.specs.Sent.{Item}
use Rattle.sd_spec.specs.Confirmed.{position_in}
use Rattle.sd_law_broadcast.specs.Packets.{AreWholePackets}
use Rattle.sd_law_broadcast.specs.Numbered.{numbered_message}
use Rattle.sd_law_losses.specs.Chosen.{chosen}
use Rattle.sd_law_losses.specs.Kept.{is_kept, kept_in, has_arrived}
use Rattle.sd_law_losses.specs.Confirmed.{packet_at, upto, kept_between}
use Rattle.sd_law_progress.specs.Progress.{things, is_scrambled_at}

-- what a packet shows without its payload [ISO/IEC 13818-1, 2.4.3.2]
pub record Sketch : Type 0 where
  pub pid : Pid
  pub unit_start : ℕ
  pub counter : ℕ
  pub control : ℕ
  pub adaptation : ℕ
  pub start : ℕ

abbrev pub sketch_of : Packet → Sketch
sketch_of packet = record {
  pid = pid_of packet;
  unit_start = unit_start_of packet;
  counter = counter_of packet;
  control = scrambling_of packet;
  adaptation = adaptation_of packet;
  start = payload_start_of packet;
}

-- a rule that tells positions of the packets between two neighbouring messages, or doesn't: it sees all that the two
-- messages say, and the headers of the packets that are kept between them
abbrev pub Judge : Type 0
Judge = Message → Message → List Sketch → List (Option Position)

-- the headers of the packets that are kept between messages a and a + 1
abbrev pub sketches_between : Plan → Packets → List Item → MessageNumber → List Sketch
sketches_between plan clear kept a =
    map (λ i. sketch_of (carried plan.site (take i clear) (packet_at clear i))) (kept_between plan clear kept a (a + 1))

-- what the rule tells of kept packet j between them
unfoldable pub rule_told : Judge → Plan → Packets → List Item → MessageNumber → PacketNumber → Option Position
rule_told judge plan clear kept a j =
    get_or (judge (numbered_message plan clear a) (numbered_message plan clear (a + 1))
    (sketches_between plan clear kept a))
    (length (kept_in kept (a * plan.site.every) j)) None

-- of the broadcast of a clear stream that is such, as IsClear or IsSendable, these things are kept, messages a and
-- a + 1 have arrived, and clear packet j between them is kept, and is scrambled
pub record IsBetween (IsSuch : SiteFields → Packets → Type 0) (plan : Plan) (clear : Packets) (kept : List Item)
    (a : MessageNumber) (j : PacketNumber) : Type 0 where
  pub such : IsSuch plan.site clear
  pub whole : AreWholePackets clear
  pub part : (flags : Arrived) × (kept ≡ chosen flags (things plan clear))
  pub below : a < closing_number plan.site (length clear)
  pub first : has_arrived kept a ≡ true
  pub next : has_arrived kept (a + 1) ≡ true
  pub there : is_kept kept j ≡ true
  pub from : a * plan.site.every ≤ j
  pub to : j < upto plan clear (a + 1)
  pub veiled : is_scrambled_at clear j ≡ true

-- the rule is right of every scrambled packet of every broadcast of the plan whose clear stream is such, whatever is
-- lost. It may know the plan
abbrev pub IsSoundRule : (SiteFields → Packets → Type 0) → Plan → Judge → Type 0
IsSoundRule IsSuch plan judge = (clear : Packets) (kept : List Item) (a : MessageNumber) (j : PacketNumber)
    (p : Position) →
    IsBetween IsSuch plan clear kept a j → rule_told judge plan clear kept a j ≡ Some p →
    p ≡ position_of (pid_of (packet_at clear j)) (take (j + 1) clear)

-- the position of a PID in a message; one that isn't in it has not moved from its first one
abbrev pub place_in : Message → Pid → Position
place_in message pid = option_map_or (λ position. position) (position_in message.places pid) first_position

-- the tracked position of a PID after packets with these headers [this project, docs/FORMATS.md, Receiver]
unfoldable pub tracked_by : Pid → Position → List Sketch → Position
tracked_by pid position [] = position
tracked_by pid position (sketch ∷ sketches) =
    tracked_by pid
    (if (sketch.pid == pid) && nat_lt sketch.start 188 then advanced position sketch.counter else position) sketches

-- the PID's position at the second message is 0 to 15 above the tracked one [this project, docs/FORMATS.md, Receiver]
abbrev pub is_confirmed_by : Message → Message → List Sketch → Pid → Bool
is_confirmed_by first next sketches pid =
    option_map_or (λ position. nat_le (tracked_by pid (place_in first pid) sketches) position
    && nat_le position (tracked_by pid (place_in first pid) sketches + 15)) (position_in next.places pid) false

-- the tracked positions of packets after those with the headers `before`, if the PID passes a test
abbrev pub tracked_from : (Pid → Bool) → (Pid → Position) → List Sketch → List Sketch → List (Option Position)
tracked_from test start before [] = []
tracked_from test start before (sketch ∷ sketches) =
    (if test sketch.pid then Some (tracked_by sketch.pid (start sketch.pid) (before ++ sketch ∷ [])) else None)
    ∷ tracked_from test start (before ++ sketch ∷ []) sketches

-- the receiver's rule: the tracked positions of all packets whose PID is confirmed [this project, docs/FORMATS.md,
-- Receiver]
unfoldable pub receivers_judge : Judge
receivers_judge first next sketches = tracked_from (is_confirmed_by first next sketches) (place_in first) [] sketches
