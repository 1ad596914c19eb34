-- Public meaning: the clear packets that a receiver writes of a broadcast that loses packets.
use Rattle.std.specs.Prelude.{ℕ, ◌+◌, ◌*◌, ◌/◌, ◌&&◌, ◌||◌, Bool, false, not, nat_eq, nat_le, min}
use Rattle.std.specs.Prelude.{List, [], length, take, map, filter, get_or, Option, Some, None}
use Rattle.std.specs.List.{list_any, range_with_len}
use Rattle.sd_base.specs.Types.{Packet, Packets, Pid, Position, LeafNumber, PeriodNumber, PacketNumber}
use Rattle.sd_base.specs.Types.{MessageNumber}
use Rattle.sd_packet.specs.Header.{pid_of}
use Rattle.sd_packet.specs.Positions.{position_of, moved_by}
use Rattle.sd_book.specs.Commands.{revoked}
use Rattle.sd_spec.specs.Plan.{Plan, period_of, since_of, closing_number}
use Rattle.sd_spec.specs.Kinds.{kind_of, is_scrambled}
use Rattle.sd_spec.specs.Sent.{Item}
use Rattle.sd_spec.specs.Offered.{most_held}
use Rattle.sd_law_losses.specs.Kept.{is_kept, kept_in, arrived, greatest_at_most, least_above, is_entitled_before}
use Rattle.sd_law_losses.specs.Kept.{after_cat}

-- clear packet j
abbrev pub packet_at : Packets → PacketNumber → Packet
packet_at clear j = get_or clear j []

-- the clear packets of these numbers
abbrev pub packets_at : Packets → List PacketNumber → Packets
packets_at clear js = map (packet_at clear) js

-- the number of clear packets before message b
abbrev pub upto : Plan → Packets → MessageNumber → ℕ
upto plan clear b = min (b * plan.site.every) (length clear)

-- the numbers of the clear packets that are kept between messages a and b
abbrev pub kept_between : Plan → Packets → List Item → MessageNumber → MessageNumber → List PacketNumber
kept_between plan clear kept a b = kept_in kept (a * plan.site.every) (upto plan clear b)

-- what is between messages a and b may be written: the `since` of b is at most a, the key of a's period is known at a,
-- and at most 4,096 packets are buffered between them [this project, docs/FORMATS.md, Receiver]
unfoldable pub is_open : Plan → LeafNumber → Packets → List Item → MessageNumber → MessageNumber → Bool
is_open plan u clear kept a b =
    nat_le (since_of plan.site.messages plan.site.cryptos b) a
    && (is_entitled_before plan.site.height u (period_of plan (a * plan.site.every)) a kept
    && nat_le (length (kept_between plan clear kept a b)) most_held)

-- the tracked position of a PID at message b: that at message a, moved by the kept packets between them [this project,
-- docs/FORMATS.md, Receiver]
unfoldable pub tracked_position : Plan → Packets → List Item → MessageNumber → MessageNumber → Pid → Position
tracked_position plan clear kept a b pid =
    moved_by pid (position_of pid (take (a * plan.site.every) clear))
    (packets_at clear (kept_between plan clear kept a b))

-- the position of a PID at message b is 0 to 15 above the tracked one
unfoldable pub is_traced : Plan → Packets → List Item → MessageNumber → MessageNumber → Pid → Bool
is_traced plan clear kept a b pid =
    nat_le (tracked_position plan clear kept a b pid) (position_of pid (take (upto plan clear b) clear))
    && nat_le (position_of pid (take (upto plan clear b) clear)) (tracked_position plan clear kept a b pid + 15)

-- clear packet j is written between messages a and b
abbrev pub is_written_between : Plan → LeafNumber → Packets → List Item → PacketNumber → MessageNumber → MessageNumber →
    Bool
is_written_between plan u clear kept j a b =
    is_open plan u clear kept a b
    && (not (is_scrambled (kind_of (take j clear) (packet_at clear j)))
    || is_traced plan clear kept a b (pid_of (packet_at clear j)))

-- two numbers are there and pass a test
abbrev pub between : Option ℕ → Option ℕ → (ℕ → ℕ → Bool) → Bool
between None b test = false
between (Some a) None test = false
between (Some a) (Some b) test = test a b

-- clear packet j is kept, and the messages that arrived before and after it confirm it [this project, docs/FORMATS.md,
-- Receiver]
unfoldable pub is_confirmed_at : Plan → LeafNumber → Packets → List Item → PacketNumber → Bool
is_confirmed_at plan u clear kept j = is_kept kept j
    && between
    (greatest_at_most (j / plan.site.every) (arrived (closing_number plan.site (length clear)) kept))
    (least_above (j / plan.site.every) (arrived (closing_number plan.site (length clear)) kept))
    (is_written_between plan u clear kept j)

-- the clear packets that are confirmed to the receiver of leaf u, if these things are kept
unfoldable pub confirmed : Plan → LeafNumber → Packets → List Item → Packets
confirmed plan u clear kept =
    packets_at clear (filter (is_confirmed_at plan u clear (after_cat kept)) (range_with_len 0 (length clear)))

-- leaf u is revoked in this period
abbrev pub is_revoked_in : Plan → LeafNumber → PeriodNumber → Bool
is_revoked_in plan u q = list_any (nat_eq u) (revoked plan.site.height plan.commands q)

-- the clear packets of the periods in which leaf u isn't revoked
unfoldable pub opened_by : Plan → LeafNumber → Packets → Packets
opened_by plan u clear =
    packets_at clear (filter (λ j. not (is_revoked_in plan u (period_of plan j))) (range_with_len 0 (length clear)))
