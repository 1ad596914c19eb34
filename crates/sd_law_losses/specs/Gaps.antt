-- Public meaning: gaps in the positions of kept packets.
use Rattle.std.specs.Prelude.{◌+◌, ◌*◌, ◌&&◌, Bool, nat_le, List, [], ◌∷◌, map, filter, take, if◌then◌else◌}
use Rattle.sd_base.specs.Types.{Packets, Arrived, Pid, Position, MessageNumber}
use Rattle.sd_packet.specs.Positions.{is_moving, moved, position_of}
use Rattle.sd_spec.specs.Plan.{Plan}
use Rattle.sd_spec.specs.Sent.{Item}
use Rattle.sd_law_losses.specs.Confirmed.{packet_at, upto, kept_between}

-- the positions of the kept packets that move the PID, from a position on [this project, docs/FORMATS.md, Positions]
unfoldable pub kept_positions : Pid → Position → Arrived → Packets → List Position
kept_positions pid position [] packets = []
kept_positions pid position (kept ∷ flags) [] = []
kept_positions pid position (kept ∷ flags) (packet ∷ packets) =
    if kept && is_moving pid packet
    then moved pid position packet ∷ kept_positions pid (moved pid position packet) flags packets
    else kept_positions pid (moved pid position packet) flags packets

-- from position `last` on no two neighbours are more than 16 apart, and the end is at most 15 above the last of them
unfoldable pub are_near : Position → List Position → Position → Bool
are_near last [] end = nat_le end (last + 15)
are_near last (position ∷ positions) end = nat_le position (last + 16) && are_near position positions end

-- the positions of the packets of the PID, with a payload that is not empty, that are kept between messages a and b
-- [this project, docs/FORMATS.md, Positions]
unfoldable pub positions_between : Plan → Packets → List Item → MessageNumber → MessageNumber → Pid → List Position
positions_between plan clear kept a b pid =
    map (λ j. position_of pid (take (j + 1) clear))
    (filter (λ j. is_moving pid (packet_at clear j)) (kept_between plan clear kept a b))

-- the kept packets of a PID leave no wide gap: from its position at message a on no two neighbours are more than 16
-- apart, and its position at message b is at most 15 above the last
unfoldable pub has_no_gap : Plan → Packets → List Item → MessageNumber → MessageNumber → Pid → Bool
has_no_gap plan clear kept a b pid =
    are_near (position_of pid (take (a * plan.site.every) clear)) (positions_between plan clear kept a b pid)
    (position_of pid (take (upto plan clear b) clear))
