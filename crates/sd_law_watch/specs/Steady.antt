-- Public meaning: a clear stream of which no scrambled packet is equal on air to one of the last before it.
use Rattle.std.specs.Prelude.{◌==◌, ◌&&◌, ◌++◌, Bool, true, not, [], ◌∷◌, take, if◌then◌else◌}
use Rattle.std.specs.List.{list_any}
use Rattle.sd_base.specs.Types.{Packet, Packets}
use Rattle.sd_packet.specs.Header.{pid_of, counter_of}
use Rattle.sd_spec.specs.Kinds.{kind_of, is_scrambled}

-- two packets have one PID and one counter
abbrev pub have_one_counter : Packet → Packet → Bool
have_one_counter a b = (pid_of a == pid_of b) && (counter_of a == counter_of b)

-- none of these packets that is to be scrambled has the PID and the counter of one of the last 15 such packets before
-- it, after these packets and such ones among them, which have the newest first
unfoldable pub are_steady_after : Packets → Packets → Packets → Bool
are_steady_after before scrambled [] = true
are_steady_after before scrambled (packet ∷ packets) =
    if is_scrambled (kind_of before packet)
    then not (list_any (have_one_counter packet) (take 15 scrambled))
    && are_steady_after (before ++ packet ∷ []) (packet ∷ scrambled) packets
    else are_steady_after (before ++ packet ∷ []) scrambled packets

-- no packet of the stream that is to be scrambled has the PID and the counter of one of the last 15 such packets before
-- it. That is so if the counter of each PID rises by one from packet to packet [ISO/IEC 13818-1, 2.4.3.3]
abbrev pub are_steady : Packets → Bool
are_steady clear = are_steady_after [] [] clear
