-- Public meaning: what of a stream a receiver needs to write the packets of one PID.
use Rattle.std.specs.Prelude.{◌==◌, ◌&&◌, ◌||◌, Bool, true, not, nat_le, List, [], ◌∷◌, length, filter, is_none}
use Rattle.std.specs.Prelude.{if◌then◌else◌, Option, Some, None}
use Rattle.sd_base.specs.Types.{Packet, Packets, Pid}
use Rattle.sd_packet.specs.Header.{pid_of}
use Rattle.sd_site_cards.specs.CardFields.{CardFields}
use Rattle.sd_psi.specs.OurCat.{cat_tuning}
use Rattle.sd_psi.specs.declared.our_cat.Tuning.{Tuning}
use Rattle.sd_spec.specs.declared.ending.Ending.{Ending}
use Rattle.sd_spec.specs.declared.ending.Ending.TheVariants.{Opened, Revoked, Unheard, NoCat, Unclosed, Gaps}
use Rattle.sd_spec.specs.Tuned.{tuning_of}
use Rattle.sd_spec.specs.Heard.{Heard, hears}
use Rattle.sd_spec.specs.Stretches.{newest_message, held_in}
use Rattle.sd_spec.specs.Runs.{run_name_heard}
use Rattle.sd_spec.specs.Offered.{heard}

-- the packets of one PID
abbrev pub on : Pid → Packets → Packets
on pid packets = filter (λ packet. pid_of packet == pid) packets

-- the packet tells the receiver something: a CAT that it takes, if it has taken none, or else a message without a fault
-- [this project, docs/FORMATS.md, Receiver]
unfoldable pub speaks : CardFields → Option Tuning → Packet → Bool
speaks card None packet = not (is_none (cat_tuning card.ca packet))
speaks card (Some tuning) packet = not (is_none (run_name_heard (hears card.height tuning 0 packet)))

-- those of these packets, after others, that are of one PID or tell the receiver something. The others have the newest
-- first
unfoldable pub packets_alone : CardFields → Pid → Packets → Packets → Packets
packets_alone card pid past [] = []
packets_alone card pid past (packet ∷ packets) =
    if (pid_of packet == pid) || speaks card (tuning_of card.ca past) packet
    then packet ∷ packets_alone card pid (packet ∷ past) packets
    else packets_alone card pid (packet ∷ past) packets

-- no message is complete, or at most 4,096 packets are buffered behind the newest one [this project, docs/FORMATS.md,
-- Receiver]
abbrev pub few_held : List Heard → Bool
few_held past = is_none (newest_message past).message || nat_le (length (held_in (newest_message past))) 4096

-- and so it is before each of these packets, after others, which have the newest first
unfoldable pub few_held_in : CardFields → Packets → Packets → Bool
few_held_in card past [] = true
few_held_in card past (packet ∷ packets) = few_held (heard card past) && few_held_in card (packet ∷ past) packets

-- the ending, if no packets were missing
unfoldable pub without_gaps : Ending → Ending
without_gaps (Gaps n) = Opened
without_gaps NoCat = NoCat
without_gaps (Unclosed n) = Unclosed n
without_gaps (Revoked q) = Revoked q
without_gaps (Unheard q) = Unheard q
without_gaps Opened = Opened
