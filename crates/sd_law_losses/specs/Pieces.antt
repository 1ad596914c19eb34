-- Public meaning: the pieces into which a stream is cut, each of one run.
use Rattle.std.specs.Prelude.{suc, List, [], ◌∷◌, if◌then◌else◌, Option, Some, None}
use Rattle.sd_base.specs.Types.{Packet, Packets, SystemId, Height, RunName, PacketNumber}
use Rattle.sd_psi.specs.OurCat.{cat_tuning}
use Rattle.sd_psi.specs.declared.our_cat.Tuning.{Tuning}
use Rattle.sd_spec.specs.Heard.{hears}
use Rattle.sd_spec.specs.Runs.{run_name_heard, name_or, are_two}

-- the CAT that a receiver takes, its number, what it says, and the packets after it
pub record Tuned : Type 0 where
  pub number : PacketNumber
  pub cat : Packet
  pub tuning : Tuning
  pub behind : Packets

-- packet n as the CAT, if it is one, with the packets after it; else a later one
abbrev pub tuned_or : Option Tuning → PacketNumber → Packet → Packets → Option Tuned → Option Tuned
tuned_or None n packet packets later = later
tuned_or (Some tuning) n packet packets later =
    Some (record { number = n; cat = packet; tuning = tuning; behind = packets })

-- the first CAT for the system among packets that are numbered from n on [this project, docs/FORMATS.md, Receiver]
unfoldable pub first_cat : SystemId → PacketNumber → Packets → Option Tuned
first_cat ca n [] = None
first_cat ca n (packet ∷ packets) = tuned_or (cat_tuning ca packet) n packet packets (first_cat ca (suc n) packets)

-- the name of the run to which a packet belongs, if it is a message without a fault
abbrev pub packet_run_name : Height → Tuning → Packet → Option RunName
packet_run_name h tuning packet = run_name_heard (hears h tuning 0 packet)

-- a packet put before the first of these pieces
abbrev pub with_packet : Packet → List Packets → List Packets
with_packet packet [] = (packet ∷ []) ∷ []
with_packet packet (piece ∷ pieces) = (packet ∷ piece) ∷ pieces

-- a cut before these pieces, if both are names of runs and they differ
abbrev pub cut_if : List Packets → Option RunName → Option RunName → List Packets
cut_if pieces last name = if are_two last name then [] ∷ pieces else pieces

-- packets, cut before each message of another run than the message before it. `last` is the name of the run of the
-- message before all of them, if there is one [this project, docs/FORMATS.md, Receiver]
unfoldable pub pieces_after : Height → Tuning → Option RunName → Packets → List Packets
pieces_after h tuning last [] = [] ∷ []
pieces_after h tuning last (packet ∷ packets) =
    cut_if (with_packet packet (pieces_after h tuning (name_or (packet_run_name h tuning packet) last) packets)) last
    (packet_run_name h tuning packet)

-- the pieces of the packets after the CAT: no message was heard before
abbrev pub pieces_of : Height → Tuned → List Packets
pieces_of h tuned = pieces_after h tuned.tuning None tuned.behind
