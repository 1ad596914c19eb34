-- Public meaning: what is written of a stream, why it is refused and how it ends, by its pieces. Each piece is received
-- by itself after the CAT.
use Rattle.std.specs.Prelude.{ℕ, ◌+◌, List, [], ◌∷◌, ◌++◌, length, map, reverse, if◌then◌else◌, is_none, Option, Some}
use Rattle.std.specs.Prelude.{None}
use Rattle.std.specs.Option.{option_map_or}
use Rattle.sd_base.specs.Types.{Packet, Packets, PacketNumber}
use Rattle.sd_site_cards.specs.CardFields.{CardFields}
use Rattle.sd_spec.specs.declared.ending.Ending.{Ending}
use Rattle.sd_spec.specs.declared.ending.Ending.TheVariants.{Opened, NoCat}
use Rattle.sd_message.specs.declared.stream_fault.StreamFault.{StreamFault}
use Rattle.sd_message.specs.declared.stream_fault.StreamFault.TheVariants as Fault
use Rattle.sd_spec.specs.Offered.{out_from, break_from}
use Rattle.sd_spec.specs.Ending.{endings_joined, ending_of}
use Rattle.sd_law_losses.specs.Pieces.{first_cat, pieces_of}

-- the same fault of a packet that is k packets later
abbrev pub fault_later : ℕ → StreamFault → StreamFault
fault_later k (Fault.WrongKey n period found due) = Fault.WrongKey (k + n) period found due
fault_later k (Fault.WrongWord n word found due) = Fault.WrongWord (k + n) word found due
fault_later k (Fault.BadEmm n fault) = Fault.BadEmm (k + n) fault
fault_later k (Fault.BadEcm n fault) = Fault.BadEcm (k + n) fault
fault_later k (Fault.Parity n) = Fault.Parity (k + n)

-- what is written of pieces, up to the first packet that is refused
abbrev pub out_with : CardFields → Packet → List Packets → Packets
out_with card cat [] = []
out_with card cat (piece ∷ pieces) =
    out_from card [] (cat ∷ piece)
    ++ (if is_none (break_from card [] (cat ∷ piece)) then out_with card cat pieces else [])

-- why the first refused packet of pieces is refused, if the packet before all of them is number k
abbrev pub break_with : CardFields → Packet → PacketNumber → List Packets → Option StreamFault
break_with card cat k [] = None
break_with card cat k (piece ∷ pieces) =
    option_map_or (λ fault. Some (fault_later k fault)) (break_from card [] (cat ∷ piece))
    (break_with card cat (k + length piece) pieces)

-- endings joined to an earlier one, the earliest first
abbrev pub joined_to : Ending → List Ending → Ending
joined_to earlier [] = earlier
joined_to earlier (ending ∷ endings) = joined_to (endings_joined earlier ending) endings

-- how a piece ends by itself
abbrev pub piece_ending : CardFields → Packet → Packets → Ending
piece_ending card cat piece = ending_of card (reverse (cat ∷ piece))

-- what is written of a stream, by its pieces [this project, docs/FORMATS.md, Receiver]
unfoldable pub written_out : CardFields → Packets → Packets
written_out card packets =
    option_map_or (λ tuned. out_with card tuned.cat (pieces_of card.height tuned)) (first_cat card.ca 0 packets) []

-- why a stream is refused, if it is, by its pieces [this project, docs/FORMATS.md, Receiver]
unfoldable pub run_break_of : CardFields → Packets → Option StreamFault
run_break_of card packets =
    option_map_or (λ tuned. break_with card tuned.cat tuned.number (pieces_of card.height tuned))
    (first_cat card.ca 0 packets) None

-- how a stream ends, by its pieces [this project, docs/FORMATS.md, Receiver]
unfoldable pub run_end_of : CardFields → Packets → Ending
run_end_of card packets =
    option_map_or
    (λ tuned. joined_to Opened (map (piece_ending card tuned.cat) (pieces_of card.height tuned)))
    (first_cat card.ca 0 packets) NoCat
