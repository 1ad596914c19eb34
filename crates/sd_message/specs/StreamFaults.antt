-- Public meaning: which packet a receiver refuses.
use Rattle.std.specs.Prelude.{ℕ}
use Rattle.sd_message.specs.declared.stream_fault.StreamFault.{StreamFault}
use Rattle.sd_message.specs.declared.stream_fault.StreamFault.TheVariants.{WrongKey, WrongWord, BadEmm, BadEcm, Parity}

-- the number of the packet that is refused [this project, docs/FORMATS.md, Receiver]
abbrev pub stream_packet : StreamFault → ℕ
stream_packet (WrongKey packet period found due) = packet
stream_packet (WrongWord packet word found due) = packet
stream_packet (BadEmm packet emm) = packet
stream_packet (BadEcm packet ecm) = packet
stream_packet (Parity packet) = packet
