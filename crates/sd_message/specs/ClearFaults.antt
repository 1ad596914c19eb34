-- Public meaning: which clear packet is refused.
use Rattle.std.specs.Prelude.{ℕ}
use Rattle.sd_message.specs.declared.clear_fault.ClearFault.{ClearFault}
use Rattle.sd_message.specs.declared.clear_fault.ClearFault.TheVariants.{AlreadyScrambled, PidTaken, PatForm, PmtForm}
use Rattle.sd_message.specs.declared.clear_fault.ClearFault.TheVariants.{TooManyPids, TooLong}

-- the number of the packet that is refused [this project, docs/FORMATS.md, Broadcast]
abbrev pub clear_packet : ClearFault → ℕ
clear_packet (AlreadyScrambled packet) = packet
clear_packet (PidTaken packet pid) = packet
clear_packet (PatForm packet form) = packet
clear_packet (PmtForm packet form) = packet
clear_packet (TooManyPids packet) = packet
clear_packet (TooLong packet) = packet
