-- Public meaning: faults with the numbers of their packets in a stream that may be damaged.
use Rattle.std.specs.Prelude.{ℕ}
use Rattle.sd_message.specs.declared.stream_fault.StreamFault.{StreamFault}
use Rattle.sd_message.specs.declared.stream_fault.StreamFault.TheVariants as Fault

-- the same fault of the packet of this number
abbrev pub stream_fault_at : ℕ → StreamFault → StreamFault
stream_fault_at n (Fault.WrongKey m period found due) = Fault.WrongKey n period found due
stream_fault_at n (Fault.WrongWord m word found due) = Fault.WrongWord n word found due
stream_fault_at n (Fault.BadEmm m fault) = Fault.BadEmm n fault
stream_fault_at n (Fault.BadEcm m fault) = Fault.BadEcm n fault
stream_fault_at n (Fault.Parity k) = Fault.Parity k
