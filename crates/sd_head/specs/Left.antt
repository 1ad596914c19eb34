-- Inner: what is left out, with one packet more at its end, as it is counted.
use Rattle.std.specs.Prelude.{Bool, true, false, is_none, if◌then◌else◌, Some}
use Rattle.std.specs.Option.{option_or}
use Rattle.sd_base.specs.Types.{Packet, PacketNumber}
use Rattle.sd_base.specs.Count.{with_added}
use Rattle.sd_message.specs.declared.clear_fault.ClearFault.{ClearFault}
use Rattle.sd_message.specs.declared.clear_fault.ClearFault.TheVariants.{AlreadyScrambled, PidTaken, PatForm, PmtForm}
use Rattle.sd_message.specs.declared.clear_fault.ClearFault.TheVariants.{TooManyPids, TooLong}
use Rattle.sd_spec.specs.Refused.{pat_wrong}
use Rattle.sd_spec.specs.declared.left_out.LeftOut.{LeftOut}

-- the same fault of the packet of this number
abbrev pub clear_fault_at : PacketNumber → ClearFault → ClearFault
clear_fault_at n (AlreadyScrambled k) = AlreadyScrambled n
clear_fault_at n (PidTaken k pid) = PidTaken n pid
clear_fault_at n (PatForm k form) = PatForm n form
clear_fault_at n (PmtForm k form) = PmtForm n form
clear_fault_at n (TooManyPids k) = TooManyPids n
clear_fault_at n (TooLong k) = TooLong n

-- no number of a packet, or no control word, is left for it
abbrev pub is_over : ClearFault → Bool
is_over (AlreadyScrambled k) = false
is_over (PidTaken k pid) = false
is_over (PatForm k form) = false
is_over (PmtForm k form) = false
is_over (TooManyPids k) = false
is_over (TooLong k) = true

-- one packet more that is marked, up to 2^64 - 1
abbrev pub with_marked : LeftOut → LeftOut
with_marked out =
    record { marked = with_added out.marked 1; refused = out.refused; pats = out.pats; first = out.first }

-- one packet more that breaks a rule, up to 2^64 - 1; the fault of the first one stays
abbrev pub with_refused : LeftOut → ClearFault → LeftOut
with_refused out fault = record {
  marked = out.marked;
  refused = with_added out.refused 1;
  pats = out.pats;
  first = option_or out.first (Some fault);
}

-- one packet more that is sent, up to 2^64 - 1; it counts if it is no PAT though it is on PID 0 with a payload
abbrev pub with_sent : LeftOut → Packet → LeftOut
with_sent out packet = record {
  marked = out.marked;
  refused = out.refused;
  pats = if is_none (pat_wrong packet) then out.pats else with_added out.pats 1;
  first = out.first;
}
