use Rattle.std.proofs.Common.{◌≡◌, take}
use Rattle.sd_message.specs.Period.{emms_of}
use Rattle.sd_head.specs.Packets.{period_of_entries}
use Rattle.sd_head.proofs.Packing.{of_sections}
use Rattle.sd_head.proofs.sections.pack_sections.Given as goal

-- the sections so far have their packets
abbrev pub invariant-loop-index : goal.invariant-loop-index
invariant-loop-index l =
    l.packets.items ≡ of_sections l.fn.pid
    (take l.index (emms_of (period_of_entries l.fn.run l.fn.q l.fn.check l.fn.entries)))
