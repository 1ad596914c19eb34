use Rattle.std.proofs.Common.{◌≡◌}
use Rattle.sd_head.specs.Sending.{counter_after}
use Rattle.sd_head.proofs.Numbering.{first_numbered}
use Rattle.sd_head.proofs.sending.number.Given as goal

-- the packets so far have their counters
abbrev pub invariant-loop-i : goal.invariant-loop-i
invariant-loop-i l = record {
  packets : l.packets ≡ first_numbered l.fn.counter l.i l.fn.packets;
  next : l.counter ≡ counter_after l.fn.counter l.i;
}
