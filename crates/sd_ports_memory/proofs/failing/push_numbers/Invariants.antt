use Rattle.std.proofs.Common.{◌≡◌, ◌++◌, take}
use Rattle.sd_ports_memory.specs.Failing.{numbers_of, told_calls}
use Rattle.sd_ports_memory.proofs.failing.push_numbers.Given as goal

-- the numbers of the calls so far were put after the others
abbrev pub invariant-loop-call : goal.invariant-loop-call
invariant-loop-call l = record {
  pushed : l.numbers.items ≡ l.fn.numbers.items ++ numbers_of l.name (told_calls (take l.call-index l.calls));
}
