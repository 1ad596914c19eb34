use Rattle.std.proofs.Common.{◌≡◌, ◌+◌, drop, length, map, string_bytes}
use Rattle.sd_command_line.specs.Words.{arguments_from}
use Rattle.sd_command_line.specs.Orders.{arguments_said}
use Rattle.sd_command_line.proofs.Rows.{after_these}
use Rattle.sd_command_line.proofs.argument.Arguments.read.Given as goal

-- the first of them were read
abbrev pub invariant-loop-index : goal.invariant-loop-index
invariant-loop-index l = record {
  count : length l.list.items ≡ l.index;
  rest : after_these (arguments_said 1 l.list.items)
      (arguments_from (l.index + 1) (drop l.index l.operands) (map string_bytes (drop l.index l.texts)))
      ≡ arguments_from 1 l.operands (map string_bytes l.texts);
}
