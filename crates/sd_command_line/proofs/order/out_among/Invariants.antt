use Rattle.std.proofs.Common.{◌≡◌, drop, map, string_bytes}
use Rattle.sd_command_line.specs.Words.{out_text}
use Rattle.sd_command_line.proofs.order.out_among.Given as goal

-- OUT is not among the first of them
abbrev pub invariant-loop-index : goal.invariant-loop-index
invariant-loop-index l =
    out_text (drop l.index l.operands) (map string_bytes (drop l.index l.texts))
    ≡ out_text l.operands (map string_bytes l.texts)
