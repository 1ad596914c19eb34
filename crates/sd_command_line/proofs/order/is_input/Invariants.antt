use Rattle.std.proofs.Common.{◌≡◌, bytes_eq, drop, map, string_bytes}
use Rattle.std.specs.List.{list_any}
use Rattle.sd_command_line.specs.Words.{input_texts}
use Rattle.sd_command_line.proofs.order.is_input.Given as goal

-- no file that is read has this name among the first of them
abbrev pub invariant-loop-index : goal.invariant-loop-index
invariant-loop-index l =
    list_any (λ text. bytes_eq text l.name)
    (input_texts (drop l.index l.operands) (map string_bytes (drop l.index l.texts)))
    ≡ list_any (λ text. bytes_eq text l.name) (input_texts l.operands (map string_bytes l.texts))
