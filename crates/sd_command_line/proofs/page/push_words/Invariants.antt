use Rattle.std.proofs.Common.{◌≡◌, ◌++◌, take, string_bytes}
use Rattle.std.specs.List.{flat_map}
use Rattle.sd_command_line.specs.Pages.{spaced}
use Rattle.sd_command_line.proofs.page.push_words.Given as goal

-- the text so far has the lines of the first of them
abbrev pub invariant-loop-operand : goal.invariant-loop-operand
invariant-loop-operand l =
    string_bytes l.text ≡ string_bytes l.fn.text ++ flat_map spaced (take l.operand-index l.operands)
