use Rattle.std.proofs.Common.{◌≡◌, ◌++◌, take, string_bytes}
use Rattle.std.specs.List.{flat_map}
use Rattle.sd_command_base.specs.Escaped.{escaped_char}
use Rattle.sd_command_base.proofs.escape.push_chars.Given as goal

-- the text so far has the first of them
abbrev pub invariant-loop-c : goal.invariant-loop-c
invariant-loop-c l = string_bytes l.out ≡ string_bytes l.fn.out ++ flat_map escaped_char (take l.c-index l.all)
