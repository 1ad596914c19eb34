use Rattle.std.proofs.Common.{◌≡◌, ◌++◌, take, string_bytes}
use Rattle.std.specs.List.{flat_map}
use Rattle.sd_command_base.specs.Escaped.{shown_byte}
use Rattle.sd_command_base.proofs.escape.push_shown.Given as goal

-- the text so far has the first of them
abbrev pub invariant-loop-byte : goal.invariant-loop-byte
invariant-loop-byte l =
    string_bytes l.out ≡ string_bytes l.fn.out ++ flat_map shown_byte (take l.byte-index l.bytes)
