use Rattle.std.proofs.Common.{◌≡◌, drop, map, string_bytes}
use Rattle.sd_command_line.specs.Explained.{file_with_text}
use Rattle.sd_command_line.proofs.found.file_among.Given as goal

-- none of the first of them is the file
abbrev pub invariant-loop-index : goal.invariant-loop-index
invariant-loop-index l =
    file_with_text l.name (drop l.index l.operands) (map string_bytes (drop l.index l.texts))
    ≡ file_with_text l.name l.operands (map string_bytes l.texts)
