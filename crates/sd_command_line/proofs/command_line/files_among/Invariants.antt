use Rattle.std.proofs.Common.{◌≡◌, ◌≤◌, ◌++◌, drop, length, map, string_bytes}
use Rattle.sd_command_line.specs.Words.{file_texts}
use Rattle.sd_command_line.proofs.command_line.files_among.Given as goal

-- the files among the first of them were found
abbrev pub invariant-loop-index : goal.invariant-loop-index
invariant-loop-index l = record {
  count : length l.files.items ≤ l.index;
  rest : map (λ text. text.now) l.files.items
      ++ file_texts (drop l.index l.operands) (map string_bytes (drop l.index l.texts))
      ≡ file_texts l.operands (map string_bytes l.texts);
}
