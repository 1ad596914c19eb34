use Rattle.std.specs.Prelude.{◌≡◌, ◌++◌, length, map, take, drop, string_bytes}
use Rattle.sd_command_line.specs.Spelled.{spelled_texts}
use Rattle.sd_command_line.proofs.spelled.spell_texts.Given as goal

-- the first texts are spelled out, and the others are to be
abbrev pub invariant-loop-index : goal.invariant-loop-index
invariant-loop-index l = record {
  long : length l.texts ≡ length l.fn.texts;
  done : take l.index (map string_bytes l.texts)
      ++ spelled_texts (drop l.index l.operands) (drop l.index (map string_bytes l.texts))
      ≡ spelled_texts l.fn.operands (map string_bytes l.fn.texts);
}
