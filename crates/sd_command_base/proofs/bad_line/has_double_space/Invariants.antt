use Rattle.std.proofs.Common.{◌≡◌, ◌∷◌, drop}
use Rattle.sd_command_base.specs.BadLines.{has_double_space}
use Rattle.sd_command_base.proofs.bad_line.has_double_space.Given as goal

-- so it is of what is left, with the byte before it
abbrev pub invariant-loop-byte : goal.invariant-loop-byte
invariant-loop-byte l = has_double_space (l.before ∷ drop l.byte-index l.line) ≡ has_double_space l.line
