use Rattle.std.proofs.Common.{◌++◌, ◌≡◌, take, drop}
use Rattle.sd_cipher.specs.Keystream.{xored}
use Rattle.sd_cipher.proofs.keystream.lay.Given as goal

abbrev pub invariant-loop-i : goal.invariant-loop-i
invariant-loop-i l = take l.i l.text ++ xored (drop l.i l.text) (drop l.i l.stream) ≡ xored l.fn.text l.stream
