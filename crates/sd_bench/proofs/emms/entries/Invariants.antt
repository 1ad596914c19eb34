use Rattle.std.proofs.Common.{◌≡◌, vec_len}
use Rattle.sd_bench.proofs.emms.entries.Given as goal

-- as many sets as there were turns
abbrev pub invariant-loop-k : goal.invariant-loop-k
invariant-loop-k l = vec_len l.entries ≡ l.k
