use Rattle.std.proofs.Common.{◌+◌, List, take, refl, ℕ, arith}
use Rattle.sd_section.proofs.Judging.{section_good}
use Rattle.sd_section.proofs.read.read_one.Goals as goal

pub invariant_of-result : goal.invariant_of-result
invariant_of-result c =
    let bytes : List ℕ = c.args.bytes.now in
    let n : ℕ = c.in_ok-length.length in
    let good =
    section_good bytes (take (3 + n) bytes) n c.in_ok-length.ensures.fault c.in_ok-length.ensures.value (omega arith)
    refl c.in_ok-check.ensures in
    record { long = good.long; low = good.low; high = good.high; whole = good.whole; sealed = good.sealed }
