use Rattle.std.proofs.Common.{◌≡◌, ℕ, ◌<◌, ◌^◌, length, get_or, rules, arith}
use Rattle.sd_section.proofs.Words.{eight_bytes}
use Rattle.sd_section.proofs.crc.after_eight.Goals as goal

pub returns : goal.returns
returns c =
    let fits : c.args.register < 2 ^ 32 = omega arith in
    let long : length c.args.bytes ≡ 8 = search rules in
    let bytes : (i : ℕ) → get_or c.args.bytes i 0 < 256 = search rules in
    let both =
    eight_bytes c.args.register c.from_be_bytes-first.result c.from_be_bytes-second.result c.args.bytes fits long
    bytes c.from_be_bytes-first.ensures c.from_be_bytes-second.ensures in
    rw (c.of_word.ensures, c.of_word-2.ensures) both
