use Rattle.std.proofs.Common.{◌≤◌, arith}
use Rattle.sd_cover_tracing.proofs.Own.{member_reaches, member_reaches_together}
use Rattle.sd_cover_tracing.proofs.keys.opens.Goals as goal

pub returns-clause-reached : goal.returns-clause-reached
returns-clause-reached c =
    let low : c.args.h ≤ 20 = omega (arith, c.get.ensures.value, c.get.ensures.high) in
    rw c.some_member.ensures
    (member_reaches c.args.h c.args.coalition.now c.args.name low c.requires.leaves c.requires.name)

pub returns-clause-together : goal.returns-clause-together
returns-clause-together c =
    let low : c.args.h ≤ 20 = omega (arith, c.get.ensures.value, c.get.ensures.high) in
    rw c.some_member.ensures
    (member_reaches_together c.args.h c.args.coalition.now c.args.name low c.requires.leaves c.requires.name)
