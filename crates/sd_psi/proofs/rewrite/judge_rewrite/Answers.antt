use Rattle.std.proofs.Common.{arith, ◌≡◌, ◌≤◌, length, true}
use Rattle.sd_psi.specs.Tables.{is_pmt}
use Rattle.sd_psi.proofs.Packets.{whole_long, info_within, rewrite_outer, rewrite_room, rewrite_loops, rewrite_good}
use Rattle.sd_psi.proofs.rewrite.judge_rewrite.Goals as goal

pub returns-clause-info : goal.returns-clause-info
returns-clause-info c =
    let section = c.in_ok-section.section in
    let long : 12 ≤ length section.bytes.now = omega (arith, section.long, section.low) in
    let table : is_pmt section.bytes.now ≡ true = grind (arith, c.pmt_in.ensures.none, c.if-is_none.ensures) in
    rw c.whole-length.ensures (info_within _ section.bytes.now c.in_ok-section.ensures.value long table)

pub returns-in_err-section-clause-fault : goal.returns-in_err-section-clause-fault
returns-in_err-section-clause-fault c = grind (arith, rewrite_outer)

pub returns-then-payload-length-clause-fault : goal.returns-then-payload-length-clause-fault
returns-then-payload-length-clause-fault c = grind (arith, whole_long, rewrite_room)

pub returns-then-is_none-clause-fault : goal.returns-then-is_none-clause-fault
returns-then-is_none-clause-fault c = grind (arith, whole_long, rewrite_loops)

pub returns-clause-fault : goal.returns-clause-fault
returns-clause-fault c = grind (arith, whole_long, rewrite_good)

pub returns-clause-long : goal.returns-clause-long
returns-clause-long c = grind (arith, whole_long)
