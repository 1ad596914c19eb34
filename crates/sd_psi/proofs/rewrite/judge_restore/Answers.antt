use Rattle.std.proofs.Common.{arith, ◌≡◌, ◌≤◌, length, true}
use Rattle.sd_psi.specs.Tables.{is_pmt}
use Rattle.sd_psi.proofs.Packets.{restore_outer, restore_loops, restore_first, restore_good}
use Rattle.sd_psi.proofs.Packets.{whole_long, section_within, info_within, first_within}
use Rattle.sd_psi.proofs.rewrite.judge_restore.Goals as goal

pub returns-in_err-section-clause-fault : goal.returns-in_err-section-clause-fault
returns-in_err-section-clause-fault c = grind (
  arith,
  restore_outer c.args.descriptor.now,
  c.in_err-section.ensures.fault,
)

-- the section is a PMT
table : (c : goal.After-whole) → is_pmt c.in_ok-section.section.bytes.now ≡ true
table c = rw c.in-Some.ensures.value at c.in-Some.pmt.form

-- and has a whole head
long : (c : goal.After-whole) → 12 ≤ length c.in_ok-section.section.bytes.now
long c = omega (arith, c.in_ok-section.section.long, c.in_ok-section.section.low)

pub returns-clause-info : goal.returns-clause-info
returns-clause-info c = rw c.whole.ensures
    (info_within _ c.in_ok-section.section.bytes.now c.in_ok-section.ensures.value (long c) (table c))

pub returns-clause-within : goal.returns-clause-within
returns-clause-within c = rw c.whole.ensures
    (section_within c.args.packet.now c.in_ok-section.section.bytes.now c.in_ok-section.ensures.value
    (omega (arith, long c)))

pub returns-in_default-clause-fault : goal.returns-in_default-clause-fault
returns-in_default-clause-fault c = grind (arith, restore_loops)

pub returns-then-not-begins_with-clause-fault : goal.returns-then-not-begins_with-clause-fault
returns-then-not-begins_with-clause-fault c = grind (arith, restore_first)

pub returns-clause-fault : goal.returns-clause-fault
returns-clause-fault c = grind (arith, restore_good)

pub returns-clause-long : goal.returns-clause-long
returns-clause-long c = grind (arith, whole_long)

pub returns-clause-first : goal.returns-clause-first
returns-clause-first c = grind (arith, first_within)
