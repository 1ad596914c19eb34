use Rattle.std.proofs.Common.{arith, ap, ℕ, slice_set}
use Rattle.std.proofs.lemmas.Grind.{common_steps}
use Rattle.sd_book.proofs.Tallies.{few_marked, counted_after_write}
use Rattle.sd_book.proofs.tally.Tally.mark.Goals as goal

pub overflow_add-self : goal.overflow_add-self
overflow_add-self c =
    let tally = c.args.self.now in
    grind (arith, common_steps, few_marked tally.height tally.marks.items tally.small (omega (arith, tally.marks.ok.0)))

pub index-requires : goal.index-requires
index-requires c = omega (arith, c.args.self.now.full, c.get-u.ensures.value, c.requires)

pub index_mut-requires : goal.index_mut-requires
index_mut-requires c = omega (arith, c.args.self.now.full, c.get-u.ensures.value, c.requires)

pub overflow_sub-self : goal.overflow_sub-self
overflow_sub-self c =
    let tally = c.args.self.now in
    (counted_after_write tally.marks.items c.get-u.result tally.revoked c.from.result c.from-2.result c.args.mark
    c.index.result.now (omega (arith, tally.full, tally.marks.ok.0, c.get-u.ensures.value, c.requires)) c.index.ensures
    tally.counted c.from.ensures c.from-2.ensures).0

pub invariant_of-self : goal.invariant_of-self
invariant_of-self c =
    let tally = c.args.self.now in
    let marks = counted_after_write tally.marks.items c.get-u.result tally.revoked c.from.result c.from-2.result
    c.args.mark c.index.result.now
    (omega (arith, tally.full, tally.marks.ok.0, c.get-u.ensures.value, c.requires)) c.index.ensures tally.counted
    c.from.ensures c.from-2.ensures in
    record { full = tally.full; small = tally.small; counted = marks.1 }

pub returns-clause-marks : goal.returns-clause-marks
returns-clause-marks c =
    ap (λ (i : ℕ). slice_set c.args.self.now.marks.items i c.args.mark) c.get-u.ensures.value
