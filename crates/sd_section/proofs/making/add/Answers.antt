use Rattle.std.proofs.Common.{arith}
use Rattle.std.proofs.lemmas.List.{length-take}
use Rattle.sd_section.proofs.Adding.{add_nothing, add_overlong, add_whole, add_part}
use Rattle.sd_section.proofs.making.add.Goals as goal

pub returns-then-is_empty-clause-value : goal.returns-then-is_empty-clause-value
returns-then-is_empty-clause-value c = grind (arith, add_nothing)

pub returns-then-is_empty-clause-short : goal.returns-then-is_empty-clause-short
returns-then-is_empty-clause-short c = c.requires.short

pub returns-in-Overlong-clause-value : goal.returns-in-Overlong-clause-value
returns-in-Overlong-clause-value c = grind (arith, add_overlong)

pub returns-in-Overlong-clause-room : goal.returns-in-Overlong-clause-room
returns-in-Overlong-clause-room c =
    omega (arith, c.clear.ensures.capacity, c.extend_from_slice.ensures.capacity, c.requires.room)

pub returns-in-Whole-clause-value : goal.returns-in-Whole-clause-value
returns-in-Whole-clause-value c = grind (arith, add_whole)

pub returns-in-Whole-clause-room : goal.returns-in-Whole-clause-room
returns-in-Whole-clause-room c =
    omega (arith, c.truncate.ensures.capacity, c.extend_from_slice.ensures.capacity, c.requires.room)

pub returns-in-Part-clause-value : goal.returns-in-Part-clause-value
returns-in-Part-clause-value c = grind (arith, add_part)

pub returns-in-Part-clause-room : goal.returns-in-Part-clause-room
returns-in-Part-clause-room c = omega (arith, c.extend_from_slice.ensures.capacity, c.requires.room)

pub unwrap-requires : goal.unwrap-requires
unwrap-requires c = c.extend_from_slice.ensures.succeeds (omega (arith, length-take c.min.result c.args.bytes.now))

pub returns-in-Whole-clause-short : goal.returns-in-Whole-clause-short
returns-in-Whole-clause-short c =
    let taken = length-take c.min.result c.args.bytes.now in
    let fits = c.extend_from_slice.ensures.succeeds (omega (arith, taken)) in
    let long = rw fits at c.extend_from_slice.ensures.len in
    omega (arith, taken, long, c.truncate.ensures.len)

pub returns-in-Part-clause-short : goal.returns-in-Part-clause-short
returns-in-Part-clause-short c =
    let taken = length-take c.min.result c.args.bytes.now in
    let fits = c.extend_from_slice.ensures.succeeds (omega (arith, taken)) in
    let long = rw fits at c.extend_from_slice.ensures.len in
    omega (arith, taken, long)
