use Rattle.std.proofs.Common.{◌+◌, ◌-◌, ◌∙◌, refl, sym, take}
use Rattle.sd_run_books.specs.Line.{said_by_accounts}
use Rattle.sd_run_books.proofs.Clashing.{next_clash}
use Rattle.sd_run_books.proofs.account_cause.clash_with.Goals as goal

pub returns-in-Some-clash_on : goal.returns-in-Some-clash_on
returns-in-Some-clash_on c =
    let line = c.loop-line.line in
    let k = c.args.k in
    let left = take (k - (line + 1)) (said_by_accounts c.args.h c.in-Some.after.now) in
    sym (c.in-Some-clash_on.ensures.some left)
    ∙ sym (next_clash c.args.h k line c.args.leaf c.args.name.bytes c.loop-line.rest.now c.in-Some.text.now
    c.in-Some.after.now c.loop-line-test.true c.in-Some.ensures.first)
    ∙ c.loop-line.invariant

pub loop-line-preserved : goal.loop-line-preserved
loop-line-preserved c =
    let line = c.loop-line.line in
    let k = c.args.k in
    let left = take (k - (line + 1)) (said_by_accounts c.args.h c.in-Some.after.now) in
    let passed = rw c.in_default-clash_on.is at c.clash_on.ensures.none in
    sym (passed refl left)
    ∙ sym (next_clash c.args.h k line c.args.leaf c.args.name.bytes c.loop-line.rest.now c.in-Some.text.now
    c.in-Some.after.now c.loop-line-test.true c.in-Some.ensures.first)
    ∙ c.loop-line.invariant
