use Rattle.std.proofs.Common.{arith, ◌≡◌, ◌∙◌, ap, sym, Some}
use Rattle.sd_run_books.proofs.Merging.{apart_here, both_end, left_on, merged_is, right_on}
use Rattle.sd_run_books.proofs.apart_books.first_apart.Goals as goal

-- the lists have other leaves at one place
pub returns-then-u-v : goal.returns-then-u-v
returns-then-u-v c one other n left right =
    let us = c.args.left.now in
    let vs = c.args.right.now in
    let u_is = c.get-u.ensures.value in
    let v_is = c.get-v.ensures.value in
    let below = c.loop-at-test.true in
    let shared = c.min-shared.ensures in
    let found = rw (sym u_is, sym v_is) at (apart_here us vs c.loop-at.at c.index-left-at.result c.index-right-at.result
    (omega (arith, below, shared)) (omega (arith, below, shared)) (sym c.index-left-at.is) (sym c.index-right-at.is)
    (λ same. c.if-u-v.true (u_is ∙ same ∙ sym v_is))) in
    ap Some c.min.ensures ∙ sym found ∙ c.loop-at.invariant.0 ∙ merged_is one other n us vs left right

-- the first list goes on
pub returns-then-shared-left : goal.returns-then-shared-left
returns-then-shared-left c one other n left right =
    let us = c.args.left.now in
    let vs = c.args.right.now in
    let at : c.loop-at.at ≡ c.min-shared.result = omega (arith, c.loop-at-test.false, c.loop-at.auto.at-end) in
    let found = left_on us vs c.min-shared.result c.index-left-shared.result c.if-shared-left.true
    (omega (arith, c.min-shared.ensures, c.if-shared-left.true)) (sym c.index-left-shared.is) in
    ap Some c.get.ensures.value ∙ sym found ∙ (rw at at c.loop-at.invariant.0) ∙ merged_is one other n us vs left right

-- the second list goes on
pub returns-then-shared-right : goal.returns-then-shared-right
returns-then-shared-right c one other n left right =
    let us = c.args.left.now in
    let vs = c.args.right.now in
    let at : c.loop-at.at ≡ c.min-shared.result = omega (arith, c.loop-at-test.false, c.loop-at.auto.at-end) in
    let found = right_on us vs c.min-shared.result c.index-right-shared.result c.if-shared-left.false
    c.if-shared-right.true (sym c.index-right-shared.is) in
    ap Some c.get-then-shared-right.ensures.value
    ∙ sym found
    ∙ (rw at at c.loop-at.invariant.0)
    ∙ merged_is one other n us vs left right

-- neither does
pub returns-else-shared-right : goal.returns-else-shared-right
returns-else-shared-right c one other n left right =
    let us = c.args.left.now in
    let vs = c.args.right.now in
    let at : c.loop-at.at ≡ c.min-shared.result = omega (arith, c.loop-at-test.false, c.loop-at.auto.at-end) in
    let found = both_end us vs c.min-shared.result c.if-shared-left.false c.if-shared-right.false in
    sym found ∙ (rw at at c.loop-at.invariant.0) ∙ merged_is one other n us vs left right
