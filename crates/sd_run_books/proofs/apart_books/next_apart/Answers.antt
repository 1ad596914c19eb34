use Rattle.std.proofs.Common.{◌∙◌}
use Rattle.sd_run_books.proofs.apart_books.next_apart.Goals as goal

pub returns-clause-value : goal.returns-clause-value
returns-clause-value c one other n left right =
    let a = rw c.in-Some.is at c.in_ok-a.ensures.value in
    let b = rw c.in-Some-2.is at c.in_ok-b.ensures.value in
    let found = rw (c.deref.ensures.value, c.deref-2.ensures.value) at c.first_apart.ensures in
    found one other n (a ∙ left) (b ∙ right)
