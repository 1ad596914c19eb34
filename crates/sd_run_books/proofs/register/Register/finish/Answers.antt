use Rattle.std.proofs.Common.{ap, ◌∙◌}
use Rattle.std.proofs.lemmas.Result.{err_from_is_err_and}
use Rattle.sd_run_books.specs.Kept.{leaf_named}
use Rattle.sd_run_books.proofs.Limits.{book_ends, book_ends_not}
use Rattle.sd_run_books.proofs.Listed.{all_listed}
use Rattle.sd_run_books.proofs.register.Register.finish.Goals as goal

pub returns-in_err-book-clause-value : goal.returns-in_err-book-clause-value
returns-in_err-book-clause-value c =
    let p = err_from_is_err_and c.from_residual.result c.from_residual.ensures.1 in
    let draft = c.args.self.draft in
    let fault = c.in_err-book.ensures in
    rw (p.1, p.2) (book_ends_not draft.height draft.commands c.in_err-book.field-0.0 c.commands.ensures.fits
    (λ within. let complete = fault.complete within in cc) fault.fault)

pub returns-clause-fits : goal.returns-clause-fits
returns-clause-fits c = rw c.in_ok-book.ensures.height at c.commands-2.ensures.fits

pub returns-clause-leaves : goal.returns-clause-leaves
returns-clause-leaves c = λ d said kept.
    all_listed c.into_leaves-leaves.result.entries said c.into_leaves-leaves.ensures.ordered
    (λ name. ap (λ m. leaf_named m name) c.into_leaves-leaves.ensures.value ∙ kept.leaves name)

pub returns-clause-value : goal.returns-clause-value
returns-clause-value c =
    let book = c.in_ok-book.ensures in
    let fits = rw (book.height, book.value) at c.commands-2.ensures.fits in
    rw book.value (book_ends c.args.self.draft.height c.args.self.draft.commands fits)
