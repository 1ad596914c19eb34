use Rattle.std.proofs.Common.{rules, ◌++◌}
use Rattle.std.proofs.lemmas.Result.{err_from_is_err_and}
use Rattle.sd_book.proofs.Causes.{none_refused}
use Rattle.sd_book.proofs.book.Book.apply.Goals as goal

pub returns-in_err-self-inside-clause-complete : goal.returns-in_err-self-inside-clause-complete
returns-in_err-self-inside-clause-complete c = λ all.
    let p = err_from_is_err_and c.from_residual.result c.from_residual.ensures.1 in
    let within = rw (← c.self.view_is) at all in
    let why = rw c.deref.ensures.value at c.in_err-self-inside.ensures.fault in
    rw (p.1, p.2) (none_refused c.self.inside.height (c.self.inside.list.items ++ c.args.commands.now)
    c.in_err-self-inside.field-0.0 why within)

pub invariant_of-self : goal.invariant_of-self
invariant_of-self c = search rules

pub returns-clause-value : goal.returns-clause-value
returns-clause-value c = search rules
