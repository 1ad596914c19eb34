use Rattle.std.proofs.Common.{refl}
use Rattle.std.proofs.lemmas.Result.{err_from_is_err_and}
use Rattle.sd_book.proofs.Judged.{within_by_end}
use Rattle.sd_book.proofs.Causes.{end_allowed, end_broken}
use Rattle.sd_book.proofs.draft.Draft.finish.Goals as goal

pub returns-in_err-may_end-clause-complete : goal.returns-in_err-may_end-clause-complete
returns-in_err-may_end-clause-complete c = λ all.
    let within = rw (← c.self.view_is) at all in
    absurd (end_allowed c.self.inside.tally.height c.self.inside.list.items c.in_err-may_end.field-0.0 within
    (c.in_err-may_end.ensures c.self.inside.list.items c.self.invariant.2))

pub returns-in_err-may_end-clause-fault : goal.returns-in_err-may_end-clause-fault
returns-in_err-may_end-clause-fault c =
    let p = err_from_is_err_and c.from_residual.result c.from_residual.ensures.1 in
    rw (p.1, p.2, ← c.self.view_is) (end_broken c.self.inside.tally.height c.self.inside.list.items
    c.in_err-may_end.field-0.0 (c.in_err-may_end.ensures c.self.inside.list.items c.self.invariant.2))

pub of-requires-clause-fits : goal.of-requires-clause-fits
of-requires-clause-fits c = rw c.height.ensures (within_by_end c.self.inside.tally.height c.self.inside.list.items
    c.in_ok-may_end.field-0 c.self.invariant.1
    (c.in_ok-may_end.ensures c.self.inside.list.items c.self.invariant.2))

pub returns-clause-complete : goal.returns-clause-complete
returns-clause-complete c = λ _. refl
