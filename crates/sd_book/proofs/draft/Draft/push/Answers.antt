use Rattle.std.proofs.Common.{arith, inr, []}
use Rattle.std.proofs.lemmas.Result.{err_from_is_err_and}
use Rattle.sd_book.proofs.Judged.{judged_one_more}
use Rattle.sd_book.proofs.Causes.{command_broken, command_allowed}
use Rattle.sd_book.proofs.draft.Draft.push.Goals as goal

pub fits-requires : goal.fits-requires
fits-requires c = rw c.deref.ensures.value c.self.invariant.2

pub returns-in_err-fits-clause-complete : goal.returns-in_err-fits-clause-complete
returns-in_err-fits-clause-complete c = λ all.
    let longer = rw (← c.self.view_is) at all in
    let refused = rw c.deref.ensures.value at c.in_err-fits.ensures in
    absurd (command_allowed c.self.inside.tally.height c.self.inside.list.items c.args.command c.in_err-fits.field-0.0
    longer refused)

pub returns-in_err-fits-clause-fault : goal.returns-in_err-fits-clause-fault
returns-in_err-fits-clause-fault c =
    let p = err_from_is_err_and c.from_residual.result c.from_residual.ensures.1 in
    let refused = rw c.deref.ensures.value at c.in_err-fits.ensures in
    rw (p.1, p.2, ← c.self.view_is) (inr (command_broken c.self.inside.tally.height c.self.inside.list.items
    c.args.command [] c.in_err-fits.field-0.0 c.self.invariant.1 refused))

pub take-requires-clause-leaf : goal.take-requires-clause-leaf
take-requires-clause-leaf c = rw (← c.self.view_is) at c.requires.leaf

pub take-requires-clause-period : goal.take-requires-clause-period
take-requires-clause-period c = omega (arith, c.self.invariant.2.period, c.self.invariant.1.periods)

pub invariant_of-self-2 : goal.invariant_of-self-2
invariant_of-self-2 c =
    let leaf = rw (← c.self.view_is) at c.requires.leaf in
    let allowed = rw c.deref.ensures.value at c.in_ok-fits.ensures in
    let before = c.self.inside.list.items in
    rw (c.take.ensures.height, c.in_ok-push.ensures.items) (
      c.self.invariant.0,
      judged_one_more c.self.inside.tally.height before c.args.command c.self.invariant.1 leaf allowed,
      c.take.ensures.tally before c.self.invariant.2,
    )

pub returns-clause-fits : goal.returns-clause-fits
returns-clause-fits c = (invariant_of-self-2 c).1
