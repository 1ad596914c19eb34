use Rattle.std.proofs.Common.{rules}
use Rattle.std.proofs.lemmas.Result.{err_from_is_err_and}
use Rattle.sd_book.proofs.Causes.{none_faulty, faulty_is, end_faulty, answer_complete, answer_value}
use Rattle.sd_book.proofs.book.Book.read.Goals as goal

pub returns-in_err-draft_of-clause-complete : goal.returns-in_err-draft_of-clause-complete
returns-in_err-draft_of-clause-complete c =
    let p = err_from_is_err_and c.from_residual.result c.from_residual.ensures.1 in
    rw (p.1, p.2) (λ commands. none_faulty c.args.h c.args.bytes.now commands c.in_err-draft_of.field-0.0
    c.in_err-draft_of.ensures.fault)

pub returns-in_err-draft_of-clause-fault : goal.returns-in_err-draft_of-clause-fault
returns-in_err-draft_of-clause-fault c =
    let p = err_from_is_err_and c.from_residual.result c.from_residual.ensures.1 in
    rw (p.1, p.2) c.in_err-draft_of.ensures.fault

pub returns-in_err-draft_of-clause-value : goal.returns-in_err-draft_of-clause-value
returns-in_err-draft_of-clause-value c =
    let p = err_from_is_err_and c.from_residual.result c.from_residual.ensures.1 in
    rw (p.1, p.2) (faulty_is c.args.h c.args.bytes.now c.in_err-draft_of.field-0.0 c.in_err-draft_of.ensures.fault)

pub returns-clause-fits : goal.returns-clause-fits
returns-clause-fits c = search rules

pub returns-clause-sound : goal.returns-clause-sound
returns-clause-sound c = search rules

pub returns-clause-fault : goal.returns-clause-fault
returns-clause-fault c =
    let draft = c.in_ok-draft_of.field-0 in
    end_faulty c.args.h draft.height c.args.bytes.now draft.commands c.finish.result c.in_ok-draft_of.ensures.height
    c.in_ok-draft_of.ensures.sound c.in_ok-draft_of.ensures.fits c.finish.ensures.fault

pub returns-clause-complete : goal.returns-clause-complete
returns-clause-complete c = answer_complete c.args.h c.args.bytes.now c.finish.result (returns-clause-sound c)
    (returns-clause-fault c)

pub returns-clause-value : goal.returns-clause-value
returns-clause-value c = answer_value c.args.h c.args.bytes.now c.finish.result (returns-clause-fits c)
    (returns-clause-sound c) (returns-clause-fault c)
