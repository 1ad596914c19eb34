use Rattle.std.proofs.Common.{Bool, Ok, subst}
use Rattle.std.proofs.lemmas.Result.{err_from_is_err_and}
use Rattle.sd_run_broadcasts.specs.FieldPlayed.{EventOutcome}
use Rattle.sd_run_broadcasts.proofs.Playing.{none_done, one_more_done, played_out, played_short}
use Rattle.sd_run_broadcasts.proofs.field_play.play.Goals as goal

pub loop-init : goal.loop-init
loop-init g c = none_done c.args.field.now c.requires.new c.requires.calm

pub returns-in_err-advance : goal.returns-in_err-advance
returns-in_err-advance g c =
    let p = err_from_is_err_and c.from_residual.result c.from_residual.ensures.1 in
    rw (p.1, p.2) (played_short c.args.field.now c.loop.field c.advance.new.field c.in_err-advance.field-0.0
    c.loop.invariant c.in_err-advance.ensures)

pub loop-preserved : goal.loop-preserved
loop-preserved g c =
    one_more_done c.args.field.now c.loop.field c.advance.new.field c.loop.invariant
    (subst (λ (more : Bool). EventOutcome c.loop.field c.advance.new.field (Ok more)) c.if-branch.true
    c.in_ok-advance.ensures)

pub returns : goal.returns
returns g c =
    played_out c.args.field.now c.loop.field c.advance.new.field c.loop.invariant
    (subst (λ (more : Bool). EventOutcome c.loop.field c.advance.new.field (Ok more)) c.if-branch.false
    c.in_ok-advance.ensures)
