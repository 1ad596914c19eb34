use Rattle.std.proofs.Common.{◌≡◌, ◌∙◌, ℕ, List, sym, subst, true, inl, append-nil}
use Rattle.std.specs.Prelude.{IfOk}
use Rattle.std.proofs.lemmas.List.Elements.{All-get_or}
use Rattle.std.proofs.lemmas.Result.{err_from_is_err_and}
use Rattle.sd_book.specs.declared.command.Command.{Command}
use Rattle.sd_book.specs.Commands.{is_within}
use Rattle.sd_book.specs.Limits.{IsDraft}
use Rattle.sd_book.proofs.Causes.{append_fault, finish_fault, appended, appended_all}
use Rattle.sd_book.proofs.book.longer.Goals as goal

pub push-requires : goal.push-requires
push-requires c = record {
  leaf = rw (c.loop-command.invariant.height, c.command-item.is)
      (All-get_or (λ command. is_within c.args.h command ≡ true) c.args.more.now c.loop-command.command-index
      c.command-item.result c.loop-command-test.true c.requires.leaves);
}

pub returns-in_err-push-clause-fault : goal.returns-in_err-push-clause-fault
returns-in_err-push-clause-fault c =
    let p = err_from_is_err_and c.from_residual-in_err-push.result c.from_residual-in_err-push.ensures.1 in
    let why = append_fault c.args.h c.loop-command.draft.height c.args.before.now c.args.more.now
    c.loop-command.draft.commands c.loop-command.command-index
    c.command-item.result c.in_err-push.field-0.0 c.loop-command.invariant.height c.loop-command.invariant.value
    c.loop-command-test.true (sym c.command-item.is) c.loop-command.invariant.fits c.in_err-push.ensures.fault in
    rw (p.1, p.2) why

pub loop-command-preserved : goal.loop-command-preserved
loop-command-preserved c =
    let height = c.in_ok-push.ensures.height ∙ c.loop-command.invariant.height in
    record {
      fits = subst (λ (k : ℕ). IsDraft k c.push.new.self.commands) height c.in_ok-push.ensures.fits;
      height = height;
      value = appended c.args.before.now c.args.more.now c.loop-command.draft.commands c.push.new.self.commands
          c.loop-command.command-index c.command-item.result c.loop-command-test.true (sym c.command-item.is)
          c.loop-command.invariant.value c.in_ok-push.ensures.value;
    }

pub returns-clause-value : goal.returns-clause-value
returns-clause-value c =
    subst (λ (cs : List Command). IfOk c.finish.result (λ book. book.commands ≡ cs))
    (appended_all _ _ _ _ c.loop-command.invariant.value c.loop-command-test.false) c.finish.ensures.value

pub returns-clause-fault : goal.returns-clause-fault
returns-clause-fault c =
    finish_fault c.args.h _ c.args.before.now c.args.more.now _ c.finish.result c.loop-command.invariant.height
    (appended_all _ _ _ _ c.loop-command.invariant.value c.loop-command-test.false) c.loop-command.invariant.fits
    c.finish.ensures.fault

pub loop-command-init : goal.loop-command-init
loop-command-init c = record {
  fits = c.in_ok-draft.ensures.fits;
  height = c.in_ok-draft.ensures.height;
  value = c.in_ok-draft.ensures.value ∙ sym (append-nil c.args.before.now);
}

pub returns-in_err-draft-clause-height : goal.returns-in_err-draft-clause-height
returns-in_err-draft-clause-height c =
    let p = err_from_is_err_and c.from_residual.result c.from_residual.ensures.1 in
    rw p.1 tt

pub returns-in_err-draft-clause-value : goal.returns-in_err-draft-clause-value
returns-in_err-draft-clause-value c =
    let p = err_from_is_err_and c.from_residual.result c.from_residual.ensures.1 in
    rw p.1 tt

pub returns-in_err-draft-clause-fault : goal.returns-in_err-draft-clause-fault
returns-in_err-draft-clause-fault c =
    let p = err_from_is_err_and c.from_residual.result c.from_residual.ensures.1 in
    rw p.1 (inl p.2)

pub returns-in_err-push-clause-height : goal.returns-in_err-push-clause-height
returns-in_err-push-clause-height c =
    let p = err_from_is_err_and c.from_residual-in_err-push.result c.from_residual-in_err-push.ensures.1 in
    rw p.1 tt

pub returns-in_err-push-clause-value : goal.returns-in_err-push-clause-value
returns-in_err-push-clause-value c =
    let p = err_from_is_err_and c.from_residual-in_err-push.result c.from_residual-in_err-push.ensures.1 in
    rw p.1 tt

pub returns-clause-height : goal.returns-clause-height
returns-clause-height c = rw c.loop-command.invariant.height at c.finish.ensures.height
