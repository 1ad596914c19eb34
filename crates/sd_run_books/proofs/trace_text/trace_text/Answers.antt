use Rattle.std.proofs.Common.{[], take, refl, sym}
use Rattle.std.proofs.lemmas.List.{take_all, take_more, flat_map_more}
use Rattle.std.proofs.lemmas.Result.{IfOk-from_err}
use Rattle.sd_run_books.specs.Trace.{traced_line, trace_text}
use Rattle.sd_run_books.proofs.trace_text.trace_text.Goals as goal

-- no leaf has a line yet
pub loop-next-init : goal.loop-next-init
loop-next-init c = rw c.new-text.ensures.bytes refl

-- one more leaf has its line
pub loop-next-preserved : goal.loop-next-preserved
loop-next-preserved c =
    let found = c.args.found.now in
    let i = c.loop-next.next-index in
    let next = c.next-item.result in
    rw (
      c.in_ok-push_found.ensures,
      c.loop-next.invariant,
      take_more found i next c.loop-next-test.true,
      sym c.next-item.is,
    )
    (flat_map_more traced_line [] (take i found) next)

pub returns-in_err-push_found : goal.returns-in_err-push_found
returns-in_err-push_found c = IfOk-from_err c.from_residual.result _ c.from_residual.ensures.0

pub returns-in_err-push_silent : goal.returns-in_err-push_silent
returns-in_err-push_silent c =
    IfOk-from_err c.from_residual-in_err-push_silent.result _ c.from_residual-in_err-push_silent.ensures.0

-- all leaves have their lines
pub returns : goal.returns
unfolding trace_text
returns c =
    rw (
      c.in_ok-push_silent.ensures,
      c.loop-next.invariant,
      take_all c.loop-next.next-index c.args.found.now c.loop-next-test.false,
    )
    refl
