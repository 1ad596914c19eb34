use Rattle.std.proofs.Common.{arith, ◌≤◌, ◌+◌, ap, ◌∙◌}
use Rattle.std.proofs.lemmas.Result.{err_from_is_err_and}
use Rattle.sd_book.specs.Commands.{last_period}
use Rattle.sd_command_base.specs.Outside.{page_state}
use Rattle.sd_command_base.proofs.PrintedPeriods.{is_inside, one_more, some_printed, one_failed}
use Rattle.sd_command_base.proofs.printing.print_periods.Invariants.{listed_at}
use Rattle.sd_command_base.proofs.printing.print_periods.Goals as goal

pub returns-in_err-revoked : goal.returns-in_err-revoked
returns-in_err-revoked g c =
    let turn = c.loop-periods.invariant in
    let p = err_from_is_err_and c.from_residual.result c.from_residual.ensures.1 in
    let commands = c.args.book.now.commands in
    rw (p.1, p.2) (some_printed (listed_at g c.args.listing.now c.args.book.now.height commands) (last_period commands)
    c.loop-periods.q (page_state g.P.Sink c.args.print.now) (page_state g.P.Sink c.loop-periods.print) turn.within
    turn.texts)

pub returns-in_err-print_period : goal.returns-in_err-print_period
returns-in_err-print_period g c =
    let commands = c.args.book.now.commands in
    let q = c.loop-periods.q in
    let turn = c.loop-periods.invariant in
    let p = err_from_is_err_and c.from_residual-in_err-print_period.result
    c.from_residual-in_err-print_period.ensures.1 in
    let end = rw (turn.commands, turn.next, c.in-Some.is) at c.in_ok-revoked.ensures.end in
    let value = rw (turn.height, turn.commands, turn.next, c.in-Some.is) at c.in_ok-revoked.ensures.value in
    let period = rw (c.height-h.ensures, c.deref.ensures.value, value) at c.in_err-print_period.ensures.value in
    rw (p.1, p.2) (one_failed (listed_at g c.args.listing.now c.args.book.now.height commands) (last_period commands) q
    (page_state g.P.Sink c.args.print.now) (page_state g.P.Sink c.loop-periods.print)
    (page_state g.P.Sink c.print_period.new.print)
    c.in_err-print_period.field-0.0 (is_inside (last_period commands) q end) turn.texts
    c.in_err-print_period.ensures.fault period)

pub loop-periods-preserved : goal.loop-periods-preserved
loop-periods-preserved g c =
    let commands = c.args.book.now.commands in
    let q = c.loop-periods.q in
    let turn = c.loop-periods.invariant in
    let end = rw (turn.commands, turn.next, c.in-Some.is) at c.in_ok-revoked.ensures.end in
    let value = rw (turn.height, turn.commands, turn.next, c.in-Some.is) at c.in_ok-revoked.ensures.value in
    let inside : q ≤ last_period commands = is_inside (last_period commands) q end in
    let period = rw (c.height-h.ensures, c.deref.ensures.value, value) at c.in_ok-print_period.ensures.value in
    let next = rw c.in-Some.is at c.in_ok-revoked.ensures.next in
    record {
      texts = one_more (listed_at g c.args.listing.now c.args.book.now.height commands) q
          (page_state g.P.Sink c.args.print.now) (page_state g.P.Sink c.loop-periods.print)
          (page_state g.P.Sink c.print_period.new.print) turn.texts period;
      height = c.in_ok-revoked.ensures.height ∙ turn.height;
      commands = c.in_ok-revoked.ensures.commands ∙ turn.commands;
      next = next ∙ ap (λ n. n + 1) turn.next;
      within = omega (arith, inside);
      fits = turn.fits;
      most = turn.most;
      tree = turn.tree;
    }
