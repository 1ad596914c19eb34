use Rattle.std.proofs.Common.{ℕ, List, string_bytes}
use Rattle.std.proofs.lemmas.Result.{err_from_is_err_and}
use Rattle.sd_head.specs.Kept.{plan_of}
use Rattle.sd_run_broadcasts.proofs.Trying.{sent_stopped, receivers_run}
use Rattle.sd_run_broadcasts.proofs.trial_command.text_of.Goals as goal

pub returns-in_err-sent : goal.returns-in_err-sent
returns-in_err-sent g c =
    let p = err_from_is_err_and c.from_residual.result c.from_residual.ensures.1 in
    rw (p.1, p.2) (sent_stopped (λ (xs : List ℕ). xs) (λ (xs : List ℕ). xs) (plan_of c.args.site c.args.book)
    c.args.prefix.now c.in_err-sent.field-0.0 c.in_err-sent.ensures)

pub returns : goal.returns
returns g c =
    let lines = rw (c.deref.ensures.value, c.bytes-clear.ensures) at c.lines.ensures in
    receivers_run (λ text. string_bytes text) (plan_of c.args.site c.args.book) c.args.prefix.now
    c.in_ok-sent.sent.items c.lines.result c.in_ok-sent.ensures lines
