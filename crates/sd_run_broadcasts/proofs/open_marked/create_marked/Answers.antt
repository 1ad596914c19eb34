use Rattle.std.proofs.lemmas.Result.{err_from_is_err_and}
use Rattle.sd_command_base.specs.Shown.{shown_word}
use Rattle.sd_run_broadcasts.proofs.open_marked.create_marked.Goals as goal

pub returns-in_err-make_mark-clause-fault : goal.returns-in_err-make_mark-clause-fault
returns-in_err-make_mark-clause-fault g c =
    let p = err_from_is_err_and c.from_residual.result c.from_residual.ensures.1 in
    rw (p.1, p.2) (c.in_err-make_mark.ensures (shown_word c.args.out))
