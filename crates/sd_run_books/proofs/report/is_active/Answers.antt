use Rattle.std.proofs.Common.{sym}
use Rattle.sd_run_books.proofs.Reports.{found_revoked, not_found}
use Rattle.sd_run_books.proofs.report.is_active.Goals as goal

pub returns-in-Ok : goal.returns-in-Ok
returns-in-Ok c = sym (found_revoked c.args.revoked.now c.args.leaf _
    (rw c.in-Ok.is at c.binary_search.ensures.position)
    c.requires)

pub returns-in-Err : goal.returns-in-Err
returns-in-Err c = sym (not_found c.args.revoked.now c.args.leaf _
    (rw c.in-Err.is at c.binary_search.ensures.position)
    c.requires)
