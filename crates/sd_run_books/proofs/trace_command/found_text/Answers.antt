use Rattle.std.proofs.Common.{rules}
use Rattle.sd_run_books.proofs.Tracing.{is_too_many, is_traced, is_unended}
use Rattle.sd_run_books.proofs.trace_command.found_text.Goals as goal

pub returns-in-Ok : goal.returns-in-Ok
returns-in-Ok c = search (rules, is_traced, is_too_many)

pub returns : goal.returns
returns c =
    rw (c.fault_status.ensures) (is_unended c.args.book.now.height c.args.leaves.items c.args.book.now.commands
    c.in-Err.fault (λ same. search (rules, same)))
