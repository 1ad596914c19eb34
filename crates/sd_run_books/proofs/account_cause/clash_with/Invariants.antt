use Rattle.std.proofs.Common.{◌≡◌, ◌-◌, take}
use Rattle.sd_run_books.specs.AccountsCause.{clash_from}
use Rattle.sd_run_books.specs.Line.{said_by_accounts}
use Rattle.sd_run_books.proofs.account_cause.clash_with.Given as goal

-- the lines so far clash with nothing
abbrev pub invariant-loop-line : goal.invariant-loop-line
invariant-loop-line l =
    clash_from l.line l.fn.name.bytes l.fn.leaf (take (l.fn.k - l.line) (said_by_accounts l.fn.h l.rest))
    ≡ clash_from 1 l.fn.name.bytes l.fn.leaf (take (l.fn.k - 1) (said_by_accounts l.fn.h l.fn.bytes))
