use Rattle.std.proofs.Common.{rules}
use Rattle.std.proofs.lemmas.Result.{IfOk-equal}
use Rattle.sd_run_books.specs.Kept.{kept_accounts}
use Rattle.sd_run_books.proofs.Reports.{report_joined}
use Rattle.sd_run_books.proofs.report.write_report.Goals as goal

pub returns-clause-tokens : goal.returns-clause-tokens
returns-clause-tokens c = IfOk-equal c.end_object.result c.end_object.new.self.tokens _ _ c.end_object.ensures.ok
    (report_joined c.args.revoked.now
    (record { book = c.args.book.now; accounts = kept_accounts c.args.leaves.now.entries })
    c.from.result c.from-2.result c.args.out.now.tokens c.begin_object.new.self.tokens c.key.new.self.tokens
    c.write_accounts.new.out.tokens c.write_number.new.out.tokens c.write_number-2.new.out.tokens c.requires.revoked
    (search rules) (search rules) (search rules) (search rules) c.in_ok-write_accounts.ensures.tokens
    c.in_ok-write_number.ensures.tokens c.in_ok-write_number-2.ensures.tokens)
