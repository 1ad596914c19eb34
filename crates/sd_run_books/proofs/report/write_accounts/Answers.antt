use Rattle.std.proofs.Common.{rules, ◌∙◌}
use Rattle.sd_run_books.proofs.Reports.{accounts_begin, account_first}
use Rattle.sd_run_books.proofs.report.write_accounts.Goals as goal

pub loop-name-init : goal.loop-name-init
loop-name-init c = (
  accounts_begin c.args.revoked.now c.args.out.now.tokens c.begin_array.new.self.tokens c.args.leaves.now.entries
      c.into_iter-name-iterator.result (search rules) (search rules),
  c.begin_array.ensures.room.0,
)

pub loop-name-preserved : goal.loop-name-preserved
loop-name-preserved c = (
  account_first c.args.revoked.now c.loop-name.out.tokens c.write_account.new.out.tokens _ c.loop-name.name-iterator
      c.next.new.self c.in-Some.name.now c.in-Some.leaf.now c.as_str.result.now (search rules) (search rules)
      c.in_ok-write_account.ensures.tokens c.loop-name.invariant.0,
  c.in_ok-write_account.ensures.before ∙ c.loop-name.invariant.1,
)
