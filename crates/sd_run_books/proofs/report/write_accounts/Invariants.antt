use Rattle.std.proofs.Common.{◌≡◌, ◌++◌, map}
use Rattle.json.specs.Tree.{json_tokens}
use Rattle.serde_json.specs.Data.{array}
use Rattle.serde_json.specs.View.{items_of}
use Rattle.serde_json.specs.Written.{outline}
use Rattle.sd_run_books.specs.Kept.{kept_accounts}
use Rattle.sd_run_books.specs.Report.{account_data}
use Rattle.sd_run_books.proofs.Reports.{tokens_due}
use Rattle.sd_run_books.proofs.report.write_accounts.Given as goal

-- the accounts so far are written, and the others are left
abbrev pub invariant-loop-name : goal.invariant-loop-name
invariant-loop-name l =
    (l.out.tokens ++ tokens_due l.revoked l.name-iterator
    ≡ l.fn.out.tokens ++ json_tokens (outline
    (array (items_of (map (account_data l.revoked) (kept_accounts l.leaves.entries))))))
    × (l.out.before ≡ l.fn.out.before)
