use Rattle.std.proofs.Common.{◌≡◌, List, OnOk, sym, subst}
use Rattle.json.specs.Token.{Token}
use Rattle.sd_run_broadcasts.specs.MemberTokens.{HasFeed}
use Rattle.sd_run_broadcasts.proofs.WatchLines.{ending_feed, joined}
use Rattle.sd_run_broadcasts.proofs.watch_line.write_report.Goals as goal

pub write_status-requires : goal.write_status-requires
write_status-requires c =
    subst HasFeed (sym c.ending_status.ensures.value) (ending_feed c.args.leaf c.args.report.now.ending)

pub returns-clause-tokens : goal.returns-clause-tokens
returns-clause-tokens c =
    subst (λ (tokens : List Token). OnOk c.end_object.result (c.end_object.new.self.tokens ≡ tokens))
    (joined c.args.leaf c.args.skipped c.args.report.now c.args.out.now.tokens _ _ _ _ _ _ _ _ _ _ _
    c.in_ok-begin_object.ensures.ok c.in_ok-write_number.ensures.tokens
    (rw c.ending_status.ensures.value at c.in_ok-write_status.ensures.tokens) c.in_ok-write_first.ensures.tokens
    c.in_ok-write_number-2.ensures.tokens c.in_ok-write_number-3.ensures.tokens c.in_ok-write_number-4.ensures.tokens
    c.in_ok-write_number-5.ensures.tokens c.in_ok-write_run.ensures.tokens c.in_ok-write_number-6.ensures.tokens
    c.in_ok-write_number-7.ensures.tokens)
    c.end_object.ensures.ok
