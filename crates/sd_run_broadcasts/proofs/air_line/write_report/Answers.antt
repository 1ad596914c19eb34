use Rattle.std.proofs.Common.{◌≡◌, List, OnOk, subst}
use Rattle.json.specs.Token.{Token}
use Rattle.sd_run_broadcasts.proofs.AirLines.{joined}
use Rattle.sd_run_broadcasts.proofs.air_line.write_report.Goals as goal

pub returns-clause-tokens : goal.returns-clause-tokens
returns-clause-tokens c =
    subst (λ (tokens : List Token). OnOk c.end_object.result (c.end_object.new.self.tokens ≡ tokens))
    (joined c.args.report.now c.args.out.now.tokens _ _ _ _ _ _ _ _ _ _ _
    c.in_ok-begin_object.ensures.ok c.in_ok-write_first.ensures.tokens
    (rw c.from.ensures at c.in_ok-write_number.ensures.tokens) c.in_ok-write_number-2.ensures.tokens
    c.in_ok-write_number-3.ensures.tokens c.in_ok-write_number-4.ensures.tokens
    (rw c.from-2.ensures at c.in_ok-write_number-5.ensures.tokens)
    c.in_ok-write_number-6.ensures.tokens c.in_ok-write_number-7.ensures.tokens c.in_ok-write_number-8.ensures.tokens
    (rw c.from-3.ensures at c.in_ok-write_number-9.ensures.tokens))
    c.end_object.ensures.ok
