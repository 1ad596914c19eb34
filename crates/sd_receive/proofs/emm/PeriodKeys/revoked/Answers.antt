use Rattle.std.proofs.Common.{Bool, ap, ◌∙◌, arith}
use Rattle.std.specs.Option.{option_or}
use Rattle.std.specs.Prelude.{if◌then◌else◌, Some, None}
use Rattle.sd_receive.proofs.Judging.{revoked_of_all}
use Rattle.sd_receive.proofs.emm.PeriodKeys.revoked.Goals as goal

pub returns : goal.returns
returns c card tr is =
    c.or_this.ensures
    ∙ (ap (λ (b : Bool). option_or c.args.self.now.revoked (if b then Some c.args.self.now.period else None))
    c.shuts_out.ensures
    ∙ revoked_of_all card tr c.args.self.now is
    (omega (arith, c.args.self.now.long, c.args.self.now.marks.ok.0)))
