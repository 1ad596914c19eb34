use Rattle.std.proofs.Common.{Bool, ap, ◌∙◌}
use Rattle.std.specs.Option.{option_or}
use Rattle.std.specs.Prelude.{if◌then◌else◌, Some, None}
use Rattle.sd_receive.proofs.Judging.{unkeyed_of_all}
use Rattle.sd_receive.proofs.emm.PeriodKeys.unkeyed.Goals as goal

pub returns : goal.returns
returns c card tr is =
    c.or_this.ensures
    ∙ (ap (λ (b : Bool). option_or c.args.self.now.unkeyed (if b then Some c.args.self.now.period else None))
    c.lacks_key.ensures
    ∙ unkeyed_of_all card tr c.args.self.now is)
