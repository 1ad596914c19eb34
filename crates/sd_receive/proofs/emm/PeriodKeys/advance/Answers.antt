use Rattle.std.proofs.Common.{refl, ap, ◌∙◌, arith}
use Rattle.sd_receive.specs.PeriodKeys.{cleared}
use Rattle.sd_receive.proofs.Keeping.{moved}
use Rattle.sd_receive.proofs.Judging.{all_cleared}
use Rattle.sd_receive.proofs.emm.PeriodKeys.advance.Goals as goal

pub returns : goal.returns
returns c card tr is =
    moved card c.args.period tr c.args.self.now _ is
    (omega (arith, is.period, c.requires, c.if-period-self.false)) refl refl
    (all_cleared card tr c.args.self.now is c.args.self.now.marks.len c.reset_marks.new.marks
    (c.reset_marks.ensures.value ∙ ap (cleared c.args.self.now.header) c.deref_mut.ensures.value)
    (omega (arith, c.reset_marks.ensures.length, c.deref_mut.ensures.len))) refl refl
    (c.revoked-revoked.ensures card tr is) (c.unkeyed-unkeyed.ensures card tr is)
