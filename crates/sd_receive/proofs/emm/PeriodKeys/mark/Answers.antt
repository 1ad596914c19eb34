use Rattle.std.proofs.Common.{ℕ, refl, ap, arith, true}
use Rattle.std.specs.Prelude.{Some, slice_set}
use Rattle.sd_receive.specs.declared.emm.header.PeriodHeader.{PeriodHeader}
use Rattle.sd_receive.specs.PeriodKeys.{with_key}
use Rattle.sd_receive.proofs.Keeping.{counted}
use Rattle.sd_receive.proofs.emm.PeriodKeys.mark.Goals as goal

pub returns : goal.returns
returns c card tr before old h same inside key =
    counted card c.args.emm.now tr (with_key c.args.self.now before) _ old h same inside
    (omega (arith, c.of.ensures.fits, ap (λ (s : PeriodHeader). s.sections) c.of.ensures.value))
    (omega (arith, c.args.self.now.long, c.args.self.now.marks.ok.0)) refl (ap Some c.of.ensures.value)
    (ap (λ (i : ℕ). slice_set c.args.self.now.marks.items i true) c.from.ensures) refl key refl refl
