use Rattle.std.proofs.Common.{ℕ, refl, sym, subst, arith}
use Rattle.sd_receive.specs.PeriodKeys.{IsStateAt}
use Rattle.sd_receive.proofs.Keeping.{message_told}
use Rattle.sd_receive.proofs.emm.PeriodKeys.message.Goals as goal

pub returns : goal.returns
returns c card tr part message is done same =
    message_told card part message tr c.advance.new.self _ done
    (subst (λ (q : ℕ). IsStateAt card tr q c.advance.new.self) (sym same) (c.advance.ensures card tr is))
    (omega (arith, same, is.period, c.requires)) refl refl refl refl refl refl refl
