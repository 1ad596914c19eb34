use Rattle.std.proofs.Common.{refl}
use Rattle.sd_receive.proofs.Keeping.{first, none_marked}
use Rattle.sd_receive.proofs.emm.PeriodKeys.new.Goals as goal

pub returns : goal.returns
returns c card =
    first card _ refl refl (none_marked 65536 _ (c.in-Ok.ensures.items_if_clones_equal (λ mark is. is))) refl refl refl
    refl
