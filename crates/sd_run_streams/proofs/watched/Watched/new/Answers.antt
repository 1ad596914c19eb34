use Rattle.std.proofs.Common.{arith}
use Rattle.sd_run_streams.proofs.Learning.{first_marked}
use Rattle.sd_run_streams.proofs.watched.Watched.new.Goals as goal

pub returns : goal.returns
returns c =
    first_marked c.in-Ok.marks.items (omega (arith, c.in-Ok.ensures.len, c.in-Ok.marks.ok.0))
    (c.in-Ok.ensures.items_if_clones_equal (λ mark is. is))
