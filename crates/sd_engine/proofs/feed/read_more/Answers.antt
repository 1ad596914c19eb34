use Rattle.std.proofs.Common.{arith}
use Rattle.sd_engine.proofs.Feeding.{read_once}
use Rattle.sd_engine.proofs.feed.read_more.Goals as goal

pub returns-clause-value : goal.returns-clause-value
returns-clause-value g c =
    read_once c.read.result _ _ _ _ _ _ (omega (arith, c.requires.room)) c.read.ensures.bound
    c.read.ensures.bytes
