use Rattle.std.proofs.Common.{rules}
use Rattle.sd_law_covers.proofs.Given.{pairs_all, pair_more}
use Rattle.sd_law_covers.proofs.names.give.Goals as goal

pub loop-below-preserved : goal.loop-below-preserved
loop-below-preserved c = search (rules, pair_more, pairs_all)
