use Rattle.sd_law_covers.proofs.CoversReach.{revoked_pool_reaches_none, revoked_pool_in_book_reaches_none}
use Rattle.sd_law_covers.proofs.reach.revoked_pool_reaches_none.Goals as goal

pub returns : goal.returns
returns c = record { leaves = revoked_pool_reaches_none; book = revoked_pool_in_book_reaches_none }
