use Rattle.sd_law_covers.proofs.CoversReach.{revoked_reach_none, revoked_in_book_reach_none}
use Rattle.sd_law_covers.proofs.reach.revoked_reach_none.Goals as goal

pub returns : goal.returns
returns c = record { leaves = revoked_reach_none; book = revoked_in_book_reach_none }
