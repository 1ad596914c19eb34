use Rattle.sd_law_covers.proofs.CoversReach.{cover_reached, cover_in_book_reached}
use Rattle.sd_law_covers.proofs.reach.cover_reached.Goals as goal

pub returns : goal.returns
returns c = record { leaves = cover_reached; book = cover_in_book_reached }
