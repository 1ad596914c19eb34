use Rattle.std.proofs.Common.{rules}
use Rattle.sd_run_books.proofs.opens_pool.PoolListing.end.Goals as goal

pub returns-else-opens : goal.returns-else-opens
returns-else-opens c = search rules
