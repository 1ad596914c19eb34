use Rattle.std.proofs.Common.{rules}
use Rattle.sd_run_books.proofs.LayerCovers.{cover_of_height}
use Rattle.sd_run_books.proofs.layered_useful.UsefulSetsListing.listed.Goals as goal

pub returns-in-Ok-clause-value : goal.returns-in-Ok-clause-value
returns-in-Ok-clause-value c = search rules

pub returns-in-Ok-clause-names : goal.returns-in-Ok-clause-names
returns-in-Ok-clause-names c = search (rules, cover_of_height)
