use Rattle.sd_cover_tracing.specs.Halves.{cuts_left}
use Rattle.sd_cover_tracing.proofs.narrow.+narrow.Given as goal

abbrev pub decreases-narrow : goal.decreases-narrow
decreases-narrow g l = cuts_left l.h l.name
