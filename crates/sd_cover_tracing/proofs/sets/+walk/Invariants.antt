use Rattle.sd_cover_tracing.proofs.sets.+walk.Given as goal

abbrev pub decreases-walk : goal.decreases-walk
decreases-walk g l = l.level
