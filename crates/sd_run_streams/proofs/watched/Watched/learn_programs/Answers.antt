use Rattle.std.proofs.Common.{refl}
use Rattle.sd_run_streams.proofs.Learning.{all_added}
use Rattle.sd_run_streams.proofs.watched.Watched.learn_programs.Goals as goal

-- no PID is left
pub returns : goal.returns
returns c = all_added _ _ _ _ (c.in_default.ensures.none.0 refl) c.loop-pid.invariant
