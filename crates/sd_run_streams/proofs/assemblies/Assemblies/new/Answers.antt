use Rattle.sd_run_streams.proofs.After.{first_placed}
use Rattle.sd_run_streams.proofs.assemblies.Assemblies.new.Goals as goal

pub returns : goal.returns
returns c = record { marked = c.in_ok-new.ensures; placed = first_placed _ c.in_ok-no_assemblers.ensures }
