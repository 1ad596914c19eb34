use Rattle.std.proofs.Common.{rules}
use Rattle.sd_host.proofs.Kept.{written_past, kept_grown}
use Rattle.sd_host.proofs.outlet.HostOutletSink.write.Goals as goal

pub returns-then-piece-ge-BUFFER-clause-passed : goal.returns-then-piece-ge-BUFFER-clause-passed
returns-then-piece-ge-BUFFER-clause-passed g c = search (rules, kept_grown, written_past)
