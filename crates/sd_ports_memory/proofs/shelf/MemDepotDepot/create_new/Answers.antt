use Rattle.std.proofs.Common.{ap}
use Rattle.sd_ports_memory.specs.Memory.{Shelf}
use Rattle.sd_ports.proofs.Calls.{failed_once}
use Rattle.sd_ports_memory.proofs.shelf.MemDepotDepot.create_new.Goals as goal

pub returns-in-Err-clause-cause : goal.returns-in-Err-clause-cause
returns-in-Err-clause-cause c =
    failed_once _ _ _ _ c.begin_opening.ensures.within (ap (λ (s : Shelf). s.faults) c.in-Err.ensures.err)
    (ap (λ (s : Shelf). s.misses) c.in-Err.ensures.err)
