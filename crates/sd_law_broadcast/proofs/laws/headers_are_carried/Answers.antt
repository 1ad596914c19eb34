use Rattle.sd_law_broadcast.proofs.Carrying.{carried_pid, carried_keeps, moves_alike, kind_placed}
use Rattle.sd_law_broadcast.proofs.laws.headers_are_carried.Goals as goal

pub returns : goal.returns
returns c = record { pid = carried_pid; header = carried_keeps; moved = moves_alike; placed = kind_placed }
