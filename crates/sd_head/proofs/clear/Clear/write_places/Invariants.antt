use Rattle.std.proofs.Common.{◌≡◌, ◌≤◌, map, take, vec_capacity}
use Rattle.sd_head.proofs.Placing.{place_at}
use Rattle.sd_head.proofs.clear.Clear.write_places.Given as goal

-- the places of the PIDs so far
abbrev pub invariant-loop-pid : goal.invariant-loop-pid
invariant-loop-pid l = record {
  items : l.places.items ≡ map (place_at l.self.positions.items) (take l.pid-index l.self.pids.items);
  room : 256 ≤ vec_capacity l.places;
}
