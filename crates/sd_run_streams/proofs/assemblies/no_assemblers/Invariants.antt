use Rattle.std.proofs.Common.{◌≡◌, ◌≤◌, None, replicate, vec_len, vec_capacity}
use Rattle.sd_run_streams.proofs.assemblies.no_assemblers.Given as goal

-- a place for each PID before this one, and room for the others
abbrev pub invariant-loop-pid : goal.invariant-loop-pid
invariant-loop-pid l = record {
  places : l.places.items ≡ replicate l._pid None;
  count : vec_len l.places ≡ l._pid;
  room : 8192 ≤ vec_capacity l.places;
}
