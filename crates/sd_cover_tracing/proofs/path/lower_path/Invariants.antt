use Rattle.std.proofs.Common.{◌≡◌, ℕ, ◌+◌, ◌≤◌}
use Rattle.sd_cover_tracing.specs.Tally.{tally_at}
use Rattle.sd_cover_tracing.specs.Path.{path_visit_count}
use Rattle.sd_cover_tracing.proofs.path.lower_path.Given as goal

abbrev pub invariant-loop-level : goal.invariant-loop-level
invariant-loop-level g l = record {
  value : (v : ℕ) → tally_at l.counts.counts v + path_visit_count l.fn.node l.level v ≡ tally_at l.fn.counts.counts v;
  room : l.fn.counts.room ≤ l.counts.room;
  steps : l.steps ≡ l.fn.steps + l.level;
}
