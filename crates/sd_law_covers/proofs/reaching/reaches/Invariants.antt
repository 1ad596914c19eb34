use Rattle.std.proofs.Common.{ℕ, ◌<◌, slice_index_or}
use Rattle.sd_tree_keys.specs.declared.name.Name.TheVariants.{Whole}
use Rattle.sd_cover_tracing.specs.Reach.{Key, DerivesSecret}
use Rattle.sd_law_covers.proofs.reaching.reaches.Given as goal

abbrev pub invariant-loop-given : goal.invariant-loop-given
invariant-loop-given l = (k : ℕ) → k < l.given-index → ¬ DerivesSecret (slice_index_or l.held k Whole) (Key l.name)
