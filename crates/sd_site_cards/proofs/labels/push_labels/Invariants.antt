use Rattle.std.proofs.Common.{◌+◌, ◌<◌, ◌≡◌, ◌++◌}
use Rattle.sd_tree_keys.specs.Labels.{label_of}
use Rattle.sd_tree_keys.specs.Paths.{path_node}
use Rattle.sd_site_cards.proofs.MadeSecrets.{labels_under}
use Rattle.sd_site_cards.proofs.labels.push_labels.Given as goal

abbrev pub invariant-loop-below : goal.invariant-loop-below
invariant-loop-below g l = record {
  parent : l.below < l.fn.levels → l.parent ≡ path_node l.fn.h l.fn.u (l.fn.depth + l.below);
  label : l.below < l.fn.levels → l.label.0 ≡ label_of l.fn.master (path_node l.fn.h l.fn.u l.fn.depth) l.parent;
  given : l.secrets.items ≡ l.fn.secrets.items ++ labels_under l.fn.master l.fn.h l.fn.u l.fn.depth l.below;
}
