use Rattle.std.proofs.Common.{◌∙◌, ap, arith}
use Rattle.sd_tree_keys.specs.Labels.{middle_of}
use Rattle.sd_site_cards.proofs.secret_key.key_below.Goals as goal

pub returns-clause-sound : goal.returns-clause-sound
returns-clause-sound g c names secrets i held = record {
  node = c.args.node;
  label = c.args.label.now;
  held = held;
  above = c.requires.above;
  value = c.middle.ensures.value ∙ ap middle_of c.descend.ensures.value;
  steps = omega arith;
}
