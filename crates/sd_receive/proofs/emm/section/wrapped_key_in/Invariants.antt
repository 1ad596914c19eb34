use Rattle.std.proofs.Common.{◌≡◌, drop}
use Rattle.std.specs.Prelude.{find}
use Rattle.sd_message.specs.EmmSpelled.{listed_entries}
use Rattle.sd_receive.proofs.Finding.{has_leaf}
use Rattle.sd_receive.proofs.emm.section.wrapped_key_in.Given as goal

abbrev pub invariant-loop-entry : goal.invariant-loop-entry
invariant-loop-entry g l = record {
  steps : l.steps ≡ l.fn.steps;
  items : l.entry-items ≡ listed_entries l.emm;
  found : find (has_leaf l.card.height l.card.leaf) (drop l.entry-index (listed_entries l.emm))
      ≡ find (has_leaf l.card.height l.card.leaf) (listed_entries l.emm);
}
