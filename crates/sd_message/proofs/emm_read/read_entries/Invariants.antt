use Rattle.std.proofs.Common.{◌≡◌, ◌-◌, ◌++◌}
use Rattle.std.specs.Prelude.{replicate}
use Rattle.sd_message.specs.EmmForm.{AreSets, no_entry, most_entries}
use Rattle.sd_message.specs.EmmFields.{entries_in}
use Rattle.sd_message.proofs.emm_read.read_entries.Given as goal

-- the entries before k are read, and are sets
abbrev pub invariant-loop-k : goal.invariant-loop-k
invariant-loop-k l = record {
  value : l.entries ≡ entries_in l.k l.bytes ++ replicate (most_entries - l.k) no_entry;
  sets : AreSets l.h l.sets (entries_in l.k l.bytes);
}
