use Rattle.std.proofs.Common.{◌≡◌, ◌≤◌, ◌+◌, ◌*◌, ◌++◌, length, take}
use Rattle.sd_message.specs.EmmSpelled.{emm_head_bytes, entry_bytes}
use Rattle.std.specs.Prelude.{flat_map, is_some}
use Rattle.sd_message.specs.EmmForm.{AreWrapped}
use Rattle.sd_message.specs.declared.emm_format.TheConstants.{ENTRY_BYTES}
use Rattle.sd_message.specs.EmmFields.{emm_head_length}
use Rattle.sd_message.proofs.emm_write.body_of.Given as goal

-- the entries before k are put
abbrev pub invariant-loop-k : goal.invariant-loop-k
invariant-loop-k l = record {
  value : l.body ≡ emm_head_bytes l.emm ++ flat_map entry_bytes (take l.k l.emm.entries);
  wrapped : AreWrapped (take l.k l.emm.entries);
  length : length l.body ≡ emm_head_length (is_some l.emm.run) + ENTRY_BYTES * l.k;
  few : emm_head_length (is_some l.emm.run) ≤ 31;
}
