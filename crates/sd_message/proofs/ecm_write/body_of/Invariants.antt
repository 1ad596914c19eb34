use Rattle.std.proofs.Common.{◌≡◌, ◌+◌, ◌*◌, ◌++◌, length, take}
use Rattle.std.specs.Prelude.{flat_map}
use Rattle.sd_message.specs.EcmVersions.{ecm_head_length}
use Rattle.sd_message.specs.EcmSpelled.{ecm_head_bytes, place_bytes}
use Rattle.sd_message.specs.declared.ecm_format.TheConstants.{PLACE_BYTES}
use Rattle.sd_message.proofs.ecm_write.body_of.Given as goal

-- the positions before k are put
abbrev pub invariant-loop-k : goal.invariant-loop-k
invariant-loop-k l = record {
  value : l.body ≡ ecm_head_bytes l.part ++ flat_map place_bytes (take l.k l.part.positions);
  length : length l.body ≡ ecm_head_length l.part.version + PLACE_BYTES * l.k;
}
