use Rattle.std.proofs.Common.{◌≡◌, ◌-◌, ◌++◌}
use Rattle.std.specs.Prelude.{replicate}
use Rattle.sd_message.specs.EcmForm.{ArePositioned, no_place}
use Rattle.sd_message.specs.EcmFields.{ecm_positions_in}
use Rattle.sd_message.specs.EcmVersions.{most_positions}
use Rattle.sd_message.proofs.ecm_read.read_places.Given as goal

-- the positions before k are read, and are those of PIDs that have positions
abbrev pub invariant-loop-k : goal.invariant-loop-k
invariant-loop-k l = record {
  value : l.places ≡ ecm_positions_in l.k l.bytes ++ replicate (most_positions - l.k) no_place;
  places : ArePositioned (ecm_positions_in l.k l.bytes);
}
