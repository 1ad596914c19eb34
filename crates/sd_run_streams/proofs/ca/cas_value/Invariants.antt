use Rattle.std.proofs.Common.{◌≡◌, ◌++◌, length, map}
use Rattle.serde_json.specs.View.{view}
use Rattle.sd_psi.specs.Tables.{descriptors_of}
use Rattle.sd_run_streams.specs.TableLines.{cas_of}
use Rattle.sd_run_streams.proofs.ca.cas_value.Given as goal

abbrev pub invariant-loop-descriptor : goal.invariant-loop-descriptor
invariant-loop-descriptor l =
    map view l.cas.items ++ cas_of (descriptors_of l.rest.bytes.now) ≡ cas_of (descriptors_of l.descriptors.bytes.now)

abbrev pub decreases-loop-descriptor : goal.decreases-loop-descriptor
decreases-loop-descriptor l = length (descriptors_of l.rest.bytes.now)
