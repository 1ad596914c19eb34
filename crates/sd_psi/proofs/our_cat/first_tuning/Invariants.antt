use Rattle.std.proofs.Common.{◌≡◌, length, find}
use Rattle.sd_psi.specs.Tables.{descriptors_of}
use Rattle.sd_psi.specs.OurCat.{is_for}
use Rattle.sd_psi.proofs.our_cat.first_tuning.Given as goal

abbrev pub invariant-loop-descriptor : goal.invariant-loop-descriptor
invariant-loop-descriptor l =
    find (is_for l.ca) (descriptors_of l.rest.bytes.now) ≡ find (is_for l.ca) (descriptors_of l.descriptors.bytes.now)

abbrev pub decreases-loop-descriptor : goal.decreases-loop-descriptor
decreases-loop-descriptor l = length (descriptors_of l.rest.bytes.now)
