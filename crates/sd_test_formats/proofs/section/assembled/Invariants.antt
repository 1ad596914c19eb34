use Rattle.std.proofs.Common.{◌≡◌, [], length}
use Rattle.sd_test_formats.proofs.section.assembled.Given as goal

abbrev pub invariant-loop-unit_start : goal.invariant-loop-unit_start
invariant-loop-unit_start l = l.assembler.waiting ≡ []

abbrev pub decreases-loop-section : goal.decreases-loop-section
decreases-loop-section l = length l.assembler.waiting
