use Rattle.std.proofs.Common.{◌≡◌, ◌+◌, ◌≤◌, length}
use Rattle.sd_base.specs.Lines.{lines_of}
use Rattle.sd_site_cards.proofs.newest.line_count.Given as goal

abbrev pub invariant-loop-after : goal.invariant-loop-after
invariant-loop-after l =
    (length (lines_of l.bytes) ≡ l.count + length (lines_of l.rest)) × (l.count + length l.rest ≤ length l.bytes)

abbrev pub decreases-loop-after : goal.decreases-loop-after
decreases-loop-after l = length l.rest
