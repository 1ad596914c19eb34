use Rattle.std.proofs.Common.{◌≡◌, [], length, get_or}
use Rattle.sd_base.specs.Lines.{lines_of}
use Rattle.sd_command_base.specs.BadLines.{line_numbered}
use Rattle.sd_command_base.proofs.bad_line.line_numbered.Given as goal

-- so many lines are before it in what is left
abbrev pub invariant-loop-line : goal.invariant-loop-line
invariant-loop-line l = get_or (lines_of l.rest) l.before [] ≡ line_numbered l.fn.k l.bytes

abbrev pub decreases-loop-line : goal.decreases-loop-line
decreases-loop-line l = length l.rest
