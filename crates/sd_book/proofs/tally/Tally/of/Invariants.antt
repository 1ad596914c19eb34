use Rattle.std.proofs.Common.{◌≡◌, take}
use Rattle.sd_book.specs.Tally.{IsTally}
use Rattle.sd_book.proofs.tally.Tally.of.Given as goal

abbrev pub invariant-loop-command : goal.invariant-loop-command
invariant-loop-command l = record {
  height : l.tally.height ≡ l.fn.h;
  tally : IsTally l.fn.h (take l.command-index l.commands) l.tally.marks.items l.tally.revoked l.tally.period;
}
