use Rattle.std.proofs.Common.{◌≡◌, ◌++◌, take}
use Rattle.sd_book.specs.Limits.{IsDraft}
use Rattle.sd_book.proofs.book.longer.Given as goal

abbrev pub invariant-loop-command : goal.invariant-loop-command
invariant-loop-command l = record {
  fits : IsDraft l.fn.h l.draft.commands;
  height : l.draft.height ≡ l.fn.h;
  value : l.draft.commands ≡ l.before ++ take l.command-index l.more;
}
