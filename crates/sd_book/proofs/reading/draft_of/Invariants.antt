use Rattle.std.proofs.Common.{◌≡◌, ◌++◌, length, map, Some}
use Rattle.sd_book.specs.Text.{said_by_book}
use Rattle.sd_book.specs.Limits.{IsDraft}
use Rattle.sd_book.proofs.reading.draft_of.Given as goal

-- the lines say the commands so far, and what the rest says
abbrev pub invariant-loop-line : goal.invariant-loop-line
invariant-loop-line l = record {
  fits : IsDraft l.h l.draft.commands;
  height : l.draft.height ≡ l.h;
  said : said_by_book l.bytes ≡ map Some l.draft.commands ++ said_by_book l.rest;
}

abbrev pub decreases-loop-line : goal.decreases-loop-line
decreases-loop-line l = length l.rest
