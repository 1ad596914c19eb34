use Rattle.std.proofs.Common.{◌≡◌, length}
use Rattle.sd_run_books.specs.Kept.{IsRead, leaf_named}
use Rattle.sd_run_books.proofs.register.Register.read.Given as goal

-- the lines so far are taken
abbrev pub invariant-loop-line : goal.invariant-loop-line
invariant-loop-line l = record {
  height : l.register.draft.height ≡ l.h;
  read : IsRead l.h l.bytes l.rest l.register.draft.commands (leaf_named l.register.names.leaves)
      l.register.names.marks.items;
}

abbrev pub decreases-loop-line : goal.decreases-loop-line
decreases-loop-line l = length l.rest
