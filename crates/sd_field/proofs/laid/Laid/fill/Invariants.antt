use Rattle.std.proofs.Common.{◌≡◌, ◌++◌, ◌-◌, ◌≤◌, replicate}
use Rattle.sd_book.specs.declared.command.Command.TheVariants.{Period}
use Rattle.sd_field.proofs.laid.Laid.fill.Given as goal

-- the Periods so far, which are no more than are to come
abbrev pub invariant-loop-self : goal.invariant-loop-self
invariant-loop-self l = record {
  height : l.self.draft.height ≡ l.fn.self.draft.height;
  sends : l.self.sends ≡ l.fn.self.sends;
  least : l.fn.self.last ≤ l.self.last;
  most : l.self.last - l.fn.self.last ≤ l.period - l.fn.self.last;
  commands : l.self.draft.commands ≡ l.fn.self.draft.commands ++ replicate (l.self.last - l.fn.self.last) Period;
}

abbrev pub decreases-loop-self : goal.decreases-loop-self
decreases-loop-self l = l.period - l.self.last
