use Rattle.std.proofs.Common.{◌≡◌, ℕ, ◌≤◌, ◌+◌, ◌-◌, List}
use Rattle.sd_book.specs.declared.command.Command.{Command}
use Rattle.sd_book.specs.Commands.{last_period}
use Rattle.sd_command_base.specs.Outside.{page_state}
use Rattle.sd_command_base.specs.Periods.{text_at}
use Rattle.sd_command_base.proofs.PrintedPeriods.{ArePrinted}
use Rattle.sd_command_base.proofs.printing.print_periods.Given as goal

-- the text of period q of a book
abbrev pub listed_at : (g : goal.Over) → g.row.L.Denot → ℕ → List Command → ℕ → List ℕ
listed_at g listing d commands = text_at (g.L.Listing.sets listing d) (g.L.Listing.ends listing d) d commands

-- the first q periods are printed, period q is the next one of the book, and print didn't fail
pub record Printed (g : goal.Over) (l : goal.Live-loop-periods g) : Type 0 where
  pub texts : ArePrinted (listed_at g l.fn.listing l.fn.book.height l.fn.book.commands) l.q
      (page_state g.P.Sink l.fn.print) (page_state g.P.Sink l.print)
  pub height : l.periods.height ≡ l.fn.book.height
  pub commands : l.periods.commands ≡ l.fn.book.commands
  pub next : l.periods.next ≡ l.q
  pub within : l.q ≤ last_period l.fn.book.commands + 1
  pub fits : g.L.Listing.fits l.fn.listing l.fn.book.height
  pub most : last_period l.fn.book.commands ≤ 1023
  pub tree : l.h ≡ l.fn.book.height

abbrev pub invariant-loop-periods : goal.invariant-loop-periods
invariant-loop-periods g l = Printed g l

abbrev pub decreases-loop-periods : goal.decreases-loop-periods
decreases-loop-periods g l = last_period l.fn.book.commands + 1 - l.q
