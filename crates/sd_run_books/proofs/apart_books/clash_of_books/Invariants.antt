use Rattle.std.proofs.Common.{◌≡◌, ◌+◌, min, max, None}
use Rattle.std.specs.List.{range_with_len}
use Rattle.sd_book.specs.Commands.{last_period}
use Rattle.sd_site_cards.specs.SiteFields.{site_fields_of}
use Rattle.sd_run_books.specs.Apart.{clash_in, first_of}
use Rattle.sd_run_books.proofs.apart_books.clash_of_books.Given as goal

-- the books agree on the periods so far, and the next one is that of both
pub record Agreed (l : goal.Live-loop-before) : Type 0 where
  pub none : first_of (clash_in (record { site = site_fields_of l.fn.site; commands = l.fn.book.commands })
      (record { site = site_fields_of l.fn.other; commands = l.fn.more.commands }))
      (range_with_len (max l.fn.site.first_period l.fn.other.first_period) l.before) ≡ None
  pub height : l.left.height ≡ l.fn.site.height
  pub commands : l.left.commands ≡ l.fn.book.commands
  pub next : l.left.next
      ≡ min (max l.fn.site.first_period l.fn.other.first_period) (last_period l.fn.book.commands) + l.before
  pub height_more : l.right.height ≡ l.fn.other.height
  pub commands_more : l.right.commands ≡ l.fn.more.commands
  pub next_more : l.right.next
      ≡ min (max l.fn.site.first_period l.fn.other.first_period) (last_period l.fn.more.commands) + l.before
  pub first : l.first ≡ max l.fn.site.first_period l.fn.other.first_period

abbrev pub invariant-loop-before : goal.invariant-loop-before
invariant-loop-before l = Agreed l
