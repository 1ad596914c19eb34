use Rattle.std.proofs.Common.{◌≡◌, ◌+◌, ◌*◌, ◌≤◌, ◌^◌, min, map, string_bytes}
use Rattle.std.specs.List.{concat, range_with_len, sum_by}
use Rattle.sd_book.specs.Commands.{last_period}
use Rattle.sd_spec.specs.Plan.{Plan}
use Rattle.sd_site_cards.specs.SiteFields.{site_fields_of}
use Rattle.sd_run_books.specs.Air.{line_at, tables_in}
use Rattle.sd_run_books.proofs.plan_periods.periods_text.Given as goal

-- the plan of the site and the book
abbrev pub plan_at : goal.Live-loop-before → Plan
plan_at l = record { site = site_fields_of l.fn.site; commands = l.fn.book.commands }

-- the periods so far have their lines and are counted, and the next one is that of the book
pub record Counted (l : goal.Live-loop-before) : Type 0 where
  pub text : string_bytes l.text
      ≡ concat (map (line_at (plan_at l) l.fn.cryptos) (range_with_len l.fn.site.first_period l.before))
  pub tables : l.tables
      ≡ sum_by (tables_in (plan_at l) l.fn.cryptos) (range_with_len l.fn.site.first_period l.before)
  pub fits : l.tables ≤ l.before * 2 ^ 48
  pub height : l.periods.height ≡ l.fn.book.height
  pub commands : l.periods.commands ≡ l.fn.book.commands
  pub next : l.periods.next ≡ min l.fn.site.first_period (last_period l.fn.book.commands) + l.before
  pub tree : l.fn.book.height ≡ l.fn.site.height
  pub few : l.count ≤ 1024

abbrev pub invariant-loop-before : goal.invariant-loop-before
invariant-loop-before l = Counted l
