use Rattle.std.proofs.Common.{◌≡◌, ◌+◌, ◌≤◌, min, string_bytes}
use Rattle.std.specs.Prelude.{flat_map}
use Rattle.std.specs.List.{range_with_len}
use Rattle.sd_book.specs.Commands.{last_period, revoked_after}
use Rattle.sd_site_cards.specs.SiteFields.{site_fields_of}
use Rattle.sd_run_books.specs.Told.{commands_told_before, told_at}
use Rattle.sd_run_books.proofs.told.told_next.Given as goal

-- the periods so far are told, and the next one is that of the book
pub record AreTold (l : goal.Live-loop-turn) : Type 0 where
  pub text : string_bytes l.text
      ≡ flat_map (told_at (site_fields_of l.fn.site) l.fn.own l.fn.book.commands)
      (range_with_len l.fn.site.first_period l.turn)
  pub before : l.before.items
      ≡ revoked_after l.fn.site.height
      (commands_told_before (site_fields_of l.fn.site) l.fn.own l.fn.book.commands (l.fn.site.first_period + l.turn))
  pub height : l.periods.height ≡ l.fn.book.height
  pub commands : l.periods.commands ≡ l.fn.book.commands
  pub next : l.periods.next ≡ min l.fn.site.first_period (last_period l.fn.book.commands) + l.turn
  pub few : l.count ≤ 1024

abbrev pub invariant-loop-turn : goal.invariant-loop-turn
invariant-loop-turn l = AreTold l
