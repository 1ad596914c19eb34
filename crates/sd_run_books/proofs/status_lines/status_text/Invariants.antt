use Rattle.std.proofs.Common.{◌≡◌, ◌+◌, ◌≤◌, ◌++◌, min, string_bytes}
use Rattle.std.specs.Prelude.{filter, flat_map}
use Rattle.std.specs.List.{range_with_len}
use Rattle.sd_book.specs.Commands.{last_period}
use Rattle.sd_run_books.specs.Status.{entitled_line, is_change, is_entitled, fingerprint_line}
use Rattle.sd_run_books.proofs.StatusLines.{before_at}
use Rattle.sd_run_books.proofs.status_lines.status_text.Given as goal

-- the periods so far have their lines, and the next one is that of the book
pub record AreTold (l : goal.Live-loop-turn) : Type 0 where
  pub text : string_bytes l.text
      ≡ fingerprint_line l.fn.site.master
      ++ flat_map (λ q. entitled_line l.fn.leaf (is_entitled l.fn.site.height l.fn.book.commands l.fn.leaf q) q)
      (filter (is_change l.fn.site.first_period (is_entitled l.fn.site.height l.fn.book.commands l.fn.leaf))
      (range_with_len l.fn.site.first_period l.turn))
  pub before : l.before
      ≡ before_at (is_entitled l.fn.site.height l.fn.book.commands l.fn.leaf) l.fn.site.first_period l.turn
  pub height : l.periods.height ≡ l.fn.book.height
  pub commands : l.periods.commands ≡ l.fn.book.commands
  pub next : l.periods.next ≡ min l.fn.site.first_period (last_period l.fn.book.commands) + l.turn
  pub few : l.count ≤ 1024

abbrev pub invariant-loop-turn : goal.invariant-loop-turn
invariant-loop-turn l = AreTold l
