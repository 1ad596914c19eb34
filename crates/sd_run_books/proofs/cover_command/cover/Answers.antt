use Rattle.std.proofs.Common.{ℕ, ap, refl, sym}
use Rattle.std.proofs.lemmas.Result.{err_from_is_err_and}
use Rattle.sd_site_cards.specs.SiteFields.{site_fields_of}
use Rattle.sd_command_base.specs.Outside.{depot_state, page_state}
use Rattle.sd_command_base.specs.Work.{Work}
use Rattle.sd_command_base.specs.Outcome.{status_of}
use Rattle.sd_command_base.proofs.Follow.{read_then, unread_then, reads_follows, prints_follows}
use Rattle.sd_command_base.specs.Both.{both_meaning}
use Rattle.sd_command_base.specs.Shown.{shown_word}
use Rattle.sd_run_books.specs.Cover.{covering, cover_meaning}
use Rattle.sd_run_books.proofs.cover_command.cover.Goals as goal

pub returns-in_err-book : goal.returns-in_err-book
unfolding cover_meaning
returns-in_err-book g c steps =
    let p = err_from_is_err_and c.from_residual.result c.from_residual.ensures.1 in
    let site = shown_word c.args.site in
    let book = shown_word c.args.book in
    let before = depot_state g.D.Depot c.args.depot.now in
    let after = depot_state g.D.Depot c.read_both.new.depot in
    rw (p.1, p.2) (reads_follows (λ (work : Work). work) (cover_meaning site book) before after
    (page_state g.P.Sink c.args.print.now) steps c.in_err-book.field-0.0
    (unread_then (λ both. record { site = site_fields_of both.0; commands = both.1.commands }) (λ (work : Work). work)
    (both_meaning site book) (λ both. covering both.site.height both.commands) before after c.in_err-book.field-0.0
    c.in_err-book.ensures.value))

pub returns : goal.returns
unfolding cover_meaning
returns g c steps =
    let site = shown_word c.args.site in
    let book = shown_word c.args.book in
    let before = depot_state g.D.Depot c.args.depot.now in
    let after = depot_state g.D.Depot c.read_both.new.depot in
    prints_follows (λ book. covering book.height book.commands) (cover_meaning site book) before after
    (page_state g.P.Sink c.args.print.now) (page_state g.P.Sink c.print_periods.new.print) steps c.in_ok-book.book
    (status_of c.print_periods.result) refl refl tt
    (read_then (λ both. record { site = site_fields_of both.0; commands = both.1.commands })
    (λ book. covering book.height book.commands) (both_meaning site book)
    (λ both. covering both.site.height both.commands) before after _ c.in_ok-book.book
    (ap (λ (d : ℕ). covering d c.in_ok-book.book.commands) (sym c.in_ok-book.ensures.height))
    c.in_ok-book.ensures.value)
    c.print_periods.ensures
