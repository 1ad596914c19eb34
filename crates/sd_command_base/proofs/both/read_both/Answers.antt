use Rattle.std.proofs.Common.{refl}
use Rattle.std.proofs.lemmas.Result.{err_from_is_err_and}
use Rattle.sd_site_cards.specs.SiteFields.{site_fields_of}
use Rattle.sd_command_base.specs.Outside.{depot_state}
use Rattle.sd_command_base.specs.Spec.{value, ◌>>=◌}
use Rattle.sd_command_base.proofs.Follow.{reads_first, reads_second, reads_two}
use Rattle.sd_command_base.specs.Files.{site_of_file, book_of_file}
use Rattle.sd_command_base.specs.Both.{both_by, both_meaning}
use Rattle.sd_command_base.specs.Shown.{shown_word}
use Rattle.sd_command_base.proofs.Thirds.{same_refusal, same_value}
use Rattle.sd_command_base.proofs.both.read_both.Goals as goal

pub returns-in_err-site-clause-value : goal.returns-in_err-site-clause-value
unfolding both_by
returns-in_err-site-clause-value g c =
    let p = err_from_is_err_and c.from_residual.result c.from_residual.ensures.1 in
    let site = shown_word c.args.site in
    let book = shown_word c.args.book in
    rw (p.1, p.2) (reads_first site_fields_of (λ both. record {
      site = site_fields_of both.0;
      commands =
          both.1.commands;
    })
    (site_of_file site.number)
    (λ given fields. book_of_file book.number fields.height (given book)
    >>= λ commands. value (record { site = fields; commands = commands })) site
    (depot_state g.D.Depot c.args.depot.now) (depot_state g.D.Depot c.read_site.new.depot) c.in_err-site.field-0.0
    c.in_err-site.ensures)

pub returns-in_err-book-clause-value : goal.returns-in_err-book-clause-value
unfolding both_by
returns-in_err-book-clause-value g c =
    let p = err_from_is_err_and c.from_residual-in_err-book.result c.from_residual-in_err-book.ensures.1 in
    let site = shown_word c.args.site in
    let book = shown_word c.args.book in
    let fields = site_fields_of c.in_ok-site.site in
    rw (p.1, p.2) (same_refusal (λ book. record { site = fields; commands = book.commands })
    (λ both. record { site = site_fields_of both.0; commands = both.1.commands }) (both_meaning site book)
    (depot_state g.D.Depot c.args.depot.now) (depot_state g.D.Depot c.read_book.new.depot) c.in_err-book.field-0.0
    (reads_second site_fields_of (λ book. book.commands) (λ book. record { site = fields; commands = book.commands })
    (site_of_file site.number) (λ fields got. book_of_file book.number fields.height got)
    (λ fields commands. value (record { site = fields; commands = commands })) site book
    (depot_state g.D.Depot c.args.depot.now) (depot_state g.D.Depot c.read_site.new.depot)
    (depot_state g.D.Depot c.read_book.new.depot) c.in_ok-site.site c.in_err-book.field-0.0 c.requires
    c.in_ok-site.ensures c.in_err-book.ensures.value))

pub returns-clause-value : goal.returns-clause-value
unfolding both_by
returns-clause-value g c =
    let site = shown_word c.args.site in
    let book = shown_word c.args.book in
    let fields = site_fields_of c.in_ok-site.site in
    same_value (λ book. record { site = fields; commands = book.commands })
    (λ both. record { site = site_fields_of both.0; commands = both.1.commands }) (both_meaning site book)
    (depot_state g.D.Depot c.args.depot.now) (depot_state g.D.Depot c.read_book.new.depot) c.in_ok-book.book
    (c.in_ok-site.site, c.in_ok-book.book) refl
    (reads_two site_fields_of (λ book. book.commands) (λ book. record { site = fields; commands = book.commands })
    (site_of_file site.number) (λ fields got. book_of_file book.number fields.height got)
    (λ fields commands. record { site = fields; commands = commands }) site book
    (depot_state g.D.Depot c.args.depot.now) (depot_state g.D.Depot c.read_site.new.depot)
    (depot_state g.D.Depot c.read_book.new.depot) c.in_ok-site.site c.in_ok-book.book c.requires c.in_ok-site.ensures
    c.in_ok-book.ensures.value refl)
