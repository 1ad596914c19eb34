use Rattle.std.proofs.Common.{refl}
use Rattle.std.proofs.lemmas.Result.{err_from_is_err_and}
use Rattle.sd_site_cards.specs.SiteFields.{site_fields_of}
use Rattle.sd_command_base.specs.Outside.{depot_state}
use Rattle.sd_command_base.specs.Spec.{value, ◌>>=◌}
use Rattle.sd_command_base.proofs.Follow.{reads_first, reads_second, reads_two}
use Rattle.sd_command_base.specs.Files.{own_book_of_file}
use Rattle.sd_run_broadcasts.specs.Head.{head_plan_by, head_plan_meaning, site_and_line_of_file}
use Rattle.sd_command_base.specs.Shown.{shown_word}
use Rattle.sd_command_base.proofs.Thirds.{same_refusal, same_value}
use Rattle.sd_run_broadcasts.proofs.Said.{said_with}
use Rattle.sd_run_broadcasts.proofs.head_plan.read_plan.Goals as goal

pub returns-in_err-site-clause-value : goal.returns-in_err-site-clause-value
unfolding head_plan_by
returns-in_err-site-clause-value g c =
    let p = err_from_is_err_and c.from_residual.result c.from_residual.ensures.1 in
    let site = shown_word c.args.site in
    let book = shown_word c.args.book in
    rw (p.1, p.2) (reads_first said_with (λ plan. record { site = site_fields_of plan.0; commands = plan.1.commands })
    (site_and_line_of_file site.number)
    (λ given said. own_book_of_file book.number said.0.height said.1 (given book)
    >>= λ commands. value (record { site = said.0; commands = commands })) site
    (depot_state g.D.Depot c.args.depot.now) (depot_state g.D.Depot c.read_with_line.new.depot) c.in_err-site.field-0.0
    c.in_err-site.ensures.value)

pub returns-in_err-book-clause-value : goal.returns-in_err-book-clause-value
unfolding head_plan_by
returns-in_err-book-clause-value g c =
    let p = err_from_is_err_and c.from_residual-in_err-book.result c.from_residual-in_err-book.ensures.1 in
    let site = shown_word c.args.site in
    let book = shown_word c.args.book in
    let fields = site_fields_of c.in_ok-site.site in
    rw (p.1, p.2) (same_refusal (λ book. record { site = fields; commands = book.commands })
    (λ plan. record { site = site_fields_of plan.0; commands = plan.1.commands }) (head_plan_meaning site book)
    (depot_state g.D.Depot c.args.depot.now) (depot_state g.D.Depot c.read_own.new.depot) c.in_err-book.field-0.0
    (reads_second said_with (λ book. book.commands) (λ book. record { site = fields; commands = book.commands })
    (site_and_line_of_file site.number) (λ said got. own_book_of_file book.number said.0.height said.1 got)
    (λ said commands. value (record { site = said.0; commands = commands })) site book
    (depot_state g.D.Depot c.args.depot.now) (depot_state g.D.Depot c.read_with_line.new.depot)
    (depot_state g.D.Depot c.read_own.new.depot) (c.in_ok-site.site, c.in_ok-site.line, c.in_ok-site.has_word)
    c.in_err-book.field-0.0
    c.requires
    c.in_ok-site.ensures.value c.in_err-book.ensures.value))

pub returns-clause-value : goal.returns-clause-value
unfolding head_plan_by
returns-clause-value g c =
    let site = shown_word c.args.site in
    let book = shown_word c.args.book in
    let fields = site_fields_of c.in_ok-site.site in
    same_value (λ book. record { site = fields; commands = book.commands })
    (λ plan. record { site = site_fields_of plan.0; commands = plan.1.commands }) (head_plan_meaning site book)
    (depot_state g.D.Depot c.args.depot.now) (depot_state g.D.Depot c.read_own.new.depot) c.in_ok-book.book
    (c.in_ok-site.site, c.in_ok-book.book, c.in_ok-site.has_word) refl
    (reads_two said_with (λ book. book.commands) (λ book. record { site = fields; commands = book.commands })
    (site_and_line_of_file site.number) (λ said got. own_book_of_file book.number said.0.height said.1 got)
    (λ said commands. record { site = said.0; commands = commands }) site book
    (depot_state g.D.Depot c.args.depot.now) (depot_state g.D.Depot c.read_with_line.new.depot)
    (depot_state g.D.Depot c.read_own.new.depot) (c.in_ok-site.site, c.in_ok-site.line, c.in_ok-site.has_word)
    c.in_ok-book.book c.requires
    c.in_ok-site.ensures.value c.in_ok-book.ensures.value refl)
