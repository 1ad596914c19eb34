use Rattle.std.proofs.Common.{refl, ◌∙◌}
use Rattle.std.proofs.lemmas.Result.{err_from_is_err_and}
use Rattle.sd_site_cards.specs.SiteFields.{site_fields_of}
use Rattle.sd_spec.specs.Plan.{Plan}
use Rattle.sd_command_base.specs.Outside.{depot_state, page_state}
use Rattle.sd_command_base.specs.Spec.{value, ◌>>=◌}
use Rattle.sd_command_base.specs.Work.{Work}
use Rattle.sd_command_base.specs.Outcome.{status_of}
use Rattle.sd_command_base.proofs.Follow.{reads_follows, reads_first, reads_second, reads_two, prints_follows}
use Rattle.sd_command_base.specs.Files.{book_of_file}
use Rattle.sd_command_base.specs.Shown.{shown_word, shown_number}
use Rattle.sd_run_books.specs.Air.{plan_command_meaning, planning, roomy_site_of_file}
use Rattle.sd_run_books.proofs.Printing.{no_text, one_text}
use Rattle.sd_run_books.proofs.plan_command.plan.Goals as goal

pub returns-in_err-site : goal.returns-in_err-site
returns-in_err-site g c steps =
    let p = err_from_is_err_and c.from_residual.result c.from_residual.ensures.1 in
    let site = shown_word c.args.site in
    let book = shown_word c.args.book in
    let packets = shown_number c.args.packets in
    rw (p.1, p.2) (reads_follows (λ (work : Work). work) (plan_command_meaning site book packets c.args.pids)
    (depot_state g.D.Depot c.args.depot.now) (depot_state g.D.Depot c.read_roomy_site.new.depot)
    (page_state g.P.Sink c.args.print.now) steps c.in_err-site.field-0.0
    (reads_first site_fields_of (λ (work : Work). work) (roomy_site_of_file site.number packets)
    (λ given fields. book_of_file book.number fields.height (given book)
    >>= λ commands. value (planning (record { site = fields; commands = commands }) packets.value c.args.pids)) site
    (depot_state g.D.Depot c.args.depot.now) (depot_state g.D.Depot c.read_roomy_site.new.depot) c.in_err-site.field-0.0
    c.in_err-site.ensures))

pub returns-in_err-book : goal.returns-in_err-book
returns-in_err-book g c steps =
    let p = err_from_is_err_and c.from_residual-in_err-book.result c.from_residual-in_err-book.ensures.1 in
    let site = shown_word c.args.site in
    let book = shown_word c.args.book in
    let packets = shown_number c.args.packets in
    let fields = site_fields_of c.in_ok-site.site in
    rw (p.1, p.2) (reads_follows
    (λ book. planning (record { site = fields; commands = book.commands }) packets.value c.args.pids)
    (plan_command_meaning site book packets c.args.pids)
    (depot_state g.D.Depot c.args.depot.now) (depot_state g.D.Depot c.read_book.new.depot)
    (page_state g.P.Sink c.args.print.now) steps c.in_err-book.field-0.0
    (reads_second site_fields_of (λ book. book.commands)
    (λ book. planning (record { site = fields; commands = book.commands }) packets.value c.args.pids)
    (roomy_site_of_file site.number packets) (λ fields got. book_of_file book.number fields.height got)
    (λ fields commands. value (planning (record { site = fields; commands = commands }) packets.value c.args.pids))
    site book
    (depot_state g.D.Depot c.args.depot.now) (depot_state g.D.Depot c.read_roomy_site.new.depot)
    (depot_state g.D.Depot c.read_book.new.depot)
    c.in_ok-site.site c.in_err-book.field-0.0 c.requires.words c.in_ok-site.ensures c.in_err-book.ensures.value))

pub returns-in_err-text : goal.returns-in_err-text
returns-in_err-text g c steps =
    let p = err_from_is_err_and c.from_residual-in_err-text.result c.from_residual-in_err-text.ensures.1 in
    let site = shown_word c.args.site in
    let book = shown_word c.args.book in
    let packets = shown_number c.args.packets in
    let fields = site_fields_of c.in_ok-site.site in
    let now = page_state g.P.Sink c.args.print.now in
    let plan : Plan = record { site = fields; commands = c.in_ok-book.book.commands } in
    rw (p.1, p.2) (prints_follows
    (λ book. planning (record { site = fields; commands = book.commands }) packets.value c.args.pids)
    (plan_command_meaning site book packets c.args.pids)
    (depot_state g.D.Depot c.args.depot.now) (depot_state g.D.Depot c.read_book.new.depot) now now steps
    c.in_ok-book.book c.in_err-text.field-0.0 refl refl tt
    (reads_two site_fields_of (λ book. book.commands)
    (λ book. planning (record { site = fields; commands = book.commands }) packets.value c.args.pids)
    (roomy_site_of_file site.number packets) (λ fields got. book_of_file book.number fields.height got)
    (λ fields commands. planning (record { site = fields; commands = commands }) packets.value c.args.pids)
    site book
    (depot_state g.D.Depot c.args.depot.now) (depot_state g.D.Depot c.read_roomy_site.new.depot)
    (depot_state g.D.Depot c.read_book.new.depot)
    c.in_ok-site.site c.in_ok-book.book c.requires.words c.in_ok-site.ensures c.in_ok-book.ensures.value refl)
    (no_text plan packets.value c.args.pids now c.in_err-text.field-0.0 c.in_err-text.ensures.fault))

pub returns : goal.returns
returns g c steps =
    let site = shown_word c.args.site in
    let book = shown_word c.args.book in
    let packets = shown_number c.args.packets in
    let fields = site_fields_of c.in_ok-site.site in
    let before = page_state g.P.Sink c.args.print.now in
    let now = page_state g.P.Sink c.print_text.new.print in
    let plan : Plan = record { site = fields; commands = c.in_ok-book.book.commands } in
    let prints = rw (c.as_bytes.ensures.value ∙ c.in_ok-text.ensures.value) at c.print_text.ensures.value in
    prints_follows (λ book. planning (record { site = fields; commands = book.commands }) packets.value c.args.pids)
    (plan_command_meaning site book packets c.args.pids)
    (depot_state g.D.Depot c.args.depot.now) (depot_state g.D.Depot c.read_book.new.depot) before now steps
    c.in_ok-book.book (status_of c.print_text.result) refl refl tt
    (reads_two site_fields_of (λ book. book.commands)
    (λ book. planning (record { site = fields; commands = book.commands }) packets.value c.args.pids)
    (roomy_site_of_file site.number packets) (λ fields got. book_of_file book.number fields.height got)
    (λ fields commands. planning (record { site = fields; commands = commands }) packets.value c.args.pids)
    site book
    (depot_state g.D.Depot c.args.depot.now) (depot_state g.D.Depot c.read_roomy_site.new.depot)
    (depot_state g.D.Depot c.read_book.new.depot)
    c.in_ok-site.site c.in_ok-book.book c.requires.words c.in_ok-site.ensures c.in_ok-book.ensures.value refl)
    (one_text plan packets.value c.args.pids before now (status_of c.print_text.result) prints)
