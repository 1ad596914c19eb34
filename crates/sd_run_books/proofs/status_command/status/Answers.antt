use Rattle.std.proofs.Common.{◌≡◌, ap, refl, string_bytes, ◌∙◌}
use Rattle.std.proofs.lemmas.Result.{err_from_is_err_and}
use Rattle.sd_site_cards.specs.SiteFields.{site_fields_of}
use Rattle.sd_command_base.specs.Outside.{depot_state, page_state}
use Rattle.sd_command_base.specs.Spec.{value, ◌>>=◌}
use Rattle.sd_command_base.specs.Work.{Work, work_of_text}
use Rattle.sd_command_base.specs.Outcome.{status_of}
use Rattle.sd_command_base.proofs.Texts.{text_prints}
use Rattle.sd_command_base.proofs.Follow.{reads_follows, reads_first, reads_second, reads_two, prints_follows}
use Rattle.sd_command_base.specs.Files.{book_of_file}
use Rattle.sd_command_base.specs.Shown.{shown_word, shown_number}
use Rattle.sd_run_books.specs.Status.{status_meaning, status_text, tree_of_file}
use Rattle.sd_run_books.proofs.Printing.{nothing_printed}
use Rattle.sd_run_books.proofs.status_command.status.Goals as goal

pub returns-in_err-site : goal.returns-in_err-site
returns-in_err-site g c steps =
    let p = err_from_is_err_and c.from_residual.result c.from_residual.ensures.1 in
    let site = shown_word c.args.site in
    let book = shown_word c.args.book in
    let leaf = shown_number c.args.leaf in
    rw (p.1, p.2) (reads_follows (λ (work : Work). work) (status_meaning site book leaf)
    (depot_state g.D.Depot c.args.depot.now) (depot_state g.D.Depot c.read_tree.new.depot)
    (page_state g.P.Sink c.args.print.now) steps c.in_err-site.field-0.0
    (reads_first (λ found. site_fields_of found.0) (λ (work : Work). work) (tree_of_file site.number leaf)
    (λ given fields. book_of_file book.number fields.height (given book)
    >>= λ commands. value (work_of_text (status_text fields commands leaf.value))) site
    (depot_state g.D.Depot c.args.depot.now) (depot_state g.D.Depot c.read_tree.new.depot) c.in_err-site.field-0.0
    c.in_err-site.ensures.value))

pub returns-in_err-book : goal.returns-in_err-book
returns-in_err-book g c steps =
    let p = err_from_is_err_and c.from_residual-in_err-book.result c.from_residual-in_err-book.ensures.1 in
    let site = shown_word c.args.site in
    let book = shown_word c.args.book in
    let leaf = shown_number c.args.leaf in
    let fields = site_fields_of c.in_ok-site.site in
    rw (p.1, p.2) (reads_follows (λ book. work_of_text (status_text fields book.commands leaf.value))
    (status_meaning site book leaf)
    (depot_state g.D.Depot c.args.depot.now) (depot_state g.D.Depot c.read_book.new.depot)
    (page_state g.P.Sink c.args.print.now) steps c.in_err-book.field-0.0
    (reads_second (λ found. site_fields_of found.0) (λ book. book.commands)
    (λ book. work_of_text (status_text fields book.commands leaf.value))
    (tree_of_file site.number leaf) (λ fields got. book_of_file book.number fields.height got)
    (λ fields commands. value (work_of_text (status_text fields commands leaf.value))) site book
    (depot_state g.D.Depot c.args.depot.now) (depot_state g.D.Depot c.read_tree.new.depot)
    (depot_state g.D.Depot c.read_book.new.depot)
    (c.in_ok-site.site, c.in_ok-site.leaf) c.in_err-book.field-0.0 c.requires c.in_ok-site.ensures.value
    c.in_err-book.ensures.value))

pub returns-in_err-text : goal.returns-in_err-text
returns-in_err-text g c steps =
    let p = err_from_is_err_and c.from_residual-in_err-text.result c.from_residual-in_err-text.ensures.1 in
    let site = shown_word c.args.site in
    let book = shown_word c.args.book in
    let leaf = shown_number c.args.leaf in
    let fields = site_fields_of c.in_ok-site.site in
    let now = page_state g.P.Sink c.args.print.now in
    rw (p.1) (prints_follows (λ book. work_of_text (status_text fields book.commands leaf.value))
    (status_meaning site book leaf)
    (depot_state g.D.Depot c.args.depot.now) (depot_state g.D.Depot c.read_book.new.depot) now now steps
    c.in_ok-book.book p.0 refl refl tt
    (reads_two (λ found. site_fields_of found.0) (λ book. book.commands)
    (λ book. work_of_text (status_text fields book.commands leaf.value))
    (tree_of_file site.number leaf) (λ fields got. book_of_file book.number fields.height got)
    (λ fields commands. work_of_text (status_text fields commands leaf.value)) site book
    (depot_state g.D.Depot c.args.depot.now) (depot_state g.D.Depot c.read_tree.new.depot)
    (depot_state g.D.Depot c.read_book.new.depot)
    (c.in_ok-site.site, c.in_ok-site.leaf) c.in_ok-book.book c.requires c.in_ok-site.ensures.value
    c.in_ok-book.ensures.value refl)
    (nothing_printed (status_text fields c.in_ok-book.book.commands leaf.value) now p.0 p.2))

pub returns : goal.returns
returns g c steps =
    let site = shown_word c.args.site in
    let book = shown_word c.args.book in
    let leaf = shown_number c.args.leaf in
    let fields = site_fields_of c.in_ok-site.site in
    let before = page_state g.P.Sink c.args.print.now in
    let now = page_state g.P.Sink c.print_text.new.print in
    let text : string_bytes c.in_ok-text.text ≡ status_text fields c.in_ok-book.book.commands leaf.value =
    c.in_ok-text.ensures
    ∙ ap (status_text fields c.in_ok-book.book.commands) c.in_ok-site.ensures.leaf in
    let printed = rw (c.as_bytes.ensures.value ∙ text) at c.print_text.ensures.value in
    prints_follows (λ book. work_of_text (status_text fields book.commands leaf.value)) (status_meaning site book leaf)
    (depot_state g.D.Depot c.args.depot.now) (depot_state g.D.Depot c.read_book.new.depot) before now steps
    c.in_ok-book.book (status_of c.print_text.result) refl refl tt
    (reads_two (λ found. site_fields_of found.0) (λ book. book.commands)
    (λ book. work_of_text (status_text fields book.commands leaf.value))
    (tree_of_file site.number leaf) (λ fields got. book_of_file book.number fields.height got)
    (λ fields commands. work_of_text (status_text fields commands leaf.value)) site book
    (depot_state g.D.Depot c.args.depot.now) (depot_state g.D.Depot c.read_tree.new.depot)
    (depot_state g.D.Depot c.read_book.new.depot)
    (c.in_ok-site.site, c.in_ok-site.leaf) c.in_ok-book.book c.requires c.in_ok-site.ensures.value
    c.in_ok-book.ensures.value refl)
    (text_prints (status_text fields c.in_ok-book.book.commands leaf.value) before now
    (status_of c.print_text.result) printed)
