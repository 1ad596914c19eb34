use Rattle.std.proofs.Common.{refl}
use Rattle.std.proofs.lemmas.Result.{err_from_is_err_and}
use Rattle.sd_command_base.specs.Outside.{depot_state, page_state}
use Rattle.sd_command_base.specs.Spec.{value, ◌>>=◌}
use Rattle.sd_command_base.specs.Work.{Work}
use Rattle.sd_command_base.specs.Outcome.{status_of}
use Rattle.sd_command_base.proofs.Follow.{reads_follows, reads_first, reads_second, reads_two, prints_follows}
use Rattle.sd_command_base.specs.Files.{book_of_file}
use Rattle.sd_command_base.specs.Shown.{shown_word, shown_number}
use Rattle.sd_run_books.specs.Layered.{shown_layers, layers_of_file, layering, layered_meaning}
use Rattle.sd_run_books.proofs.layered_command.layered.Goals as goal

pub returns-in_err-layers : goal.returns-in_err-layers
returns-in_err-layers g c steps =
    let p = err_from_is_err_and c.from_residual.result c.from_residual.ensures.1 in
    let site = shown_word c.args.site in
    let book = shown_word c.args.book in
    let width = shown_number c.args.width in
    rw (p.1, p.2) (reads_follows (λ (work : Work). work) (layered_meaning site book width)
    (depot_state g.D.Depot c.args.depot.now) (depot_state g.D.Depot c.layers_of.new.depot)
    (page_state g.P.Sink c.args.print.now) steps c.in_err-layers.field-0.0
    (reads_first shown_layers (λ (work : Work). work) (layers_of_file site.number width)
    (λ given layers. book_of_file book.number layers.height (given book)
    >>= λ commands. value (layering layers.height layers.width commands)) site
    (depot_state g.D.Depot c.args.depot.now) (depot_state g.D.Depot c.layers_of.new.depot) c.in_err-layers.field-0.0
    c.in_err-layers.ensures.value))

pub returns-in_err-book : goal.returns-in_err-book
returns-in_err-book g c steps =
    let p = err_from_is_err_and c.from_residual-in_err-book.result c.from_residual-in_err-book.ensures.1 in
    let site = shown_word c.args.site in
    let book = shown_word c.args.book in
    let width = shown_number c.args.width in
    let d = c.in_ok-layers.layers.0 in
    let w = c.in_ok-layers.layers.1 in
    rw (p.1, p.2) (reads_follows (λ book. layering d w book.commands) (layered_meaning site book width)
    (depot_state g.D.Depot c.args.depot.now) (depot_state g.D.Depot c.read_book.new.depot)
    (page_state g.P.Sink c.args.print.now) steps c.in_err-book.field-0.0
    (reads_second shown_layers (λ book. book.commands) (λ book. layering d w book.commands)
    (layers_of_file site.number width) (λ layers got. book_of_file book.number layers.height got)
    (λ layers commands. value (layering layers.height layers.width commands)) site book
    (depot_state g.D.Depot c.args.depot.now) (depot_state g.D.Depot c.layers_of.new.depot)
    (depot_state g.D.Depot c.read_book.new.depot)
    c.in_ok-layers.layers c.in_err-book.field-0.0 c.requires c.in_ok-layers.ensures.value
    c.in_err-book.ensures.value))

pub returns : goal.returns
returns g c steps =
    let site = shown_word c.args.site in
    let book = shown_word c.args.book in
    let width = shown_number c.args.width in
    let d = c.in_ok-layers.layers.0 in
    let w = c.in_ok-layers.layers.1 in
    let printed = rw c.in_ok-book.ensures.height at c.print_periods.ensures in
    prints_follows (λ book. layering d w book.commands) (layered_meaning site book width)
    (depot_state g.D.Depot c.args.depot.now) (depot_state g.D.Depot c.read_book.new.depot)
    (page_state g.P.Sink c.args.print.now) (page_state g.P.Sink c.print_periods.new.print) steps c.in_ok-book.book
    (status_of c.print_periods.result) refl refl tt
    (reads_two shown_layers (λ book. book.commands) (λ book. layering d w book.commands)
    (layers_of_file site.number width) (λ layers got. book_of_file book.number layers.height got)
    (λ layers commands. layering layers.height layers.width commands) site book
    (depot_state g.D.Depot c.args.depot.now) (depot_state g.D.Depot c.layers_of.new.depot)
    (depot_state g.D.Depot c.read_book.new.depot)
    c.in_ok-layers.layers c.in_ok-book.book c.requires c.in_ok-layers.ensures.value c.in_ok-book.ensures.value refl)
    printed
