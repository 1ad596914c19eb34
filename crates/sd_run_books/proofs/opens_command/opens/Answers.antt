use Rattle.std.proofs.Common.{ℕ, refl, subst}
use Rattle.std.proofs.lemmas.Result.{err_from_is_err_and}
use Rattle.sd_site_cards.specs.SiteFields.{site_fields_of}
use Rattle.sd_command_base.specs.Outside.{depot_state, page_state, io_state}
use Rattle.sd_command_base.specs.Spec.{value, ◌>>=◌}
use Rattle.sd_command_base.specs.Outcome.{status_of}
use Rattle.sd_command_base.specs.Prints.{PrintsWork}
use Rattle.sd_command_base.proofs.Follow.{rests, printed_obeys}
use Rattle.sd_command_base.specs.Both.{SiteBook, both_by}
use Rattle.sd_command_base.specs.Leaves.{leaves_of_file}
use Rattle.sd_command_base.specs.Shown.{shown_word}
use Rattle.sd_command_base.proofs.Thirds.{not_both, not_third, third_looked}
use Rattle.sd_run_books.specs.Opens.{opening, opens_meaning}
use Rattle.sd_run_books.proofs.opens_command.opens.Goals as goal

-- the site or the book was refused, or not read
pub returns-in_err-site : goal.returns-in_err-site
unfolding opens_meaning
returns-in_err-site g c steps =
    let p = err_from_is_err_and c.from_residual.result c.from_residual.ensures.1 in
    let site = shown_word c.args.site in
    let book = shown_word c.args.book in
    let leaves = shown_word c.args.leaves in
    rw (p.1, p.2) (not_both (λ both. record { site = site_fields_of both.0; commands = both.1.commands })
    (both_by site.number book.number)
    (λ both got. leaves_of_file leaves.number both.site.height got
    >>= λ found. value (opening both.site.height found both.commands))
    site book leaves (depot_state g.D.Depot c.args.depot.now) (depot_state g.D.Depot c.read_both.new.depot)
    (page_state g.P.Sink c.args.print.now) steps c.in_err-site.field-0.0 c.in_err-site.ensures.value)

-- the leaves were refused, or not read
pub returns-in_err-leaves : goal.returns-in_err-leaves
unfolding opens_meaning
returns-in_err-leaves g c steps =
    let p = err_from_is_err_and c.from_residual-in_err-leaves.result c.from_residual-in_err-leaves.ensures.1 in
    let site = shown_word c.args.site in
    let book = shown_word c.args.book in
    let leaves = shown_word c.args.leaves in
    rw (p.1, p.2) (not_third (λ both. record { site = site_fields_of both.0; commands = both.1.commands })
    (both_by site.number book.number) (λ leaves. leaves.items)
    (λ both got. leaves_of_file leaves.number both.site.height got)
    (λ both found. value (opening both.site.height found both.commands))
    site book leaves (depot_state g.D.Depot c.args.depot.now) (depot_state g.D.Depot c.read_both.new.depot)
    (depot_state g.D.Depot c.read_leaves.new.depot) (page_state g.P.Sink c.args.print.now) steps
    (c.in_ok-site.site, c.in_ok-site.book) c.in_err-leaves.field-0.0 c.requires.1 c.requires.2
    c.in_ok-site.ensures.value c.in_err-leaves.ensures.value)

pub returns : goal.returns
unfolding opens_meaning
returns g c steps =
    let site = shown_word c.args.site in
    let book = shown_word c.args.book in
    let leaves = shown_word c.args.leaves in
    let r = depot_state g.D.Depot c.read_leaves.new.depot in
    let now = page_state g.P.Sink c.print_periods.new.print in
    let before = page_state g.P.Sink c.args.print.now in
    let status = status_of c.print_periods.result in
    let both : SiteBook = record { site = site_fields_of c.in_ok-site.site; commands = c.in_ok-site.book.commands } in
    let found = c.in_ok-leaves.leaves.items in
    let prints : PrintsWork (opening both.site.height found both.commands) before now status =
    subst (λ (d : ℕ). PrintsWork (opening d found both.commands) before now status) c.in_ok-site.ensures.height
    c.print_periods.ensures in
    third_looked (λ both. record { site = site_fields_of both.0; commands = both.1.commands })
    (both_by site.number book.number) (λ leaves. leaves.items)
    (λ both got. leaves_of_file leaves.number both.site.height got)
    (λ both found. value (opening both.site.height found both.commands))
    site book leaves (depot_state g.D.Depot c.args.depot.now) (depot_state g.D.Depot c.read_both.new.depot) r
    before steps (io_state r now steps) (c.in_ok-site.site, c.in_ok-site.book) c.in_ok-leaves.leaves status
    c.requires.1 c.requires.2 c.in_ok-site.ensures.value c.in_ok-leaves.ensures.value
    (printed_obeys (value (opening both.site.height found both.commands)) (opening both.site.height found both.commands)
    r r before now steps status refl refl refl tt
    (rests (leaves_of_file leaves.number both.site.height c.in_ok-leaves.ensures.value.got).calls
    (depot_state g.D.Depot c.read_both.new.depot) r c.in_ok-leaves.ensures.value.gives.1) prints)
