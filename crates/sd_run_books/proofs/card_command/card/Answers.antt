use Rattle.std.proofs.Common.{sym, subst, List, ℕ, Result}
use Rattle.std.proofs.lemmas.Result.{err_from_is_err_and}
use Rattle.sd_site_cards.specs.SiteFields.{site_fields_of}
use Rattle.sd_command_base.specs.declared.status.Status.{Status}
use Rattle.sd_command_base.specs.Outside.{depot_state, io_state}
use Rattle.sd_command_base.specs.Work.{Uncounted}
use Rattle.sd_command_base.specs.Spec.{of_result, value, ◌>>=◌}
use Rattle.sd_command_base.specs.Outcome.{OutcomeWithin, status_of}
use Rattle.sd_command_base.proofs.Follow.{looks_follows, looked_follows}
use Rattle.sd_command_base.specs.Files.{site_of_file}
use Rattle.sd_run_books.specs.Card.{made_card}
use Rattle.sd_command_base.specs.Made.{making}
use Rattle.sd_command_base.specs.Shown.{shown_word, shown_number}
use Rattle.sd_command_base.proofs.Making.{any_steps}
use Rattle.sd_run_books.proofs.Carding.{card_obeys}
use Rattle.sd_run_books.proofs.card_command.card.Goals as goal

pub returns-in_err-site : goal.returns-in_err-site
returns-in_err-site g c page =
    let p = err_from_is_err_and c.from_residual.result c.from_residual.ensures.1 in
    let site = shown_word c.args.site in
    let leaf = shown_number c.args.leaf in
    let out = shown_word c.args.out in
    rw (p.1, p.2) (looks_follows site_fields_of (site_of_file site.number)
    (λ fields. of_result (made_card fields leaf) >>= λ bytes. value (making Uncounted out bytes)) site
    (depot_state g.D.Depot c.args.depot.now) (depot_state g.D.Depot c.read_site.new.depot) page c.args.steps.now
    c.in_err-site.field-0.0 c.in_err-site.ensures)

pub returns-in_err-bytes : goal.returns-in_err-bytes
returns-in_err-bytes g c page =
    let p = err_from_is_err_and c.from_residual-in_err-bytes.result c.from_residual-in_err-bytes.ensures.1 in
    let site = shown_word c.args.site in
    let leaf = shown_number c.args.leaf in
    let out = shown_word c.args.out in
    let a = depot_state g.D.Depot c.args.depot.now in
    let q = depot_state g.D.Depot c.read_site.new.depot in
    let looked = c.in_ok-site.ensures in
    let status = c.in_err-bytes.field-0.0 in
    rw (p.1, p.2) (looked_follows site_fields_of (site_of_file site.number)
    (λ fields. of_result (made_card fields leaf) >>= λ bytes. value (making Uncounted out bytes)) site
    a q page c.args.steps.now (io_state q page c.card_of.new.steps) c.in_ok-site.site status looked
    (card_obeys (made_card (site_fields_of c.in_ok-site.site) leaf) out a q (site_of_file site.number looked.got).calls
    page
    c.args.steps.now c.card_of.new.steps status looked.gives.1 c.in_err-bytes.ensures.value
    c.in_err-bytes.ensures.steps))

pub returns : goal.returns
returns g c page =
    let site = shown_word c.args.site in
    let leaf = shown_number c.args.leaf in
    let out = shown_word c.args.out in
    let a = depot_state g.D.Depot c.args.depot.now in
    let q = depot_state g.D.Depot c.read_site.new.depot in
    let b = io_state (depot_state g.D.Depot c.make_file.new.depot) page c.card_of.new.steps in
    let bytes = c.in_ok-bytes.bytes.items in
    let status = status_of c.make_file.result in
    let made = rw c.deref.ensures.value at c.make_file.ensures page c.card_of.new.steps Uncounted in
    looked_follows site_fields_of (site_of_file site.number)
    (λ fields. of_result (made_card fields leaf) >>= λ bytes. value (making Uncounted out bytes)) site
    a q page c.args.steps.now b c.in_ok-site.site status c.in_ok-site.ensures
    (subst (λ (r : Result (List ℕ) Status). OutcomeWithin (of_result r >>= λ bytes. value (making Uncounted out bytes))
    (io_state q page c.args.steps.now) b status)
    (sym c.in_ok-bytes.ensures.value)
    (any_steps out bytes q page c.card_of.new.steps c.args.steps.now b status made))
