use Rattle.std.proofs.Common.{[], ap, refl, List, ℕ, subst, ◌∙◌}
use Rattle.std.proofs.lemmas.Result.{err_from_is_err_and}
use Rattle.sd_site_cards.specs.SiteFields.{SiteFields, site_fields_of}
use Rattle.sd_site_cards.specs.Written.{site_text}
use Rattle.sd_site_cards.specs.Chain.{twin_site}
use Rattle.sd_command_base.specs.declared.status.Status.TheVariants.{NoMemory}
use Rattle.sd_command_base.specs.Outside.{depot_state, io_state}
use Rattle.sd_command_base.specs.Outcome.{status_of}
use Rattle.sd_command_base.specs.Made.{NewOutcome}
use Rattle.sd_command_base.specs.Shown.{shown_word}
use Rattle.sd_command_base.proofs.News.{new_alone}
use Rattle.sd_run_books.specs.Twin.{twin_made}
use Rattle.sd_run_books.proofs.Chaining.{new_wanting}
use Rattle.sd_run_books.proofs.twin_command.make_twin.Goals as goal

pub returns-in_err-bytes : goal.returns-in_err-bytes
returns-in_err-bytes g c page steps =
    let p = err_from_is_err_and c.from_residual.result c.from_residual.ensures.1 in
    rw (p.1, p.2) (new_wanting (twin_made (site_fields_of c.args.site.now) c.args.line c.args.words)
    (shown_word c.args.out)
    (depot_state g.D.Depot c.args.depot.now) page steps NoMemory refl)

pub returns : goal.returns
returns g c page steps =
    let out = shown_word c.args.out in
    let a = depot_state g.D.Depot c.args.depot.now in
    let b = depot_state g.D.Depot c.make_new.new.depot in
    let status = status_of c.make_new.result in
    let made = new_alone c.deref.result.now out a b page steps c.make_new.result (c.make_new.ensures [] page steps) in
    let bytes = c.deref.ensures.value ∙ c.in_ok-bytes.ensures
    ∙ ap (λ (site : SiteFields). site_text site c.in-Some.line) c.twin.ensures in
    rw c.in-Some.is
    (subst (λ (bs : List ℕ). NewOutcome (record { bytes = bs; pieces = [] }) out (io_state a page steps)
    (io_state b page steps) status)
    {y = site_text (twin_site c.args.words (site_fields_of c.args.site.now)) c.in-Some.line} bytes made)
