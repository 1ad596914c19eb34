use Rattle.std.proofs.Common.{string_bytes, sym, subst, List, Result, ℕ}
use Rattle.std.proofs.lemmas.Result.{err_from_is_err_and}
use Rattle.sd_site_cards.specs.SiteFields.{site_fields_of}
use Rattle.sd_spec.specs.Plan.{Plan}
use Rattle.sd_command_base.specs.declared.status.Status.{Status}
use Rattle.sd_command_base.specs.Outside.{depot_state, page_state, io_state}
use Rattle.sd_command_base.specs.Spec.{value, ◌>>=◌}
use Rattle.sd_command_base.specs.Outcome.{OutcomeWithin, status_of}
use Rattle.sd_command_base.specs.Shown.{shown_word}
use Rattle.sd_command_base.specs.Printed.{printing}
use Rattle.sd_command_base.proofs.Printed.{nothing_printed, text_printed}
use Rattle.sd_command_base.proofs.Thirds.{not_both, not_third, third_looked}
use Rattle.sd_run_broadcasts.specs.Prefixes.{prefix_of_file}
use Rattle.sd_run_broadcasts.specs.Trial.{trial_plan_by, trial_meaning, trial_text, trying, trial_clear_bytes}
use Rattle.sd_run_broadcasts.proofs.trial_command.trial.Goals as goal

pub read_plan-requires : goal.read_plan-requires
read_plan-requires g c = c.requires.0

pub text_of-requires : goal.text_of-requires
text_of-requires g c = c.in_ok-site.ensures.height

-- the site and the book were not read as they are to be
pub returns-in_err-site : goal.returns-in_err-site
unfolding trial_meaning
returns-in_err-site g c =
    let p = err_from_is_err_and c.from_residual.result c.from_residual.ensures.1 in
    let site = shown_word c.args.site in
    let book = shown_word c.args.book in
    let clear = shown_word c.args.clear in
    rw (p.1, p.2) (not_both (λ plan. record { site = site_fields_of plan.0; commands = plan.1.commands })
    (trial_plan_by site.number book.number)
    (λ plan got. prefix_of_file clear.number trial_clear_bytes got >>= λ prefix. value (trying plan prefix))
    site book clear (depot_state g.D.Depot c.args.depot.now) (depot_state g.D.Depot c.read_plan.new.depot)
    (page_state g.P.Sink c.args.print.now) c.args.steps.now c.in_err-site.field-0.0 c.in_err-site.ensures.value)

-- nor was the clear stream
pub returns-in_err-prefix : goal.returns-in_err-prefix
unfolding trial_meaning
returns-in_err-prefix g c =
    let p = err_from_is_err_and c.from_residual-in_err-prefix.result c.from_residual-in_err-prefix.ensures.1 in
    let site = shown_word c.args.site in
    let book = shown_word c.args.book in
    let clear = shown_word c.args.clear in
    rw (p.1, p.2) (not_third (λ plan. record { site = site_fields_of plan.0; commands = plan.1.commands })
    (trial_plan_by site.number book.number) (λ prefix. prefix)
    (λ plan got. prefix_of_file clear.number trial_clear_bytes got)
    (λ plan prefix. value (trying plan prefix)) site book clear (depot_state g.D.Depot c.args.depot.now)
    (depot_state g.D.Depot c.read_plan.new.depot) (depot_state g.D.Depot c.read_prefix.new.depot)
    (page_state g.P.Sink c.args.print.now)
    c.args.steps.now (c.in_ok-site.site, c.in_ok-site.book) c.in_err-prefix.field-0.0 c.requires.1 c.requires.2
    c.in_ok-site.ensures.value c.in_err-prefix.ensures)

-- there is no text
pub returns-in_err-text : goal.returns-in_err-text
unfolding trial_meaning
returns-in_err-text g c =
    let p = err_from_is_err_and c.from_residual-in_err-text.result c.from_residual-in_err-text.ensures.1 in
    let site = shown_word c.args.site in
    let book = shown_word c.args.book in
    let clear = shown_word c.args.clear in
    let r = depot_state g.D.Depot c.read_prefix.new.depot in
    let page_state = page_state g.P.Sink c.args.print.now in
    let plan : Plan = record { site = site_fields_of c.in_ok-site.site; commands = c.in_ok-site.book.commands } in
    let prefix = c.in_ok-prefix.prefix in
    let status = c.in_err-text.field-0.0 in
    rw (p.1, p.2) (third_looked (λ plan. record { site = site_fields_of plan.0; commands = plan.1.commands })
    (trial_plan_by site.number book.number) (λ prefix. prefix)
    (λ plan got. prefix_of_file clear.number trial_clear_bytes got)
    (λ plan prefix. value (trying plan prefix)) site book clear (depot_state g.D.Depot c.args.depot.now)
    (depot_state g.D.Depot c.read_plan.new.depot) r page_state c.args.steps.now
    (io_state r page_state c.text_of.new.steps)
    (c.in_ok-site.site, c.in_ok-site.book) prefix status c.requires.1 c.requires.2 c.in_ok-site.ensures.value
    c.in_ok-prefix.ensures
    (nothing_printed (λ (xs : List ℕ). xs) (trial_text plan prefix) r page_state c.args.steps.now
    c.text_of.new.steps status c.in_err-text.ensures))

-- it was printed, or printing failed
pub returns : goal.returns
unfolding trial_meaning
returns g c =
    let site = shown_word c.args.site in
    let book = shown_word c.args.book in
    let clear = shown_word c.args.clear in
    let r = depot_state g.D.Depot c.read_prefix.new.depot in
    let before = page_state g.P.Sink c.args.print.now in
    let now = page_state g.P.Sink c.print_text.new.print in
    let more = c.text_of.new.steps in
    let plan : Plan = record { site = site_fields_of c.in_ok-site.site; commands = c.in_ok-site.book.commands } in
    let prefix = c.in_ok-prefix.prefix in
    let text = string_bytes c.in_ok-text.text in
    let status = status_of c.print_text.result in
    let prints = rw c.as_bytes.ensures.value at c.print_text.ensures.value in
    third_looked (λ plan. record { site = site_fields_of plan.0; commands = plan.1.commands })
    (trial_plan_by site.number book.number) (λ prefix. prefix)
    (λ plan got. prefix_of_file clear.number trial_clear_bytes got)
    (λ plan prefix. value (trying plan prefix)) site book clear (depot_state g.D.Depot c.args.depot.now)
    (depot_state g.D.Depot c.read_plan.new.depot) r before c.args.steps.now (io_state r now more)
    (c.in_ok-site.site, c.in_ok-site.book) prefix status c.requires.1 c.requires.2 c.in_ok-site.ensures.value
    c.in_ok-prefix.ensures
    (subst (λ (m : Result (List ℕ) Status). OutcomeWithin (value (printing m)) (io_state r before c.args.steps.now)
    (io_state r now more) status) (sym c.in_ok-text.ensures)
    (text_printed text r before now c.args.steps.now more status prints))
