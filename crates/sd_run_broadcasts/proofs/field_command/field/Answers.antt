use Rattle.std.proofs.Common.{string_bytes, sym, subst, List, Result, ℕ}
use Rattle.std.proofs.lemmas.Result.{err_from_is_err_and}
use Rattle.sd_site_cards.specs.SiteFields.{site_fields_of}
use Rattle.sd_command_base.specs.declared.status.Status.{Status}
use Rattle.sd_command_base.specs.Outside.{depot_state, page_state, io_state}
use Rattle.sd_command_base.specs.Spec.{value, ◌>>=◌}
use Rattle.sd_command_base.specs.Outcome.{OutcomeWithin, status_of}
use Rattle.sd_command_base.specs.Printed.{printing}
use Rattle.sd_command_base.specs.Shown.{shown_word}
use Rattle.sd_command_base.proofs.Printed.{nothing_printed, text_printed}
use Rattle.sd_command_base.proofs.Thirds.{not_both, not_third, third_looked}
use Rattle.sd_run_broadcasts.specs.Field.{field_meaning, field_text, inputs_by, script_of_file}
use Rattle.sd_run_broadcasts.proofs.field_command.field.Goals as goal

-- the site and the clear stream were not read as they are to be
pub returns-in_err-site : goal.returns-in_err-site
unfolding field_meaning
returns-in_err-site g c =
    let p = err_from_is_err_and c.from_residual.result c.from_residual.ensures.1 in
    let site = shown_word c.args.site in
    let clear = shown_word c.args.clear in
    let script = shown_word c.args.script in
    rw (p.1, p.2) (not_both (λ inputs. record { site = site_fields_of inputs.0; clear = inputs.1.items })
    (inputs_by site.number clear.number)
    (λ inputs got. script_of_file script.number inputs.site.height got
    >>= λ events. value (printing (field_text inputs.site inputs.clear events)))
    site clear script (depot_state g.D.Depot c.args.depot.now) (depot_state g.D.Depot c.read_inputs.new.depot)
    (page_state g.P.Sink c.args.print.now) c.args.steps.now c.in_err-site.field-0.0 c.in_err-site.ensures.value)

-- nor was the script
pub returns-in_err-events : goal.returns-in_err-events
unfolding field_meaning
returns-in_err-events g c =
    let p = err_from_is_err_and c.from_residual-in_err-events.result c.from_residual-in_err-events.ensures.1 in
    let site = shown_word c.args.site in
    let clear = shown_word c.args.clear in
    let script = shown_word c.args.script in
    rw (p.1, p.2) (not_third (λ inputs. record { site = site_fields_of inputs.0; clear = inputs.1.items })
    (inputs_by site.number clear.number) (λ events. events.items)
    (λ inputs got. script_of_file script.number inputs.site.height got)
    (λ inputs events. value (printing (field_text inputs.site inputs.clear events))) site clear script
    (depot_state g.D.Depot c.args.depot.now) (depot_state g.D.Depot c.read_inputs.new.depot)
    (depot_state g.D.Depot c.read_events.new.depot) (page_state g.P.Sink c.args.print.now) c.args.steps.now
    (c.in_ok-site.site, c.in_ok-site.clear) c.in_err-events.field-0.0 c.requires.1 c.requires.2
    c.in_ok-site.ensures.value c.in_err-events.ensures.value)

-- there is no text
pub returns-in_err-text : goal.returns-in_err-text
unfolding field_meaning
returns-in_err-text g c =
    let p = err_from_is_err_and c.from_residual-in_err-text.result c.from_residual-in_err-text.ensures.1 in
    let site = shown_word c.args.site in
    let clear = shown_word c.args.clear in
    let script = shown_word c.args.script in
    let r = depot_state g.D.Depot c.read_events.new.depot in
    let page_state = page_state g.P.Sink c.args.print.now in
    let text = field_text (site_fields_of c.in_ok-site.site) c.in_ok-site.clear.items c.in_ok-events.events.items in
    let status = c.in_err-text.field-0.0 in
    rw (p.1, p.2) (third_looked (λ inputs. record { site = site_fields_of inputs.0; clear = inputs.1.items })
    (inputs_by site.number clear.number) (λ events. events.items)
    (λ inputs got. script_of_file script.number inputs.site.height got)
    (λ inputs events. value (printing (field_text inputs.site inputs.clear events))) site clear script
    (depot_state g.D.Depot c.args.depot.now) (depot_state g.D.Depot c.read_inputs.new.depot) r page_state
    c.args.steps.now
    (io_state r page_state c.text_of.new.steps) (c.in_ok-site.site, c.in_ok-site.clear) c.in_ok-events.events status
    c.requires.1 c.requires.2 c.in_ok-site.ensures.value c.in_ok-events.ensures.value
    (nothing_printed (λ (xs : List ℕ). xs) text r page_state c.args.steps.now c.text_of.new.steps status
    c.in_err-text.ensures))

-- it was printed, or printing failed
pub returns : goal.returns
unfolding field_meaning
returns g c =
    let site = shown_word c.args.site in
    let clear = shown_word c.args.clear in
    let script = shown_word c.args.script in
    let r = depot_state g.D.Depot c.read_events.new.depot in
    let before = page_state g.P.Sink c.args.print.now in
    let now = page_state g.P.Sink c.print_text.new.print in
    let more = c.text_of.new.steps in
    let text = string_bytes c.in_ok-text.text in
    let status = status_of c.print_text.result in
    let prints = rw c.as_bytes.ensures.value at c.print_text.ensures.value in
    third_looked (λ inputs. record { site = site_fields_of inputs.0; clear = inputs.1.items })
    (inputs_by site.number clear.number) (λ events. events.items)
    (λ inputs got. script_of_file script.number inputs.site.height got)
    (λ inputs events. value (printing (field_text inputs.site inputs.clear events))) site clear script
    (depot_state g.D.Depot c.args.depot.now) (depot_state g.D.Depot c.read_inputs.new.depot) r before c.args.steps.now
    (io_state r now more) (c.in_ok-site.site, c.in_ok-site.clear) c.in_ok-events.events status c.requires.1 c.requires.2
    c.in_ok-site.ensures.value c.in_ok-events.ensures.value
    (subst (λ (m : Result (List ℕ) Status). OutcomeWithin (value (printing m)) (io_state r before c.args.steps.now)
    (io_state r now more) status) (sym c.in_ok-text.ensures)
    (text_printed text r before now c.args.steps.now more status prints))
