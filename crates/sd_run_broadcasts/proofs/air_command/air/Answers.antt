use Rattle.std.proofs.Common.{refl}
use Rattle.std.proofs.lemmas.Result.{err_from_is_err_and}
use Rattle.sd_site_cards.specs.SiteFields.{site_fields_of}
use Rattle.sd_spec.specs.Plan.{Plan}
use Rattle.sd_command_base.specs.declared.status.Status.TheVariants.{NoMemory}
use Rattle.sd_command_base.specs.Outside.{depot_state, io_state, page_state, io_state_at}
use Rattle.sd_command_base.specs.Outcome.{status_of}
use Rattle.sd_command_base.specs.Shown.{shown_word}
use Rattle.sd_command_base.proofs.Givens.{any_given}
use Rattle.sd_command_base.proofs.Thirds.{wanting_obeys}
use Rattle.sd_run_broadcasts.specs.Air.{air_meaning, aired_meaning}
use Rattle.sd_run_broadcasts.proofs.AirFollows.{no_plan, plan_aired}
use Rattle.sd_run_broadcasts.proofs.Saying.{air_said, air_silent}
use Rattle.sd_run_broadcasts.proofs.air_command.air.Goals as goal

-- memory was out for the name of the mark
pub returns-in_err-mark-clause-value : goal.returns-in_err-mark-clause-value
returns-in_err-mark-clause-value g c =
    let p = err_from_is_err_and c.from_residual.result c.from_residual.ensures.1 in
    let at = depot_state g.D.Depot c.args.depot.now in
    let any = any_given at.files in
    rw (p.1, p.2) (record {
      given = any.given;
      is_given = any.is_given;
      obeyed = wanting_obeys (air_meaning (shown_word c.args.site) (shown_word c.args.book) (shown_word c.args.clear)
          (shown_word c.args.out) any.given) at (page_state g.P.Sink c.args.print.now) c.args.steps.now NoMemory refl;
    })

-- the site or the book was not read as it is to be
pub returns-in_err-fields-clause-value : goal.returns-in_err-fields-clause-value
returns-in_err-fields-clause-value g c =
    let p = err_from_is_err_and c.from_residual-in_err-fields.result c.from_residual-in_err-fields.ensures.1 in
    rw (p.1, p.2) (no_plan (λ plan. record { site = site_fields_of plan.0; commands = plan.1.commands })
    (shown_word c.args.site) (shown_word c.args.book) (shown_word c.args.clear) (shown_word c.args.out)
    (depot_state g.D.Depot c.args.depot.now) (depot_state g.D.Depot c.read_air_plan.new.depot)
    (page_state g.P.Sink c.args.print.now) c.args.steps.now c.in_err-fields.field-0.0 c.in_err-fields.ensures.value)

-- memory was out for the head end
pub returns-in_err-live-clause-value : goal.returns-in_err-live-clause-value
returns-in_err-live-clause-value g c =
    let p = err_from_is_err_and c.from_residual-in_err-live.result c.from_residual-in_err-live.ensures.1 in
    let site = shown_word c.args.site in
    let clear = shown_word c.args.clear in
    let out = shown_word c.args.out in
    let q = depot_state g.D.Depot c.read_air_plan.new.depot in
    let page = page_state g.P.Sink c.args.print.now in
    let any = any_given q.files in
    let plan : Plan = record {
      site = site_fields_of c.in_ok-fields.fields;
      commands =
          c.in_ok-fields.commands.commands;
    } in
    rw (p.1, p.2) (plan_aired (λ plan. record { site = site_fields_of plan.0; commands = plan.1.commands }) site
    (shown_word c.args.book) clear out (depot_state g.D.Depot c.args.depot.now) q page c.args.steps.now
    (io_state q page c.args.steps.now) (c.in_ok-fields.fields, c.in_ok-fields.commands) NoMemory c.requires.0
    c.requires.1 c.requires.2 c.in_ok-fields.ensures.value
    (record {
      given = any.given;
      is_given = any.is_given;
      obeyed = wanting_obeys (aired_meaning plan site clear out any.given) q page c.args.steps.now NoMemory refl;
    }))

pub returns-clause-value : goal.returns-clause-value
returns-clause-value g c =
    plan_aired (λ plan. record { site = site_fields_of plan.0; commands = plan.1.commands }) (shown_word c.args.site)
    (shown_word c.args.book) (shown_word c.args.clear) (shown_word c.args.out)
    (depot_state g.D.Depot c.args.depot.now) (depot_state g.D.Depot c.read_air_plan.new.depot)
    (page_state g.P.Sink c.args.print.now) c.args.steps.now
    (io_state_at g.D.Depot g.P.Sink c.air_stream.new.depot c.air_stream.new.print
    c.air_stream.new.steps) (c.in_ok-fields.fields, c.in_ok-fields.commands) (status_of c.air_stream.result)
    c.requires.0 c.requires.1 c.requires.2 c.in_ok-fields.ensures.value
    (c.air_stream.ensures.value
    (record { site = site_fields_of c.in_ok-fields.fields; commands = c.in_ok-fields.commands.commands })
    c.in_ok-live.ensures.value)

pub returns-in_err-mark-clause-notes : goal.returns-in_err-mark-clause-notes
returns-in_err-mark-clause-notes g c = air_silent (shown_word c.args.site) (shown_word c.args.book) _ _

pub returns-in_err-fields-clause-notes : goal.returns-in_err-fields-clause-notes
returns-in_err-fields-clause-notes g c = air_silent (shown_word c.args.site) (shown_word c.args.book) _ _

pub returns-in_err-live-clause-notes : goal.returns-in_err-live-clause-notes
returns-in_err-live-clause-notes g c = air_silent (shown_word c.args.site) (shown_word c.args.book) _ _

pub returns-clause-notes : goal.returns-clause-notes
returns-clause-notes g c =
    air_said (λ plan. record { site = site_fields_of plan.0; commands = plan.1.commands }) (shown_word c.args.site)
    (shown_word c.args.book) (depot_state g.D.Depot c.args.depot.now) (depot_state g.D.Depot c.read_air_plan.new.depot)
    (c.in_ok-fields.fields, c.in_ok-fields.commands) _ _ c.in_ok-fields.ensures.value
    (c.air_stream.ensures.notes
    (record { site = site_fields_of c.in_ok-fields.fields; commands = c.in_ok-fields.commands.commands })
    c.in_ok-live.ensures.value)
