use Rattle.std.proofs.lemmas.Result.{err_from_is_err_and}
use Rattle.sd_site_cards.specs.SiteFields.{site_fields_of}
use Rattle.sd_command_base.specs.Outside.{depot_state}
use Rattle.sd_command_base.specs.Spec.{of_result}
use Rattle.sd_command_base.proofs.Follow.{alone_judges, looks_first, looks_judged}
use Rattle.sd_command_base.specs.Files.{site_of_file}
use Rattle.sd_command_base.specs.Shown.{shown_number}
use Rattle.sd_run_books.specs.Layered.{shown_layers, told_layers}
use Rattle.sd_run_books.proofs.layered_command.layers_of.Goals as goal

pub returns-in_err-site-clause-value : goal.returns-in_err-site-clause-value
returns-in_err-site-clause-value g c =
    let p = err_from_is_err_and c.from_residual.result c.from_residual.ensures.1 in
    let width = shown_number c.args.width in
    rw (p.1, p.2) (looks_first site_fields_of shown_layers (site_of_file c.args.site.number)
    (λ fields. of_result (told_layers fields.height width)) c.args.site.text.now
    (depot_state g.D.Depot c.args.depot.now) (depot_state g.D.Depot c.read_site.new.depot) c.in_err-site.field-0.0
    c.in_err-site.ensures)

pub returns-clause-value : goal.returns-clause-value
returns-clause-value g c =
    let width = shown_number c.args.width in
    looks_judged site_fields_of shown_layers (site_of_file c.args.site.number)
    (λ fields. told_layers fields.height width) c.args.site.text.now
    (depot_state g.D.Depot c.args.depot.now) (depot_state g.D.Depot c.read_site.new.depot) c.in_ok-site.site
    c.judge_width.result c.in_ok-site.ensures
    (alone_judges shown_layers (told_layers (site_fields_of c.in_ok-site.site).height width) c.judge_width.result
    c.judge_width.ensures.value)
