use Rattle.std.proofs.lemmas.Result.{err_from_is_err_and}
use Rattle.sd_site_cards.specs.SiteFields.{site_fields_of}
use Rattle.sd_command_base.specs.Outside.{depot_state}
use Rattle.sd_command_base.specs.Spec.{of_result}
use Rattle.sd_command_base.proofs.Follow.{alone_judges, looks_first, looks_judged}
use Rattle.sd_command_base.specs.Files.{site_of_file, low_site_or_status, low_site_of_file}
use Rattle.sd_command_base.proofs.files.read_low_site.Goals as goal

pub returns-in_err-site-clause-value : goal.returns-in_err-site-clause-value
unfolding low_site_of_file
returns-in_err-site-clause-value g c =
    let p = err_from_is_err_and c.from_residual.result c.from_residual.ensures.1 in
    rw (p.1, p.2) (looks_first site_fields_of site_fields_of (site_of_file c.args.word.number)
    (λ site. of_result (low_site_or_status c.args.most c.args.kind site)) c.args.word.text.now
    (depot_state g.D.Depot c.args.depot.now) (depot_state g.D.Depot c.read_site.new.depot) c.in_err-site.field-0.0
    c.in_err-site.ensures)

pub returns-clause-value : goal.returns-clause-value
unfolding low_site_of_file
returns-clause-value g c =
    looks_judged site_fields_of site_fields_of (site_of_file c.args.word.number)
    (low_site_or_status c.args.most c.args.kind) c.args.word.text.now
    (depot_state g.D.Depot c.args.depot.now) (depot_state g.D.Depot c.read_site.new.depot) c.in_ok-site.site
    c.judge_height.result c.in_ok-site.ensures
    (alone_judges site_fields_of (low_site_or_status c.args.most c.args.kind (site_fields_of c.in_ok-site.site))
    c.judge_height.result
    c.judge_height.ensures.value)
