use Rattle.std.proofs.lemmas.Result.{err_from_is_err_and}
use Rattle.sd_site_cards.specs.SiteFields.{site_fields_of}
use Rattle.sd_site_cards.specs.Text.{site_of}
use Rattle.sd_command_base.specs.declared.status.LimitKind.TheVariants.{SiteBytes}
use Rattle.sd_command_base.specs.Outside.{depot_state}
use Rattle.sd_command_base.specs.Spec.{within, of_result}
use Rattle.sd_command_base.proofs.Follow.{alone_judges, looks_first, looks_judged}
use Rattle.sd_command_base.specs.Files.{site_or_status, site_of_file, most_site_bytes}
use Rattle.sd_command_base.proofs.files.read_site.Goals as goal

pub returns-in_err-bytes : goal.returns-in_err-bytes
unfolding site_of_file
returns-in_err-bytes g c =
    let p = err_from_is_err_and c.from_residual.result c.from_residual.ensures.1 in
    rw (p.1, p.2) (looks_first (λ bytes. bytes.items) site_fields_of
    (within c.args.word.number most_site_bytes SiteBytes)
    (λ bytes. of_result (site_or_status c.args.word.number bytes (site_of bytes))) c.args.word.text.now
    (depot_state g.D.Depot c.args.depot.now) (depot_state g.D.Depot c.read_bytes.new.depot) c.in_err-bytes.field-0.0
    c.in_err-bytes.ensures)

pub returns : goal.returns
unfolding site_of_file
returns g c =
    let judged_alone = rw c.deref.ensures.value at c.judge_site.ensures in
    looks_judged (λ bytes. bytes.items) site_fields_of (within c.args.word.number most_site_bytes SiteBytes)
    (λ bytes. site_or_status c.args.word.number bytes (site_of bytes)) c.args.word.text.now
    (depot_state g.D.Depot c.args.depot.now) (depot_state g.D.Depot c.read_bytes.new.depot) c.in_ok-bytes.bytes
    c.judge_site.result c.in_ok-bytes.ensures
    (alone_judges site_fields_of
    (site_or_status c.args.word.number c.in_ok-bytes.bytes.items (site_of c.in_ok-bytes.bytes.items))
    c.judge_site.result judged_alone)
