use Rattle.std.proofs.lemmas.Result.{err_from_is_err_and}
use Rattle.sd_site_cards.specs.Written.{site_of_chain, none_fewer}
use Rattle.sd_command_base.specs.declared.status.LimitKind.TheVariants.{SiteBytes}
use Rattle.sd_command_base.specs.Outside.{depot_state}
use Rattle.sd_command_base.specs.Spec.{within, of_result}
use Rattle.sd_command_base.proofs.Follow.{alone_judges, looks_first, looks_judged}
use Rattle.sd_command_base.specs.Files.{most_site_bytes}
use Rattle.sd_run_broadcasts.specs.Air.{air_site_of_file, told_air_site}
use Rattle.sd_run_broadcasts.proofs.Said.{said_of}
use Rattle.sd_run_broadcasts.proofs.air_plan.read_air_site.Goals as goal

pub returns-in_err-bytes : goal.returns-in_err-bytes
unfolding air_site_of_file
returns-in_err-bytes g c =
    let p = err_from_is_err_and c.from_residual.result c.from_residual.ensures.1 in
    rw (p.1, p.2) (looks_first (λ bytes. bytes.items) said_of (within c.args.word.number most_site_bytes SiteBytes)
    (λ bytes. of_result (told_air_site c.args.word.number bytes (site_of_chain none_fewer bytes)))
    c.args.word.text.now (depot_state g.D.Depot c.args.depot.now) (depot_state g.D.Depot c.read_bytes.new.depot)
    c.in_err-bytes.field-0.0 c.in_err-bytes.ensures)

pub returns : goal.returns
unfolding air_site_of_file
returns g c =
    let judged_alone = rw c.deref.ensures.value at c.judge_air_site.ensures in
    looks_judged (λ bytes. bytes.items) said_of (within c.args.word.number most_site_bytes SiteBytes)
    (λ bytes. told_air_site c.args.word.number bytes (site_of_chain none_fewer bytes)) c.args.word.text.now
    (depot_state g.D.Depot c.args.depot.now) (depot_state g.D.Depot c.read_bytes.new.depot) c.in_ok-bytes.bytes
    c.judge_air_site.result c.in_ok-bytes.ensures
    (alone_judges said_of (told_air_site c.args.word.number c.in_ok-bytes.bytes.items
    (site_of_chain none_fewer c.in_ok-bytes.bytes.items))
    c.judge_air_site.result judged_alone)
