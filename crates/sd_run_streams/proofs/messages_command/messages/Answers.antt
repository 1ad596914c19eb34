use Rattle.std.proofs.lemmas.Result.{err_from_is_err_and}
use Rattle.sd_site_cards.specs.SiteFields.{site_fields_of}
use Rattle.sd_command_base.specs.Outside.{depot_state, page_state, io_state_at}
use Rattle.sd_command_base.specs.Spec.{whole_file_bytes, value, ◌>>=◌}
use Rattle.sd_command_base.specs.Outcome.{status_of}
use Rattle.sd_command_base.specs.Files.{site_of_file}
use Rattle.sd_command_base.specs.Shown.{shown_word}
use Rattle.sd_command_base.proofs.Streamed.{first_follows, then_follows}
use Rattle.sd_run_streams.specs.Messages.{messages_meaning, monitoring, messages_stream_meaning}
use Rattle.sd_run_streams.proofs.messages_command.messages.Goals as goal

-- the site was refused, or not read
pub returns-in_err-site : goal.returns-in_err-site
unfolding messages_meaning
returns-in_err-site g c steps =
    let p = err_from_is_err_and c.from_residual.result c.from_residual.ensures.1 in
    let site = shown_word c.args.site in
    rw (p.1, p.2) (first_follows site_fields_of (site_of_file site.number)
    (λ given fields. messages_stream_meaning fields (shown_word c.args.stream) given) site
    (depot_state g.D.Depot c.args.depot.now) (depot_state g.D.Depot c.read_site.new.depot)
    (page_state g.P.Sink c.args.print.now) steps c.in_err-site.field-0.0 c.in_err-site.ensures)

pub returns : goal.returns
unfolding messages_meaning
returns g c steps =
    let site = shown_word c.args.site in
    let stream = shown_word c.args.stream in
    then_follows site_fields_of (site_of_file site.number)
    (λ fields got. whole_file_bytes stream.number got >>= λ bytes. value (monitoring fields bytes)) site stream
    (depot_state g.D.Depot c.args.depot.now) (depot_state g.D.Depot c.read_site.new.depot)
    (page_state g.P.Sink c.args.print.now) steps
    (io_state_at g.D.Depot g.P.Sink c.print_file.new.depot c.print_file.new.print steps)
    c.in_ok-site.site (status_of c.print_file.result) c.requires c.in_ok-site.ensures (c.print_file.ensures steps)
