use Rattle.std.proofs.Common.{◌≡◌, ◌∙◌, Err, ap, sym}
use Rattle.sd_command_base.specs.Outside.{depot_state}
use Rattle.sd_command_base.specs.Made.{making_told}
use Rattle.sd_command_base.specs.Shown.{shown_word}
use Rattle.sd_run_broadcasts.proofs.Marking.{mark_answer, mark_comes}
use Rattle.sd_run_broadcasts.proofs.open_marked.make_mark.Goals as goal

pub returns-in-Err : goal.returns-in-Err
returns-in-Err g c =
    let w = c.write_new.ensures in
    let is : mark_answer c.args.mark.number c.write_new.result ≡ making_told c.args.mark.number (Err c.in-Err.fault) =
    ap (mark_answer c.args.mark.number) c.in-Err.is in
    mark_comes (shown_word c.args.mark) (depot_state g.D.Depot c.args.depot.now)
    (depot_state g.D.Depot c.write_new.new.depot) c.write_new.result c.told.result (c.told.ensures ∙ sym is) w.file
    w.cause w.stops w.ports w.calls
