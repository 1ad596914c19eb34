use Rattle.std.proofs.Common.{◌≡◌, Ok, Err, ap, sym, ◌∙◌}
use Rattle.sd_command_base.specs.Outside.{depot_state}
use Rattle.sd_command_base.specs.Made.{making_told}
use Rattle.sd_command_base.specs.Shown.{shown_word}
use Rattle.sd_command_base.proofs.News.{answer_of, new_obeys}
use Rattle.sd_command_base.proofs.made.make_new.Goals as goal

pub returns-in-Ok-There : goal.returns-in-Ok-There
returns-in-Ok-There g c pieces page steps =
    let w = c.write_new.ensures in
    new_obeys (record { bytes = c.args.bytes.now; pieces = pieces }) (shown_word c.args.word)
    (depot_state g.D.Depot c.args.depot.now) (depot_state g.D.Depot c.write_new.new.depot)
    page steps c.write_new.result _
    (sym (ap (answer_of c.args.word.number) (c.in-Ok-There.is ∙ ap Ok c.in-Ok-There.field-0-is)))
    w.file w.cause w.stops w.ports w.calls

pub returns-in-Err : goal.returns-in-Err
returns-in-Err g c pieces page steps =
    let w = c.write_new.ensures in
    let is : answer_of c.args.word.number c.write_new.result ≡ making_told c.args.word.number (Err c.in-Err.fault) =
    ap (answer_of c.args.word.number) c.in-Err.is in
    new_obeys (record { bytes = c.args.bytes.now; pieces = pieces }) (shown_word c.args.word)
    (depot_state g.D.Depot c.args.depot.now) (depot_state g.D.Depot c.write_new.new.depot)
    page steps c.write_new.result c.told.result (c.told.ensures ∙ sym is) w.file w.cause w.stops w.ports w.calls
