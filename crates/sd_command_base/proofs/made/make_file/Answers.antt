use Rattle.sd_command_base.specs.Outside.{depot_state}
use Rattle.sd_command_base.specs.Shown.{shown_word}
use Rattle.sd_command_base.proofs.Making.{made_obeys}
use Rattle.sd_command_base.proofs.made.make_file.Goals as goal

pub returns : goal.returns
returns g c page steps most =
    let w = c.write_file.ensures in
    made_obeys most (shown_word c.args.word) c.args.bytes.now (depot_state g.D.Depot c.args.depot.now)
    (depot_state g.D.Depot c.write_file.new.depot)
    page steps c.write_file.result c.told.result c.told.ensures w.file w.cause w.stops w.ports w.calls.most
