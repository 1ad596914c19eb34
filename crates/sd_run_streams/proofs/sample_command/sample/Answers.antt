use Rattle.sd_engine.specs.Sample.{sample_of}
use Rattle.sd_command_base.specs.Outside.{depot_state}
use Rattle.sd_command_base.specs.Work.{NoSteps}
use Rattle.sd_command_base.specs.Shown.{shown_word}
use Rattle.sd_command_base.proofs.Givens.{any_given}
use Rattle.sd_command_base.proofs.Making.{made_obeys}
use Rattle.sd_run_streams.proofs.sample_command.sample.Goals as goal

pub returns : goal.returns
returns g c page steps =
    let w = c.write_sample.ensures in
    let a = depot_state g.D.Depot c.args.depot.now in
    let given = any_given a.files in
    record {
      given = given.given;
      is_given = given.is_given;
      obeyed = made_obeys NoSteps (shown_word c.args.out) (sample_of c.args.number c.args.packets) a
          (depot_state g.D.Depot c.write_sample.new.depot)
          page steps c.write_sample.result c.told.result c.told.ensures w.file w.cause w.stops w.ports w.calls.most;
    }
