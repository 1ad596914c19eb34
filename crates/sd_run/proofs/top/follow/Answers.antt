use Rattle.sd_command_base.specs.Outside.{depot_state}
use Rattle.sd_run.proofs.Notes.{nothing_said}
use Rattle.sd_run.proofs.top.follow.Goals as goal

pub returns-in-Help : goal.returns-in-Help
returns-in-Help g c = record {
  value = rw c.in-Help.is (c.help.ensures (depot_state g.D.Depot c.args.depot.now) c.args.steps.now);
  notes = rw c.in-Help.is (nothing_said (g.D.Depot.files c.args.depot.now) (g.N.Sink.held c.args.notes.now));
}

pub returns-in-Version : goal.returns-in-Version
returns-in-Version g c = record {
  value = rw c.in-Version.is (c.version.ensures (depot_state g.D.Depot c.args.depot.now) c.args.steps.now);
  notes = rw c.in-Version.is (nothing_said (g.D.Depot.files c.args.depot.now) (g.N.Sink.held c.args.notes.now));
}
