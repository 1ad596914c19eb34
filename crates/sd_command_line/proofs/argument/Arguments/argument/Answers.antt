use Rattle.sd_command_line.proofs.Rows.{said_there, said_gone}
use Rattle.sd_command_line.proofs.argument.Arguments.argument.Goals as goal

pub returns-in-Some : goal.returns-in-Some
returns-in-Some c =
    said_there c.args.self.now.list.items c.deref.result.now c.args.place c.from.result c.in-Some.argument.now
    c.deref.ensures.0 c.from.ensures c.requires c.in-Some.ensures.lookup.3.0 c.in-Some.ensures.lookup.1

pub returns-in-None : goal.returns-in-None
returns-in-None c =
    said_gone c.args.self.now.list.items c.deref.result.now c.args.place c.from.result c.deref.ensures.0 c.from.ensures
    c.requires c.in-None.ensures.lookup.3
