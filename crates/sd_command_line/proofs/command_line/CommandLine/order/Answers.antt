use Rattle.sd_command_line.specs.CommandLine.{words_of}
use Rattle.sd_command_line.proofs.Refused.{read_refused}
use Rattle.sd_command_line.proofs.Sound.{read_sound}
use Rattle.sd_command_line.proofs.command_line.CommandLine.order.Goals as goal

pub returns-clause-fits : goal.returns-clause-fits
returns-clause-fits c = read_sound c.args.self.now.order (words_of c.args.self.now) c.args.self.now.read

pub returns-clause-fault : goal.returns-clause-fault
returns-clause-fault c = read_refused c.args.self.now.order (words_of c.args.self.now) c.args.self.now.read
