use Rattle.std.proofs.Common.{rules}
use Rattle.sd_command_base.proofs.files.read_card_bytes.Goals as goal

pub returns : goal.returns
returns g c = search rules
