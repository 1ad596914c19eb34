-- Neither `help` nor `version` means `Usage`.
use Rattle.std.proofs.Common.{Option}
use Rattle.sd_command_base.specs.Spec.{Readings}
use Rattle.sd_command_base.proofs.Others.{IsOther}
use Rattle.sd_command_line.specs.declared.command.Command.{Command}
use Rattle.sd_command_line.specs.Help.{help_meaning, version_meaning}

pub other_help : (topic : Option Command) (given : Readings) → IsOther (help_meaning topic given).result
other_help topic given = tt

pub other_version : (given : Readings) → IsOther (version_meaning given).result
other_version given = tt
