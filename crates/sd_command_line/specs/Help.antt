-- Public meaning: `help`, `help COMMAND` and `version` [this project, docs/FORMATS.md, Help].
use Rattle.std.specs.Prelude.{Option}
use Rattle.sd_command_base.specs.Spec.{Spec, Readings, value}
use Rattle.sd_command_base.specs.Work.{Work, work_of_text}
use Rattle.sd_command_line.specs.declared.command.Command.{Command}
use Rattle.sd_command_line.specs.Pages.{help_text, version_text}

-- no file is read for it
abbrev pub help_meaning : Option Command → Readings → Spec Work
help_meaning topic given = value (work_of_text (help_text topic))

abbrev pub version_meaning : Readings → Spec Work
version_meaning given = value (work_of_text version_text)
