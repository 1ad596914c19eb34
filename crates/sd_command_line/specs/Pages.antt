-- Public meaning: the texts that help prints, and that of the version [this project, docs/FORMATS.md, Help].
use Rattle.std.specs.Prelude.{ℕ, ◌-◌, ◌^◌, List, [], ◌++◌, codes, Option, Some, None}
use Rattle.std.specs.Prelude.{if◌then◌else◌}
use Rattle.std.specs.List.{flat_map}
use Rattle.std.specs.Fmt.{padded, format_spec}
use Rattle.sd_command_line.specs.declared.command.Command.{Command}
use Rattle.sd_command_line.specs.declared.operand.Operand.{Operand}
use Rattle.sd_command_line.specs.Operands.{meaning_of, operand_name as word_of}
use Rattle.sd_command_line.specs.declared.exit.Exit.{Exit}
use Rattle.sd_command_line.specs.Exits.{exit_line, exits}
use Rattle.sd_command_line.specs.Commands.{commands, ends_with, example_of, files_of, command_name}
use Rattle.sd_command_line.specs.Commands.{operands_of, work_of}

-- a text at the left of a column of that width in characters, filled up with spaces
abbrev pub at_left : ℕ → List ℕ → List ℕ
at_left width text = padded (format_spec 32 1 0 width (2 ^ 64 - 1)) text

-- the name of an argument, after a space
unfoldable pub spaced : Operand → List ℕ
spaced operand = codes " " ++ word_of operand

-- a command's name and its arguments
abbrev pub usage_of : Command → List ℕ
usage_of topic = command_name topic ++ flat_map spaced (operands_of topic)

-- the line of a command in the list of all
unfoldable pub topic_line : Command → List ℕ
topic_line topic = codes "  " ++ (at_left 27 (usage_of topic) ++ (codes "  " ++ (work_of topic ++ codes "\n")))

-- the line of an argument: its name and its meaning
unfoldable pub operand_line : Operand → List ℕ
operand_line operand =
    codes "  " ++ (at_left 8 (word_of operand) ++ (codes "  " ++ (meaning_of operand ++ codes "\n")))

-- all commands, one line each
unfoldable pub overview : List ℕ
overview =
    codes "sdca: conditional access for transport streams, by Subset Difference\n\n"
    ++ flat_map topic_line commands
    ++ codes "  help [COMMAND]               prints this list, or a command's arguments, exits and an example\n"
    ++ codes "  version                      prints the version, and the toolchain that proved it\n"

-- the first lines of a command's page
unfoldable pub head_text : Command → List ℕ
head_text topic = codes "sdca " ++ (usage_of topic ++ (codes "\n" ++ (work_of topic ++ codes "\n\narguments\n")))

-- the line of an exit, if the command may end with it
unfoldable pub exit_text : Command → Exit → List ℕ
exit_text topic exit = if ends_with topic exit then exit_line (files_of topic) exit else []

-- the last lines of it
unfoldable pub tail_text : Command → List ℕ
tail_text topic = codes "\nexample\n  sdca " ++ (example_of topic ++ codes "\n")

-- the page of a command: its arguments with their meanings, its exits and an example
unfoldable pub page_text : Command → List ℕ
page_text topic =
    head_text topic ++ flat_map operand_line (operands_of topic) ++ codes "\nexits\n"
    ++ flat_map (exit_text topic) exits ++ tail_text topic

-- what help prints of a command, or of all
unfoldable pub help_text : Option Command → List ℕ
help_text None = overview
help_text (Some topic) = page_text topic

-- the version, the logic of its proofs, and the toolchains with which the gate was seen to pass
unfoldable pub version_text : List ℕ
version_text = codes "sdca 1.0.0\nproved in logic dac8208d650f15bf (rattle-kit-13f)\n"
