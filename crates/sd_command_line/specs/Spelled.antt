-- Public meaning: `-` as an argument, spelled out [this project, docs/FORMATS.md, Commands].
use Rattle.std.specs.Prelude.{ℕ, ◌==◌, List, [], ◌∷◌, codes, length, bytes_eq, if◌then◌else◌, Option, Some, None}
use Rattle.sd_command_line.specs.declared.command.Command.{Command}
use Rattle.sd_command_line.specs.declared.operand.Operand.{Operand}
use Rattle.sd_command_line.specs.declared.operand.Operand.TheVariants.{NewSite}
use Rattle.sd_command_line.specs.declared.operand.Kind.{Kind}
use Rattle.sd_command_line.specs.declared.operand.Kind.TheVariants as kind
use Rattle.sd_command_line.specs.Commands.{command_named, operands_of}
use Rattle.sd_command_line.specs.Operands.{operand_kind}

-- the standard input for a file that is read, the standard output for the file that is made; a number stays
abbrev pub dash_at : Kind → List ℕ
dash_at kind.Input = codes "/dev/stdin"
dash_at kind.Output = codes "/dev/stdout"
dash_at (kind.Number most) = codes "-"
dash_at (kind.Count most) = codes "-"

-- what `-` stands for in the place of an argument; a site that is made is a new file, and no pipe
unfoldable pub dash_of : Operand → List ℕ
dash_of NewSite = codes "-"
dash_of operand = dash_at (operand_kind operand)

-- the text of an argument, spelled out
abbrev pub spelled_text : Operand → List ℕ → List ℕ
spelled_text operand text = if bytes_eq text (codes "-") then dash_of operand else text

-- the texts of arguments, spelled out
abbrev pub spelled_texts : List Operand → List (List ℕ) → List (List ℕ)
spelled_texts [] texts = texts
spelled_texts (operand ∷ operands) [] = []
spelled_texts (operand ∷ operands) (text ∷ texts) = spelled_text operand text ∷ spelled_texts operands texts

-- the arguments of a command, if there are as many texts
abbrev pub fitting_operands : Option Command → List (List ℕ) → List Operand
fitting_operands None texts = []
fitting_operands (Some command) texts = if length texts == length (operands_of command) then operands_of command else []

-- the arguments of the command that words name, if there are as many
abbrev pub operands_in : List (List ℕ) → List Operand
operands_in [] = []
operands_in (name ∷ texts) = fitting_operands (command_named name) texts

-- the words after the program's name, spelled out: those of a command of the table that has as many arguments
abbrev pub spelled : List (List ℕ) → List (List ℕ)
spelled [] = []
spelled (name ∷ texts) = name ∷ spelled_texts (operands_in (name ∷ texts)) texts
