-- Public meaning: the bytes of a line that is printed.
use Rattle.std.specs.Prelude.{ℕ, List, string_bytes}
use Rattle.sd_command_base.specs.declared.printed_line.Line.{Line}
use Rattle.sd_command_base.specs.declared.printed_line.Line.TheVariants.{Fixed, Made}

-- the bytes of a line
abbrev pub bytes_of : Line → List ℕ
bytes_of (Fixed text) = text.now
bytes_of (Made text) = string_bytes text
