-- Public meaning: the words of a command line that was read.
use Rattle.std.specs.Prelude.{ℕ, List, map, string_bytes}
use Rattle.sd_command_line.specs.declared.command_line.CommandLine.{CommandLine}

-- the words after the program's name
abbrev pub words_of : CommandLine → List (List ℕ)
words_of line = map string_bytes line.words.now
