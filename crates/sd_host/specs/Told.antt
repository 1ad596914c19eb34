-- Inner: what the machine said of a file.
use Rattle.std.specs.Prelude.{ℕ, List, Option, Some, None, String, string_bytes}
use Rattle.std.specs.declared.alloc.Global.{Global}
use Rattle.std.specs.declared.io.ErrorKind.{ErrorKind}
use Rattle.sd_host.specs.declared.error.FileError.{FileError}

-- the name of the file, and the kind of error
abbrev pub said_in : FileError → List ℕ × ErrorKind
said_in error = (string_bytes error.name, error.kind)

-- an error of the file of this name, if both are known
abbrev pub file_error_of : Option (String Global) → Option ErrorKind → Option FileError
file_error_of (Some name) (Some kind) = Some (record { name = name; kind = kind })
file_error_of (Some name) None = None
file_error_of None kind = None
