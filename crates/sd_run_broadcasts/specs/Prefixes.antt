-- Public meaning: the first bytes of a file [this project, docs/FORMATS.md, Trial].
use Rattle.std.specs.Prelude.{ℕ, List, Option, Result, Ok, Err}
use Rattle.sd_ports.specs.Bytes.{Prefix, prefix_of}
use Rattle.sd_ports.specs.declared.prefix.ReadMostFault.{ReadMostFault}
use Rattle.sd_ports.specs.declared.prefix.ReadMostFault.TheVariants as fault
use Rattle.sd_command_base.specs.declared.status.Status.{Status}
use Rattle.sd_command_base.specs.declared.status.Status.TheVariants.{DepotFault, NoMemory}
use Rattle.sd_command_base.specs.Spec.{Spec, whole_file_bytes, value, ◌>>=◌}

-- the first bytes of the file of argument `word`, at most `most`
unfoldable pub prefix_of_file : ℕ → ℕ → Option (List ℕ) → Spec Prefix
prefix_of_file word most got = whole_file_bytes word got >>= λ bytes. value (prefix_of most bytes)

-- the result of reading the first bytes of a file
abbrev pub told_prefix : {T : Type 0} → Result T ReadMostFault → Result T Status
told_prefix (Ok prefix) = Ok prefix
told_prefix (Err fault.Failed) = Err DepotFault
told_prefix (Err fault.NoMemory) = Err NoMemory
