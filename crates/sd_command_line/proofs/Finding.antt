-- What the first command of those that are left says of the one with a name.
use Rattle.std.proofs.Common.{◌≡◌, ◌<◌, ◌+◌, ℕ, List, length, drop, bytes_eq, Some, true, false, refl, sym}
use Rattle.std.proofs.Common.{slice_index_or}
use Rattle.sd_command_line.specs.declared.command.Command.{Command}
use Rattle.sd_command_line.specs.Commands.{command_name, first_named}
use Rattle.sd_command_line.proofs.Rows.{one_left}

-- it has the name
pub named_here : (word : List ℕ) (commands : List Command) (i : ℕ) (d : Command) → i < length commands →
    true ≡ bytes_eq word (command_name (slice_index_or commands i d)) →
    Some (slice_index_or commands i d) ≡ first_named word (drop i commands)
named_here word commands i d h same = sym (rw (one_left commands i d h, sym same) refl)

-- it has another name
pub named_later : (word : List ℕ) (commands : List Command) (i : ℕ) (d : Command) → i < length commands →
    false ≡ bytes_eq word (command_name (slice_index_or commands i d)) →
    first_named word (drop (i + 1) commands) ≡ first_named word (drop i commands)
named_later word commands i d h other = sym (rw (one_left commands i d h, sym other) refl)
