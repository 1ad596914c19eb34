-- Public meaning: sets of PIDs.
use Rattle.std.specs.Prelude.{ℕ, ◌/◌, ◌%◌, ◌==◌, Bool, List, get_or}
use Rattle.std.specs.Int.{bit_at}
use Rattle.sd_receive.specs.declared.buffer.pid_set.PidSet.{PidSet}

-- the bit at an index of words of 64 bits is 1
unfoldable pub has_bit : List ℕ → ℕ → Bool
has_bit words index = bit_at (get_or words (index / 64) 0) (index % 64) == 1

-- the PID is one of the set
abbrev pub has_pid : PidSet → ℕ → Bool
has_pid pids pid = has_bit pids.words pid
