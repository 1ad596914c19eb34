-- Public meaning: what is true of all that is kept.
use Rattle.std.specs.Prelude.{◌≡◌, ℕ, ◌+◌, ◌*◌, ◌<◌, ◌≤◌, Bool, false, nat_eq, List, get_or, slice_index}
use Rattle.std.specs.List.{list_any}
use Rattle.sd_packet.specs.Positions.{first_position}

-- there are such PIDs [ISO/IEC 13818-1, 2.4.3.2]
pub record ArePids (pids : List ℕ) : Type 0 where
  pub at : (i : ℕ) → slice_index pids i < 8192

-- no position has come further than so many packets can move it [this project, docs/FORMATS.md, Positions]
pub record AreReachablePositions (count : ℕ) (positions : List ℕ) : Type 0 where
  pub at : (pid : ℕ) → slice_index positions pid ≤ first_position + 16 * count

-- these PIDs are marked, and no others
pub record AreMarkedPids (pids : List ℕ) (marks : List Bool) : Type 0 where
  pub at : (pid : ℕ) → pid < 8192 → get_or marks pid false ≡ list_any (nat_eq pid) pids
