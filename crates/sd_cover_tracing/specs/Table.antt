-- Public meaning: a table with a number for each node.
use Rattle.std.specs.Prelude.{◌≡◌, ℕ, ◌+◌, ◌^◌, ◌≤◌, ◌⊎◌, nat_lt, List, [], ◌∷◌, length, if◌then◌else◌}
use Rattle.std.specs.List.{sum_by}
use Rattle.std.specs.Ordering.{nat_cmp}
use Rattle.std.specs.FinMap.{FinMap, empty}
use Rattle.sd_cover_tracing.specs.declared.counts.TheConstants.{NODES}
use Rattle.sd_cover_tracing.specs.Tally.{with_count}

-- the map of a table whose first place is that of node v
abbrev pub map_from : ℕ → List ℕ → FinMap nat_cmp ℕ
map_from v [] = empty
map_from v (n ∷ ns) = with_count (map_from (v + 1) ns) v n

-- the map of a table
unfoldable pub map_of : List ℕ → FinMap nat_cmp ℕ
map_of table = map_from 0 table

-- how many places count above 0
unfoldable pub used : List ℕ → ℕ
used table = sum_by (λ n. if nat_lt 0 n then 1 else 0) table

-- there is a place for each node, or none and no room, and the room with the places that count is a number of 32 bits
pub record IsProbeTable (table : List ℕ) (room : ℕ) : Type 0 where
  pub size : (length table ≡ NODES) ⊎ ((length table ≡ 0) × (room ≡ 0))
  pub fits : room + used table ≤ 2 ^ 25
