-- Public meaning: counts by node number, as contracts see them.
use Rattle.std.specs.Prelude.{ℕ, zero, suc, refl}
use Rattle.std.specs.Coded.{Coded, code_by, coded×, coded_ℕ}
use Rattle.std.specs.Ordering.{nat_cmp}
use Rattle.std.specs.Option.{unwrap_or}
use Rattle.std.specs.FinMap.{FinMap, code, get, insert, remove}

-- the nodes that count, each with its count above 0, and for how many more there is room
pub record Tally : Type 0 where
  pub counts : FinMap nat_cmp ℕ
  pub room : ℕ

-- a tally is stored as the pair of its fields
abbrev pub tally_code : Coded Tally
tally_code = code_by (FinMap nat_cmp ℕ × ℕ) (coded× (code coded_ℕ coded_ℕ) coded_ℕ) (λ t. (t.counts, t.room))
    (λ p. record { counts = p.0; room = p.1 }) (λ _. refl)

-- the count of a node: 0 where it isn't in the map
abbrev pub tally_at : FinMap nat_cmp ℕ → ℕ → ℕ
tally_at counts v = unwrap_or (get counts v) 0

-- the map with this count for the node, which leaves it where that is 0
abbrev pub with_count : FinMap nat_cmp ℕ → ℕ → ℕ → FinMap nat_cmp ℕ
with_count counts v zero = remove counts v
with_count counts v (suc n) = insert counts v (suc n)
