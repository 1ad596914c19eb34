-- Public meaning: in a tree of height d leaf u is node 2^d + u, and the leaves below a node are an interval of numbers.
use Rattle.std.specs.Prelude.{◌≡◌, true, ℕ, ◌+◌, ◌-◌, ◌*◌, ◌^◌, ◌<◌, ◌&&◌, ◌||◌, ◌==◌, Bool, not, nat_eq, nat_le}
use Rattle.std.specs.Prelude.{nat_lt, List}
use Rattle.std.specs.Prelude.{filter}
use Rattle.std.specs.List.{list_any, range_with_len}
use Rattle.sd_tree_keys.specs.declared.set.SetName.{SetName}
use Rattle.sd_tree_keys.specs.declared.set.SetName.TheVariants.{Whole, Diff}
use Rattle.sd_tree_keys.specs.Node.{depth}

-- the numbers of all leaves
abbrev pub leaves : ℕ → List ℕ
leaves d = range_with_len 0 (2 ^ d)

-- the leaves of the tree that aren't among these, ascending
abbrev pub unrevoked : ℕ → List ℕ → List ℕ
unrevoked d revoked = filter (λ u. not (list_any (nat_eq u) revoked)) (leaves d)

-- the leaves that are u or among these, ascending
unfoldable pub with_leaf : ℕ → ℕ → List ℕ → List ℕ
with_leaf d u revoked = filter (λ w. w == u || list_any (nat_eq w) revoked) (leaves d)

-- these leaves but for u
unfoldable pub without_leaf : ℕ → List ℕ → List ℕ
without_leaf u revoked = filter (λ w. not (w == u)) revoked

-- leaf u stands at or below node v: its node is in the interval that v has at depth d [Naor, Naor, Lotspiech 2001, 3.2]
unfoldable pub is_below : ℕ → ℕ → ℕ → Bool
is_below d v u = nat_le (v * 2 ^ (d - depth v)) (2 ^ d + u) && nat_lt (2 ^ d + u) ((v + 1) * 2 ^ (d - depth v))

-- all leaves below node j are below node i
abbrev pub HoldsLeavesOf : ℕ → ℕ → ℕ → Type 0
HoldsLeavesOf d i j = (u : ℕ) → u < 2 ^ d → is_below d j u ≡ true → is_below d i u ≡ true

-- leaf u is in the set: in S(i,j) are the leaves below i that aren't below j [Naor, Naor, Lotspiech 2001, 3.2]
abbrev pub is_member : ℕ → SetName → ℕ → Bool
is_member d Whole u = nat_lt u (2 ^ d)
is_member d (Diff i j) u = nat_lt u (2 ^ d) && (is_below d i u && not (is_below d j u))

-- the leaves of the set, ascending
abbrev pub members : ℕ → SetName → List ℕ
members d name = filter (is_member d name) (leaves d)
