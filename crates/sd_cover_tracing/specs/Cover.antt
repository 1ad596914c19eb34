-- Public meaning: the chain cover as a list, from a test that tells the nodes of the Steiner tree
-- [Naor, Naor, Lotspiech 2001, 3.2].
use Rattle.std.specs.Prelude.{ℕ, zero, suc, ◌+◌, ◌-◌, ◌*◌, ◌^◌, ◌&&◌, ◌||◌, not, nat_eq, Bool, List, [], ◌∷◌, map}
use Rattle.std.specs.Prelude.{filter, if◌then◌else◌}
use Rattle.std.specs.List.{list_any, range_with_len}
use Rattle.sd_tree_keys.specs.Node.{depth}
use Rattle.sd_tree_keys.specs.Leaves.{is_below}
use Rattle.sd_tree_keys.specs.Paths.{sibling_of}
use Rattle.sd_tree_keys.specs.declared.set.SetName.{SetName}
use Rattle.sd_tree_keys.specs.declared.set.SetName.TheVariants.{Whole, Diff}

-- the test of the Steiner tree's nodes: a revoked leaf stands at or below v [Naor, Naor, Lotspiech 2001, 3.2]
unfoldable pub is_inside : ℕ → List ℕ → ℕ → Bool
is_inside d revoked v = list_any (is_below d v) revoked

-- the last node of a chain through v, a node so many steps above the leaves: where one child of v alone is in the tree
-- the chain goes on to it, and else it ends [Naor, Naor, Lotspiech 2001, 3.2]
abbrev pub chain_end : (ℕ → Bool) → ℕ → ℕ → ℕ
chain_end inside zero v = v
chain_end inside (suc level) v =
    if inside (2 * v)
    then (if inside (2 * v + 1) then v else chain_end inside level (2 * v))
    else chain_end inside level (2 * v + 1)

-- the last node of a chain through a node of a tree of height d
unfoldable pub chain_end_of : ℕ → (ℕ → Bool) → ℕ → ℕ
chain_end_of d inside v = chain_end inside (d - depth v) v

-- a chain of more than one node begins at v: v is in the tree, is the root or has a sibling there, and isn't the last
unfoldable pub begins_chain : ℕ → (ℕ → Bool) → ℕ → Bool
begins_chain d inside v = inside v &&
    ((nat_eq v 1 || inside (sibling_of v)) && not (nat_eq (chain_end_of d inside v) v))

-- the set of the chain that begins at v [Naor, Naor, Lotspiech 2001, 3.2]
abbrev pub set_from : ℕ → (ℕ → Bool) → ℕ → SetName
set_from d inside v = Diff v (chain_end_of d inside v)

-- the nodes of a tree of height d
abbrev pub nodes : ℕ → List ℕ
nodes d = range_with_len 1 (2 ^ (d + 1) - 1)

-- the cover where these nodes are in the Steiner tree: the whole set alone where the root isn't, else the sets of all
-- chains of more than one node, ascending [Naor, Naor, Lotspiech 2001, 3.2]
unfoldable pub cover_by : ℕ → (ℕ → Bool) → List SetName
cover_by d inside = if inside 1 then map (set_from d inside) (filter (begins_chain d inside) (nodes d)) else Whole ∷ []

-- the cover where these leaves are revoked
unfoldable pub cover_of : ℕ → List ℕ → List SetName
cover_of d revoked = cover_by d (is_inside d revoked)
