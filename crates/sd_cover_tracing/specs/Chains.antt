-- Public meaning: the chain cover of the leaves that are not revoked [Naor, Naor, Lotspiech 2001, 3.2].
use Rattle.std.specs.Prelude.{◌≡◌, ◌≢◌, ℕ, ◌+◌, ◌*◌, ◌/◌, ◌≤◌, ◌↔◌, ◌⊎◌, List, [], ◌∷◌, Contains}
use Rattle.sd_tree_keys.specs.Node.{IsAbove}
use Rattle.sd_tree_keys.specs.Paths.{leaf_node, sibling_of}
use Rattle.sd_tree_keys.specs.SetNames.{AreAscending}
use Rattle.sd_tree_keys.specs.declared.set.SetName.{SetName}
use Rattle.sd_tree_keys.specs.declared.set.SetName.TheVariants.{Whole, Diff}

-- a node of the Steiner tree T: it is at or above a revoked leaf's node [Naor, Naor, Lotspiech 2001, 3.2]
abbrev pub IsInTree : ℕ → List ℕ → ℕ → Type 0
IsInTree d revoked v = (1 ≤ v) × ((u : ℕ) × Contains revoked u × IsAbove v (leaf_node d u))

-- of the node's two children just one is in T
abbrev pub HasOneChild : ℕ → List ℕ → ℕ → Type 0
HasOneChild d revoked v =
    (IsInTree d revoked (2 * v) × ¬ IsInTree d revoked (2 * v + 1))
    ⊎ (¬ IsInTree d revoked (2 * v) × IsInTree d revoked (2 * v + 1))

-- both of its children are in T
abbrev pub HasTwoChildren : ℕ → List ℕ → ℕ → Type 0
HasTwoChildren d revoked v = IsInTree d revoked (2 * v) × IsInTree d revoked (2 * v + 1)

-- where a chain may begin: at the root, or beside a sibling in T [Naor, Naor, Lotspiech 2001, 3.2]
abbrev pub IsChainHead : ℕ → List ℕ → ℕ → Type 0
IsChainHead d revoked v = (v ≡ 1) ⊎ IsInTree d revoked (sibling_of v)

-- where a chain ends: at a revoked leaf's node, or above two children in T [Naor, Naor, Lotspiech 2001, 3.2]
abbrev pub IsChainEnd : ℕ → List ℕ → ℕ → Type 0
IsChainEnd d revoked v = ((u : ℕ) × Contains revoked u × (v ≡ leaf_node d u)) ⊎ HasTwoChildren d revoked v

-- nodes of T, each the child of the one before, of which each but the last has one child in T and the last ends a chain
abbrev pub AreLinked : ℕ → List ℕ → List ℕ → Type 0
AreLinked d revoked [] = Unit {0}
AreLinked d revoked (v ∷ []) = IsInTree d revoked v × IsChainEnd d revoked v
AreLinked d revoked (v ∷ w ∷ nodes) =
    IsInTree d revoked v × HasOneChild d revoked v × (w / 2 ≡ v) × AreLinked d revoked (w ∷ nodes)

-- the last of these nodes, of which v is the first
abbrev pub last_of : ℕ → List ℕ → ℕ
last_of v [] = v
last_of v (w ∷ nodes) = last_of w nodes

-- i and j are the first and the last node of a chain of more than one node
pub record EndsChain (d : ℕ) (revoked : List ℕ) (i j : ℕ) : Type 0 where
  pub nodes : List ℕ
  pub several : nodes ≢ []
  pub head : IsChainHead d revoked i
  pub linked : AreLinked d revoked (i ∷ nodes)
  pub last : last_of i nodes ≡ j

-- a set of the cover: S(i,j) for a chain of more than one node from i to j [Naor, Naor, Lotspiech 2001, 3.2]
abbrev pub IsOfChain : ℕ → List ℕ → SetName → Type 0
IsOfChain d revoked Whole = ⊥
IsOfChain d revoked (Diff i j) = EndsChain d revoked i j

-- the cover, ascending: the whole set alone where no leaf is revoked, else a set for each chain of more than one node
-- [Naor, Naor, Lotspiech 2001, 3.2]
pub record IsChainCover (d : ℕ) (revoked : List ℕ) (sets : List SetName) : Type 0 where
  pub ascending : AreAscending sets
  pub none_revoked : revoked ≡ [] → sets ≡ Whole ∷ []
  pub chains : revoked ≢ [] → (name : SetName) → Contains sets name ↔ IsOfChain d revoked name
