-- Inner: the walk over the Steiner tree that finds the chains [Naor, Naor, Lotspiech 2001, 3.2].
use Rattle.std.specs.Prelude.{◌≡◌, ◌≢◌, ℕ, ◌-◌, ◌/◌, ◌^◌, ◌<◌, ◌≤◌, ◌==◌, ◌↔◌, ◌⊎◌, List, [], ◌∷◌, ◌++◌, Contains}
use Rattle.std.specs.Prelude.{AllPairs, if◌then◌else◌}
use Rattle.std.specs.List.Sorted.{IsStrictlyIncreasing}
use Rattle.sd_tree_keys.specs.Node.{IsAbove, IsProperlyAbove}
use Rattle.sd_tree_keys.specs.Paths.{leaf_node}
use Rattle.sd_tree_keys.proofs.Levels.{IsAtLevel}
use Rattle.sd_tree_keys.specs.declared.set.SetName.{SetName}
use Rattle.sd_tree_keys.specs.declared.set.SetName.TheVariants.{Whole, Diff}
use Rattle.sd_cover_tracing.specs.Chains.{IsInTree, IsChainHead, AreLinked, IsOfChain, last_of}

-- node v of a tree of height d stands level steps above the leaves
pub record StandsAt (d level v : ℕ) : Type 0 where
  pub within : level ≤ d
  pub at : IsAtLevel v (d - level)

-- the node at or above a leaf that stands level steps above it
abbrev pub node_at : ℕ → ℕ → ℕ → ℕ
node_at d level u = leaf_node d u / 2 ^ level

-- the set of a chain from its first node to its last, and none where they are one node
abbrev pub of_ends : ℕ → ℕ → List SetName
of_ends i j = if i == j then [] else Diff i j ∷ []

-- the part of a chain from v on ends at j
pub record ChainEndsAt (d : ℕ) (revoked : List ℕ) (v j : ℕ) : Type 0 where
  pub nodes : List ℕ
  pub linked : AreLinked d revoked (v ∷ nodes)
  pub last : last_of v nodes ≡ j

-- v is a node of the chain that begins at head
pub record IsOnChain (d : ℕ) (revoked : List ℕ) (head v : ℕ) : Type 0 where
  pub begins : IsChainHead d revoked head
  pub inside : IsInTree d revoked v
  pub above : IsAbove head v
  pub ends : (j : ℕ) → ChainEndsAt d revoked head j ↔ ChainEndsAt d revoked v j

-- the name is of a chain that begins at head or below v
abbrev pub BeginsBy : ℕ → ℕ → SetName → Type 0
BeginsBy head v Whole = ⊥
BeginsBy head v (Diff i j) = (i ≡ head) ⊎ IsProperlyAbove v i

-- the sets of the chain that begins at head and of those that begin below v, each once
pub record AreChainsFrom (d : ℕ) (revoked : List ℕ) (head v : ℕ) (sets : List SetName) : Type 0 where
  pub chains : (name : SetName) → Contains sets name ↔ (IsOfChain d revoked name × BeginsBy head v name)
  pub once : AllPairs (λ a b. a ≢ b) sets

-- ascending leaves, all below v, a node that stands level steps above the leaves
pub record AreBelowNode (d level v : ℕ) (leaves : List ℕ) : Type 0 where
  pub within : level ≤ d
  pub below : (u : ℕ) → Contains leaves u → (u < 2 ^ d) × (node_at d level u ≡ v)
  pub ascending : IsStrictlyIncreasing leaves

-- these leaves are the revoked ones below v
pub record AreRevokedBelow (d : ℕ) (revoked : List ℕ) (level v : ℕ) (leaves : List ℕ) : Type 0 where
  pub of_height : (u : ℕ) → Contains revoked u → u < 2 ^ d
  pub below : (u : ℕ) → Contains leaves u ↔ (Contains revoked u × (node_at d level u ≡ v))

-- the new list is the old one and after it the sets of the chain that begins at head and of those that begin below v
abbrev pub AddsChains : ℕ → List ℕ → ℕ → ℕ → List SetName → List SetName → Type 0
AddsChains d revoked head v old new = (added : List SetName) × (new ≡ old ++ added)
    × AreChainsFrom d revoked head v added

-- the sets are added so whatever leaves are revoked elsewhere
pub record AddsChainsBelow (d level head v : ℕ) (leaves : List ℕ) (old new : List SetName) : Type 0 where
  pub adds : (revoked : List ℕ) → AreRevokedBelow d revoked level v leaves → IsOnChain d revoked head v
      → AddsChains d revoked head v old new
