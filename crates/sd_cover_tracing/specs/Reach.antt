-- Public meaning: what follows from names by the steps of the generator. It is said of names and not of bytes.
use Rattle.std.specs.Prelude.{◌≡◌, true, ℕ, ◌+◌, ◌*◌, ◌≤◌, ◌⊎◌, ◌↔◌, List, Contains}
use Rattle.sd_tree_keys.specs.Node.{IsAbove}
use Rattle.sd_tree_keys.specs.Leaves.{is_member}
use Rattle.sd_tree_keys.specs.SetNames.{IsOfHeight}
use Rattle.sd_tree_keys.specs.declared.set.SetName.{SetName}
use Rattle.sd_tree_keys.specs.declared.set.SetName.TheVariants.{Whole as WholeSet, Diff}
use Rattle.sd_tree_keys.specs.declared.name.Name.{Name}
use Rattle.sd_tree_keys.specs.declared.name.Name.TheVariants.{Whole, Pair}
use Rattle.sd_cover_tracing.specs.Derivation.{IsDerived}

-- a secret by its name: what a receiver can be given, or the key of a set
pub data Secret : Type 0 where
  Named : Name → Secret
  Key : SetName → Secret

-- the second is made from the first: the labels of w's children and the key of S(i,w) from the label of (i,w) [Naor,
-- Naor, Lotspiech 2001, 3.2]
pub data IsGeneratorStep : Secret → Secret → Type 0 where
  left : {i w : ℕ} → 1 ≤ w → IsGeneratorStep (Named (Pair i w)) (Named (Pair i (2 * w)))
  right : {i w : ℕ} → 1 ≤ w → IsGeneratorStep (Named (Pair i w)) (Named (Pair i (2 * w + 1)))
  middle : {i w : ℕ} → 1 ≤ w → IsGeneratorStep (Named (Pair i w)) (Key (Diff i w))
  whole : IsGeneratorStep (Named Whole) (Key WholeSet)

-- the secret is that of a held name
abbrev pub IsHeld : List Name → Secret → Type 0
IsHeld held (Named name) = Contains held name
IsHeld held (Key name) = ⊥

-- the secret is derivable from the held names, by the steps of the generator [Naor, Naor, Lotspiech 2001, 3.2]
unfoldable pub IsReached : List Name → Secret → Type 0
IsReached held secret = IsDerived (IsHeld held) IsGeneratorStep secret

-- the name of the secret that a set's key is made from
abbrev pub source_of : SetName → Name
source_of WholeSet = Whole
source_of (Diff i j) = Pair i j

-- of the sets of a tree of height d just those of leaf u have their key, and what it is made from, reached [Naor, Naor,
-- Lotspiech 2001, 3.2]
pub record ReachesItsSets (d u : ℕ) (held : List Name) : Type 0 where
  pub source : (name : SetName) → IsOfHeight d name → IsReached held (Named (source_of name))
      ↔ (is_member d name u ≡ true)
  pub key : (name : SetName) → IsOfHeight d name → IsReached held (Key name) ↔ (is_member d name u ≡ true)

-- of none of the sets is the key, or what it is made from, reached from the held names
abbrev pub ReachesNoneOf : List Name → List SetName → Type 0
ReachesNoneOf held sets = (name : SetName) → Contains sets name → ¬ IsReached held (Named (source_of name))
    × ¬ IsReached held (Key name)

-- the secret is derivable from this one name: a label leads to those of all nodes below and to their keys [Naor, Naor,
-- Lotspiech 2001, 3.2]
abbrev pub DerivesSecret : Name → Secret → Type 0
DerivesSecret Whole (Named Whole) = Unit {0}
DerivesSecret Whole (Named (Pair k v)) = ⊥
DerivesSecret Whole (Key WholeSet) = Unit {0}
DerivesSecret Whole (Key (Diff k v)) = ⊥
DerivesSecret (Pair i w) (Named Whole) = ⊥
DerivesSecret (Pair i w) (Named (Pair k v)) = (i ≡ k) × ((w ≡ v) ⊎ ((1 ≤ w) × IsAbove w v))
DerivesSecret (Pair i w) (Key WholeSet) = ⊥
DerivesSecret (Pair i w) (Key (Diff k v)) = (i ≡ k) × ((1 ≤ w) × IsAbove w v)
