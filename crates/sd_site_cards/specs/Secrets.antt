-- Public meaning: the secrets of names, and the keys that they lead to.
use Rattle.std.specs.Prelude.{◌≡◌, ℕ, ◌+◌, ◌-◌, ◌/◌, ◌^◌, ◌==◌, ◌&&◌, Bool, List, [], ◌∷◌, get_or, slice_get, Some}
use Rattle.std.specs.Prelude.{if◌then◌else◌}
use Rattle.sd_tree_keys.specs.Node.{depth, IsAbove}
use Rattle.sd_tree_keys.specs.declared.set.SetName.{SetName}
use Rattle.sd_tree_keys.specs.declared.set.SetName.TheVariants.{Whole as WholeSet, Diff}
use Rattle.sd_tree_keys.specs.Keys.{whole_key_of}
use Rattle.sd_tree_keys.specs.Labels.{label_of, descended, middle_of}
use Rattle.sd_tree_keys.specs.declared.name.Name.{Name}
use Rattle.sd_tree_keys.specs.declared.name.Name.TheVariants.{Whole, Pair}

-- the secret of a name: the whole key, or the label of the pair [Naor, Naor, Lotspiech 2001, 3.2]
unfoldable pub secret_of : List ℕ → Name → List ℕ
secret_of master Whole = whole_key_of master
secret_of master (Pair i w) = label_of master i w

-- of these names and their secrets, in the same order, this secret is of the name
abbrev pub HoldsSecret : List Name → List (List ℕ) → Name → List ℕ → Type 0
HoldsSecret names secrets name secret = (k : ℕ) × (slice_get names k ≡ Some name) × (slice_get secrets k ≡ Some secret)

-- The key of S(i,j), by some steps: from the label (i,w) that is held, where w is j or above it, down to the label of
-- (i,j) and its middle third [Naor, Naor, Lotspiech 2001, 3.2]
pub record DerivesPair (names : List Name) (secrets : List (List ℕ)) (i j : ℕ) (key : List ℕ) (taken : ℕ) : Type 0 where
  pub node : ℕ
  pub label : List ℕ
  pub held : HoldsSecret names secrets (Pair i node) label
  pub above : IsAbove node j
  pub value : key ≡ middle_of (descended label node j)
  pub steps : taken ≡ depth j - depth node + 1

-- the key of a set, by some steps: the whole set's is the first secret
abbrev pub DerivesKey : List Name → List (List ℕ) → SetName → List ℕ → ℕ → Type 0
DerivesKey names secrets WholeSet key taken = (slice_get secrets 0 ≡ Some key) × (taken ≡ 0)
DerivesKey names secrets (Diff i j) key taken = DerivesPair names secrets i j key taken

-- whether node w is j or an ancestor of j: the halvings between their depths lead from j to w
abbrev pub is_at_or_above : ℕ → ℕ → Bool
is_at_or_above w j = j / 2 ^ (depth j - depth w) == w

-- the key of S(i,j) from the first of these names, with their secrets in the same order, that leads to it
-- [Naor, Naor, Lotspiech 2001, 3.2]
unfoldable pub key_among : List Name → List (List ℕ) → ℕ → ℕ → List ℕ
key_among [] secrets i j = []
key_among (name ∷ names) [] i j = []
key_among (Whole ∷ names) (secret ∷ secrets) i j = key_among names secrets i j
key_among (Pair k w ∷ names) (secret ∷ secrets) i j =
    if (k == i) && is_at_or_above w j then middle_of (descended secret w j) else key_among names secrets i j

-- the key of a set as a function of the names and their secrets: the whole set's is the first secret
unfoldable pub key_held : List Name → List (List ℕ) → SetName → List ℕ
key_held names secrets WholeSet = get_or secrets 0 []
key_held names secrets (Diff i j) = key_among names secrets i j
