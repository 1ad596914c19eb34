-- The nodes of a leaf's path, and their siblings.
use Rattle.std.proofs.Common.{ℕ, ◌+◌, ◌-◌, ◌/◌, ◌%◌, ◌^◌, ◌<◌, ◌≤◌, ◌≡◌, ◌≢◌, refl, ap, ◌∙◌, ⊎_elim, arith}
use Rattle.std.proofs.Math.Pow.{shr-shr}
use Rattle.std.proofs.lemmas.Nat.{pow_pos}
use Rattle.std.proofs.lemmas.Bool.{cases_lt}
use Rattle.sd_tree_keys.specs.Node.{depth, IsAbove, IsProperlyAbove}
use Rattle.sd_tree_keys.proofs.Levels.{IsAtLevel, same_level, halved_level, depth_at}
use Rattle.sd_tree_keys.proofs.Ancestors.{leaf_level}
use Rattle.sd_tree_keys.specs.Paths.{path_node, sibling_of}

-- the path node at depth k stands at depth k
pub path_level : (d u k : ℕ) → u < 2 ^ d → k ≤ d → IsAtLevel (path_node d u k) k
path_level d u k leaf le =
    let e : d - (d - k) ≡ k = omega arith in
    rw e at (halved_level (2 ^ d + u) d (d - k) (omega arith) (leaf_level d u leaf))

-- a leaf's node stands at the greatest depth
pub leaf_at_depth : (d u : ℕ) → d ≤ 20 → u < 2 ^ d → depth (2 ^ d + u) ≡ d
leaf_at_depth d u low leaf = depth_at (2 ^ d + u) d (omega arith) (leaf_level d u leaf)

-- so that is its depth, in a tree of at most 20 levels below the root
pub path_depth : (d u k : ℕ) → d ≤ 20 → u < 2 ^ d → k ≤ d → depth (path_node d u k) ≡ k
path_depth d u k low leaf le = depth_at (path_node d u k) k (omega arith) (path_level d u k leaf le)

-- a path node is a node
pub path_is_node : (d u k : ℕ) → u < 2 ^ d → k ≤ d → 1 ≤ path_node d u k
path_is_node d u k leaf le = let at = path_level d u k leaf le in omega (arith, at.low, pow_pos k)

-- a path node is above the leaf's node or is it
pub path_over_leaf : (d u k : ℕ) → IsAbove (path_node d u k) (2 ^ d + u)
path_over_leaf d u k = (d - k, refl)

-- a path node is properly above those at greater depths
pub path_above : (d u a b : ℕ) → u < 2 ^ d → a < b → b ≤ d → IsProperlyAbove (path_node d u a) (path_node d u b)
path_above d u a b leaf less le =
    let s : d - b + (b - a) ≡ d - a = omega arith in (
      (b - a, shr-shr (2 ^ d + u) (d - b) (b - a) ∙ ap (λ (n : ℕ). (2 ^ d + u) / 2 ^ n) s),
      λ e. let same =
          same_level (path_node d u b) a b (rw e at (path_level d u a leaf (omega arith))) (path_level d u b leaf le) in
          omega arith,
    )

-- a node and its sibling have one parent
pub sibling_half : (v : ℕ) → sibling_of v / 2 ≡ v / 2
sibling_half v =
    ⊎_elim
    (λ (h : v % 2 < 1). let e : v % 2 ≡ 0 = omega arith in rw e (omega arith))
    (λ (h : 1 ≤ v % 2). let e : v % 2 ≡ 1 = omega arith in rw e (omega arith))
    (cases_lt (v % 2) 1)

-- a node isn't its own sibling
pub sibling_apart : (v : ℕ) → sibling_of v ≢ v
sibling_apart v =
    ⊎_elim
    (λ (h : v % 2 < 1). let e : v % 2 ≡ 0 = omega arith in rw e (λ same. omega arith))
    (λ (h : 1 ≤ v % 2). let e : v % 2 ≡ 1 = omega arith in rw e (λ same. omega arith))
    (cases_lt (v % 2) 1)

-- of two nodes with one parent each is the other's sibling
pub other_child : (v w : ℕ) → w / 2 ≡ v / 2 → w ≢ v → w ≡ sibling_of v
other_child v w half apart =
    ⊎_elim
    (λ (h : v % 2 < 1). let e : v % 2 ≡ 0 = omega arith in rw e (omega arith))
    (λ (h : 1 ≤ v % 2). let e : v % 2 ≡ 1 = omega arith in rw e (omega arith))
    (cases_lt (v % 2) 1)
