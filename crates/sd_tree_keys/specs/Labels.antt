-- Public meaning: the labels of pairs of nodes [Naor, Naor, Lotspiech 2001, 3.2], by SHA-256 [FIPS
-- 180-4] as the three-way generator.
use Rattle.std.specs.Prelude.{ℕ, zero, suc, ◌-◌, ◌/◌, ◌%◌, ◌==◌, if◌then◌else◌, List, [], ◌∷◌, ◌++◌}
use Rattle.std.specs.Int.{w32, to_be_bytes}
use Rattle.sha2.specs.Sha256.{sha256}
use Rattle.sd_tree_keys.specs.Node.{depth}
use Rattle.sd_tree_keys.specs.declared.label.Side.{Side}
use Rattle.sd_tree_keys.specs.declared.label.Side.TheVariants.{Left, Right}

-- the left third of the generator, the hash with the byte L [FIPS 180-4; this project, docs/FORMATS.md, Keys and
-- labels]
unfoldable pub left_of : List ℕ → List ℕ
left_of label = sha256 (label ++ 0x4c ∷ [])

-- its right third, the hash with the byte R [FIPS 180-4; this project, docs/FORMATS.md, Keys and labels]
unfoldable pub right_of : List ℕ → List ℕ
right_of label = sha256 (label ++ 0x52 ∷ [])

-- its middle third, the hash with the byte M: the key that belongs to the label
-- [FIPS 180-4; this project, docs/FORMATS.md, Keys and labels]
unfoldable pub middle_of : List ℕ → List ℕ
middle_of label = sha256 (label ++ 0x4d ∷ [])

-- the third that is the label of a child [Naor, Naor, Lotspiech 2001, 3.2]
abbrev pub third_of : Side → List ℕ → List ℕ
third_of Left label = left_of label
third_of Right label = right_of label

-- which child a node is: the children of v are 2v and 2v + 1 [Naor, Naor, Lotspiech 2001, 3.2]
abbrev pub side_of : ℕ → Side
side_of v = if v % 2 == 0 then Left else Right

-- the label of node i, the hash with the byte I and i's four bytes [FIPS 180-4; this project,
-- docs/FORMATS.md, Keys and labels]
unfoldable pub label_of_node : List ℕ → ℕ → List ℕ
label_of_node master i = sha256 (master ++ 0x49 ∷ to_be_bytes w32 i)

-- the label of node j where the node k levels above it has this label: a third of the label of j's parent [Naor, Naor,
-- Lotspiech 2001, 3.2]
unfoldable pub label_below : List ℕ → ℕ → ℕ → List ℕ
label_below label zero j = label
label_below label (suc k) j = third_of (side_of j) (label_below label k (j / 2))

-- the label of node j where the node above it that has this label is given [Naor, Naor, Lotspiech 2001, 3.2]
unfoldable pub descended : List ℕ → ℕ → ℕ → List ℕ
descended label from j = label_below label (depth j - depth from) j

-- the label of the pair of node i and a node j below it [Naor, Naor, Lotspiech 2001, 3.2]
unfoldable pub label_of : List ℕ → ℕ → ℕ → List ℕ
label_of master i j = descended (label_of_node master i) i j
