-- Public meaning: the keys, by SHA-256 of a master.
use Rattle.std.specs.Prelude.{ℕ, List, [], ◌∷◌, ◌++◌, take}
use Rattle.std.specs.Int.{w32, to_be_bytes}
use Rattle.sha2.specs.Sha256.{sha256}
use Rattle.sd_tree_keys.specs.declared.set.SetName.{SetName}
use Rattle.sd_tree_keys.specs.declared.set.SetName.TheVariants.{Whole, Diff}
use Rattle.sd_tree_keys.specs.Labels.{middle_of, label_of}

-- the key of the whole set, the hash with the byte A [FIPS 180-4; this project, docs/FORMATS.md, Keys and labels]
unfoldable pub whole_key_of : List ℕ → List ℕ
whole_key_of master = sha256 (master ++ 0x41 ∷ [])

-- the key of a set: of S(i,j) the middle third of the label of (i,j) [Naor, Naor, Lotspiech 2001, 3.2]
unfoldable pub key_of : List ℕ → SetName → List ℕ
key_of master Whole = whole_key_of master
key_of master (Diff i j) = middle_of (label_of master i j)

-- the key of period q, the hash with the byte P and q's four bytes [FIPS 180-4; this project, docs/FORMATS.md, Keys and
-- labels]
unfoldable pub period_key_of : List ℕ → ℕ → List ℕ
period_key_of master q = sha256 (master ++ 0x50 ∷ to_be_bytes w32 q)

-- the control word of crypto period t, the hash with the byte C and t's four bytes
-- [FIPS 180-4; this project, docs/FORMATS.md, Keys and labels]
unfoldable pub control_word_of : List ℕ → ℕ → List ℕ
control_word_of master t = sha256 (master ++ 0x43 ∷ to_be_bytes w32 t)

-- the check value of a key: the first 16 bytes of its hash with the byte V
-- [FIPS 180-4; this project, docs/FORMATS.md, Keys and labels]
unfoldable pub check_value_of : List ℕ → List ℕ
check_value_of key = take 16 (sha256 (key ++ 0x56 ∷ []))
