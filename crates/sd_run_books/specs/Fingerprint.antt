-- Public meaning: the fingerprint of a master, by which a card and a site are compared without a secret [this project,
-- docs/FORMATS.md, Card].
use Rattle.std.specs.Prelude.{ℕ, List, take, drop}
use Rattle.sd_tree_keys.specs.Keys.{check_value_of, whole_key_of}

-- the check value of the key of the whole set
abbrev pub fingerprint_of : List ℕ → List ℕ
fingerprint_of master = check_value_of (whole_key_of master)

-- the key of the whole set in a card's file: its first secret, after 12 other bytes
abbrev pub whole_key_in : List ℕ → List ℕ
whole_key_in bytes = take 32 (drop 12 bytes)

-- the fingerprint that a card's file gives
abbrev pub fingerprint_in : List ℕ → List ℕ
fingerprint_in bytes = check_value_of (whole_key_in bytes)
