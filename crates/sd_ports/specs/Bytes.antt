-- Public meaning: bytes that a reader gives and a writer takes: a prefix, all, or those up to a limit.
use Rattle.std.specs.Prelude.{◌≡◌, ℕ, ◌<◌, nat_lt, Bool, List, ◌++◌, length, take, Option, None, Some}
use Rattle.std.specs.Io.KnownBytes.{Appends, Consumes, IsAtEnd}

-- the first bytes of others
abbrev pub IsPrefix : List ℕ → List ℕ → Type 0
IsPrefix prefix whole = (rest : List ℕ) × (prefix ++ rest ≡ whole)

-- what is held grew by a prefix of these bytes
abbrev pub AppendsPrefix : Option (List ℕ) → Option (List ℕ) → List ℕ → Type 0
AppendsPrefix old new bytes = (prefix : List ℕ) × IsPrefix prefix bytes × Appends old new prefix

-- what is left lost its first bytes, some or none
abbrev pub LosesPrefix : Option (List ℕ) → Option (List ℕ) → Type 0
LosesPrefix old new = (prefix : List ℕ) × Consumes old new prefix

-- these were all the bytes that were left
abbrev pub GivesAll : Option (List ℕ) → Option (List ℕ) → List ℕ → Type 0
GivesAll old new bytes = Consumes old new bytes × IsAtEnd new

-- a prefix that was taken of an input: its bytes, and whether a further byte was read
pub record Prefix : Type 0 where
  pub bytes : List ℕ
  pub more : Bool

-- the first of these bytes, at most so many
abbrev pub prefix_of : ℕ → List ℕ → Prefix
prefix_of most bytes = record { bytes = take most bytes; more = nat_lt most (length bytes) }

-- it was taken of what was left, where that is told
abbrev pub IsTakenFrom : ℕ → Option (List ℕ) → Prefix → Type 0
IsTakenFrom most None prefix = Unit {0}
IsTakenFrom most (Some left) prefix = prefix ≡ prefix_of most left

-- more bytes than these were left
abbrev pub IsLonger : Option (List ℕ) → ℕ → Type 0
IsLonger None most = Unit {0}
IsLonger (Some bytes) most = most < length bytes
