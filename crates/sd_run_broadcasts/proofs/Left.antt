-- What is left of a stream, and what was written so far.
use Rattle.std.proofs.Common.{◌≡◌, ℕ, List, [], ◌++◌, Option, Some, None, refl}
use Rattle.std.specs.Io.KnownBytes.{Appends, Consumes, IsAtEnd}
use Rattle.std.proofs.KnownBytes.{Appends-trans}
use Rattle.sd_ports.specs.Bytes.{IsPrefix, AppendsPrefix}
use Rattle.sd_ports.proofs.Starts.{prefix_of_prefix, after_first}
use Rattle.sd_engine.specs.Taken.{AreBytesLeft}

-- what was written is a prefix of all
pub prefix_of_all : (held mid held' : Option (List ℕ)) (first part whole : List ℕ) → Appends held mid first →
    AppendsPrefix mid held' part → IsPrefix (first ++ part) whole → AppendsPrefix held held' whole
prefix_of_all held mid held' first part whole wrote (bytes, short, more) all = (
  first ++ bytes,
  prefix_of_prefix (first ++ bytes) (first ++ part) whole (after_first first bytes part short) all,
  Appends-trans held mid held' first bytes wrote more,
)

pub short_of_all : (held held' : Option (List ℕ)) (first whole : List ℕ) → Appends held held' first →
    IsPrefix first whole →
    AppendsPrefix held held' whole
short_of_all held held' first whole wrote all = (first, all, wrote)

-- what is left of a source behind what was read
pub record LeftBehind (left now : Option (List ℕ)) (bytes : List ℕ) : Type 0 where
  pub rest : List ℕ
  pub is_left : AreBytesLeft left (bytes ++ rest)
  pub none : IsAtEnd now → rest ≡ []

pub left_behind : (left now : Option (List ℕ)) (bytes : List ℕ) → Consumes left now bytes → LeftBehind left now bytes
left_behind None now bytes read = record { rest = []; is_left = tt; none = λ end. refl }
left_behind (Some xs) None bytes read = absurd read
left_behind (Some xs) (Some ys) bytes read = record { rest = ys; is_left = read; none = λ end. end }
