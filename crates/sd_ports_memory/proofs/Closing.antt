-- What a closed port of a depot in memory leaves of its bytes.
use Rattle.std.proofs.Common.{◌≡◌, ℕ, List, [], ap, append-nil, take, drop}
use Rattle.std.proofs.lemmas.List.{take-append-drop}
use Rattle.std.specs.Prelude.{Option, None, Some}
use Rattle.std.specs.FinMap.{insert}
use Rattle.sd_ports.specs.Files.{Files, ClosesFile, LeavesPrefix}

-- all is a prefix, too
pub closes_prefix : (b c : Option Files) (name : List ℕ) (k : Option (List ℕ)) → ClosesFile b c name k
    → LeavesPrefix b c name k
closes_prefix None c name k p = p
closes_prefix (Some m) c name None p = p
closes_prefix (Some m) c name (Some y) p = (y, ([], append-nil y), p)

-- the first of what a port of told files held are a prefix of it
pub half_stays : (m n : Files) (name held : List ℕ) (k : ℕ) → n ≡ insert m name (take k held)
    → LeavesPrefix (Some m) (Some n) name (Some held)
half_stays m n name held k e =
    (take k held, (drop k held, take-append-drop k held), ap (λ (r : Files). Some r) e)
