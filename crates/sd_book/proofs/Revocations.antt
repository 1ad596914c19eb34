use Rattle.std.proofs.Common.{ℕ, ◌<◌, ◌^◌, List}
use Rattle.std.specs.List.{All}
use Rattle.std.specs.List.Sorted.{IsStrictlyIncreasing}
use Rattle.std.proofs.lemmas.List.Elements.{All-filter}
use Rattle.std.proofs.lemmas.List.Kept.{IsStrictlyIncreasing-filter}
use Rattle.sd_tree_keys.specs.Leaves.{leaves}
use Rattle.sd_tree_keys.proofs.Members.{leaves_below, leaves_ascending}
use Rattle.sd_book.specs.declared.command.Command.{Command}
use Rattle.sd_book.specs.Commands.{revoked, is_revoked, commands_until}

-- each revoked leaf is below 2^d
pub below : (d : ℕ) (commands : List Command) (q : ℕ) → All (λ u. u < 2 ^ d) (revoked d commands q)
below d commands q = All-filter (is_revoked (commands_until q commands)) (λ u. u < 2 ^ d) (leaves d) (leaves_below d)

-- the revoked leaves are ascending
pub ascending : (d : ℕ) (commands : List Command) (q : ℕ) → IsStrictlyIncreasing (revoked d commands q)
ascending d commands q = IsStrictlyIncreasing-filter (is_revoked (commands_until q commands)) (leaves d)
    (leaves_ascending d)
