-- The sets of a period.
use Rattle.std.proofs.Common.{arith, ℕ, ◌^◌, ◌<◌, ◌≤◌, List, length}
use Rattle.std.specs.Prelude.{Contains}
use Rattle.std.proofs.lemmas.List.Elements.{All-contains}
use Rattle.sd_tree_keys.specs.Leaves.{unrevoked}
use Rattle.sd_book.specs.declared.command.Command.{Command}
use Rattle.sd_book.specs.Commands.{revoked}
use Rattle.sd_book.proofs.Revocations.{below}
use Rattle.sd_cover_tracing.specs.Cover.{cover_of}
use Rattle.sd_cover_tracing.specs.Partition.{IsPartition, IsSmall}
use Rattle.sd_cover_tracing.proofs.Covers.{cover_partition, cover_small}
use Rattle.sd_cover_tracing.proofs.There.{list_is_cover}

-- the sets of a period unite to the leaves that are not revoked, and are few
pub sets_unite : (d q : ℕ) (commands : List Command) → d ≤ 20 →
    IsPartition d (cover_of d (revoked d commands q)) (unrevoked d (revoked d commands q))
    × IsSmall (cover_of d (revoked d commands q)) (length (revoked d commands q))
sets_unite d q commands low =
    let leaves = revoked d commands q in
    let inside : (u : ℕ) → Contains leaves u → u < 2 ^ d =
    λ u m. All-contains (λ w. w < 2 ^ d) leaves u (below d commands q) m in
    let cover = list_is_cover d leaves (omega (arith, low)) inside in (
      cover_partition d leaves (cover_of d leaves) (omega (arith, low)) inside cover,
      cover_small d leaves (cover_of d leaves) (omega (arith, low)) inside cover,
    )
