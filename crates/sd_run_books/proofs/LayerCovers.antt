-- The sets of a period in layers.
use Rattle.std.proofs.Common.{◌≡◌, ℕ, ◌^◌, ◌<◌, ◌≤◌, List, length, get_or, true, refl}
use Rattle.std.specs.Prelude.{All, Contains}
use Rattle.std.proofs.lemmas.List.Elements.{All-contains, Contains-get_or}
use Rattle.sd_tree_keys.specs.Limits.{highest}
use Rattle.sd_tree_keys.specs.declared.set.SetName.{SetName}
use Rattle.sd_tree_keys.specs.Leaves.{unrevoked}
use Rattle.sd_tree_keys.specs.SetNames.{IsOfHeight}
use Rattle.sd_book.specs.declared.command.Command.{Command}
use Rattle.sd_book.specs.Commands.{revoked}
use Rattle.sd_book.proofs.Revocations.{below}
use Rattle.sd_cover_tracing.specs.Partition.{IsPartition}
use Rattle.sd_lsd.specs.Layers.{is_useful}
use Rattle.sd_lsd.specs.Cover.{IsLayerCover, IsDoubleSmall, layer_cover_of}
use Rattle.sd_lsd.proofs.Covers.{cover_listed, layer_cover_useful, layer_cover_unites, layer_cover_small}

-- the useful sets of a cover are of the tree's height
pub cover_of_height : (d w : ℕ) (revoked : List ℕ) (sets : List SetName) → d ≤ highest → 1 ≤ w →
    All (λ u. u < 2 ^ d) revoked → IsLayerCover d w revoked sets → All (IsOfHeight d) sets
cover_of_height d w revoked sets low some leaves cover = λ k x within.
    let part = layer_cover_useful d w revoked low some (λ u m. All-contains (λ v. v < 2 ^ d) revoked u leaves m) sets
    cover (get_or sets k x) (Contains-get_or sets k x within) in
    part.height

-- the revoked leaves of a period are of the tree
of_tree : (d q : ℕ) (commands : List Command) (u : ℕ) → Contains (revoked d commands q) u → u < 2 ^ d
of_tree d q commands u m = All-contains (λ v. v < 2 ^ d) (revoked d commands q) u (below d commands q) m

-- the list is their cover by useful sets
listed : (d w q : ℕ) (commands : List Command) → d ≤ highest → 1 ≤ w →
    IsLayerCover d w (revoked d commands q) (layer_cover_of d w (revoked d commands q))
listed d w q commands low some =
    (cover_listed d w (revoked d commands q) (layer_cover_of d w (revoked d commands q)) low some
    (of_tree d q commands)).1 refl

-- its sets are useful and of the tree's height
pub all_useful : (d w q : ℕ) (commands : List Command) → d ≤ highest → 1 ≤ w →
    All (λ name. IsOfHeight d name × (is_useful w name ≡ true)) (layer_cover_of d w (revoked d commands q))
all_useful d w q commands low some = λ k x within.
    let sets = layer_cover_of d w (revoked d commands q) in
    let part = layer_cover_useful d w (revoked d commands q) low some (of_tree d q commands) sets
    (listed d w q commands low some) (get_or sets k x) (Contains-get_or sets k x within) in
    (part.height, part.useful)

-- they unite to the leaves that are not revoked
pub sets_unite : (d w q : ℕ) (commands : List Command) → d ≤ highest → 1 ≤ w →
    IsPartition d (layer_cover_of d w (revoked d commands q)) (unrevoked d (revoked d commands q))
sets_unite d w q commands low some =
    layer_cover_unites d w (revoked d commands q) low some (of_tree d q commands)
    (layer_cover_of d w (revoked d commands q)) (listed d w q commands low some)

-- and are few
pub sets_few : (d w q : ℕ) (commands : List Command) → d ≤ highest → 1 ≤ w →
    IsDoubleSmall (layer_cover_of d w (revoked d commands q)) (length (revoked d commands q))
sets_few d w q commands low some =
    layer_cover_small d w (revoked d commands q) low some (of_tree d q commands)
    (layer_cover_of d w (revoked d commands q)) (listed d w q commands low some)
