use Rattle.std.proofs.Common.{◌<◌, ◌^◌}
use Rattle.std.proofs.lemmas.List.Elements.{All-contains}
use Rattle.sd_cover_tracing.proofs.Paths.{stands_in}
use Rattle.sd_cover_tracing.proofs.Bridge.{counts_in_tree}
use Rattle.sd_law_covers.proofs.covers.counts_tell_the_tree.Goals as goal

pub returns : goal.returns
returns c = λ d revoked v small leaves low high.
    let level = stands_in d v low high in
    counts_in_tree d level.0 v revoked small (λ u m. All-contains (λ w. w < 2 ^ d) revoked u leaves m) level.1
