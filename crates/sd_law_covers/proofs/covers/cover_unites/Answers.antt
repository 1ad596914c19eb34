use Rattle.std.proofs.Common.{◌^◌, ◌<◌}
use Rattle.std.proofs.lemmas.List.Elements.{All-contains}
use Rattle.sd_cover_tracing.proofs.Covers.{cover_partition}
use Rattle.sd_law_covers.proofs.covers.cover_unites.Goals as goal

pub returns : goal.returns
returns c =
    λ d revoked sets small leaves cover. cover_partition d revoked sets small
    (λ u m. All-contains (λ w. w < 2 ^ d) revoked u leaves m) cover
