use Rattle.std.proofs.Common.{◌^◌, ◌<◌, get_or}
use Rattle.std.proofs.lemmas.List.Elements.{All-contains, Contains-get_or}
use Rattle.sd_cover_tracing.proofs.Heights.{of_height}
use Rattle.sd_law_covers.proofs.covers.sets_are_of_height.Goals as goal

pub returns : goal.returns
returns c =
    λ d revoked sets leaves cover. λ k other within. of_height d revoked sets
    (λ u m. All-contains (λ w. w < 2 ^ d) revoked u leaves m) cover (get_or sets k other)
    (Contains-get_or sets k other within)
