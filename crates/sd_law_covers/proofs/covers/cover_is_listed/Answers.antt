use Rattle.std.proofs.Common.{◌<◌, ◌^◌}
use Rattle.std.proofs.lemmas.List.Elements.{All-contains}
use Rattle.sd_cover_tracing.proofs.There.{the_cover}
use Rattle.sd_law_covers.proofs.covers.cover_is_listed.Goals as goal

pub returns : goal.returns
returns c = λ d revoked sets small leaves.
    the_cover d revoked sets small (λ u m. All-contains (λ w. w < 2 ^ d) revoked u leaves m)
