use Rattle.std.proofs.Common.{◌^◌, ◌<◌}
use Rattle.std.proofs.lemmas.List.Elements.{All-contains}
use Rattle.sd_lsd.proofs.Covers.{layer_cover_small}
use Rattle.sd_law_covers.proofs.layers.layer_cover_is_small.Goals as goal

pub returns : goal.returns
returns c = λ d w revoked sets low some leaves is.
    layer_cover_small d w revoked low some (λ u m. All-contains (λ v. v < 2 ^ d) revoked u leaves m) sets is
