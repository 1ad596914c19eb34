use Rattle.std.proofs.Common.{◌^◌, ◌<◌}
use Rattle.std.proofs.lemmas.List.Elements.{All-contains}
use Rattle.sd_lsd.proofs.Reaching.{cover_reached}
use Rattle.sd_law_covers.proofs.layers.layer_cover_reached.Goals as goal

pub returns : goal.returns
returns c = λ d w revoked sets u low some leaves cover leaf.
    cover_reached d w revoked sets u low some (λ v m. All-contains (λ n. n < 2 ^ d) revoked v leaves m) cover leaf
