use Rattle.std.proofs.Common.{◌^◌, ◌<◌, get_or}
use Rattle.std.proofs.lemmas.List.Elements.{All-contains, Contains-get_or}
use Rattle.sd_lsd.proofs.Covers.{layer_cover_useful}
use Rattle.sd_law_covers.proofs.layers.layer_cover_is_useful.Goals as goal

pub returns : goal.returns
returns c = λ d w revoked sets low some leaves is. λ k x within.
    let part = layer_cover_useful d w revoked low some (λ u m. All-contains (λ v. v < 2 ^ d) revoked u leaves m) sets is
    (get_or sets k x) (Contains-get_or sets k x within) in
    (part.height, part.useful)
