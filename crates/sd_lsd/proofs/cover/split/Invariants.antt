use Rattle.std.proofs.Common.{◌≡◌, take}
use Rattle.std.specs.List.{flat_map}
use Rattle.sd_lsd.specs.Layers.{split_of}
use Rattle.sd_lsd.proofs.cover.split.Given as goal

abbrev pub invariant-loop-name : goal.invariant-loop-name
invariant-loop-name l = l.parts.items ≡ flat_map (split_of l.w) (take l.name-index l.sets)
