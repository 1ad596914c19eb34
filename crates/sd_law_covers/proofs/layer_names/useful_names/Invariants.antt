use Rattle.std.proofs.Common.{◌≡◌, take}
use Rattle.std.specs.Prelude.{filter}
use Rattle.sd_lsd.specs.LayerNames.{is_useful_name}
use Rattle.sd_law_covers.proofs.layer_names.useful_names.Given as goal

abbrev pub invariant-loop-name : goal.invariant-loop-name
invariant-loop-name l = l.kept.items ≡ filter (is_useful_name l.w) (take l.name-index l.names)
