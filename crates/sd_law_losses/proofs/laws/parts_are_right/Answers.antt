use Rattle.sd_law_losses.proofs.HeardParts.{some_part, part_stands, parts_right, parts_tell}
use Rattle.sd_law_losses.proofs.laws.parts_are_right.Goals as goal

pub returns : goal.returns
returns c = record { some = some_part; order = part_stands; fault = parts_right; whole = parts_tell }
