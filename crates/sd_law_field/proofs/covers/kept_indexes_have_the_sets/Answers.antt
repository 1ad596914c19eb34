use Rattle.sd_law_field.proofs.Changed.{index_after, index_at_end}
use Rattle.sd_law_field.proofs.covers.kept_indexes_have_the_sets.Goals as goal

pub returns : goal.returns
returns c = record { after = index_after; end = index_at_end }
