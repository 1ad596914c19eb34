use Rattle.sd_law_broadcast.proofs.Using.{entries_are_used, parts_are_used}
use Rattle.sd_law_broadcast.proofs.practice.what_is_sent_is_used.Goals as goal

pub returns : goal.returns
returns c = record { entries = entries_are_used; parts = parts_are_used }
