use Rattle.sd_head.proofs.Chained.{whole_written, whole_clear, whole_ended}
use Rattle.sd_head.proofs.laws.whole_streams_are_broadcast.Goals as goal

pub returns : goal.returns
returns c = record { value = whole_written; clear = whole_clear; end = whole_ended }
