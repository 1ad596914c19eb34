use Rattle.sd_law_broadcast.proofs.Clear.{clear_short, clear_pids, clear_words}
use Rattle.sd_law_broadcast.proofs.laws.clear_streams_are_bounded.Goals as goal

pub returns : goal.returns
returns c = record { packets = clear_short; pids = clear_pids; words = clear_words }
