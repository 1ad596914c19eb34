use Rattle.sd_law_broadcast.proofs.Sendable.{clear_sendable, clear_exactly}
use Rattle.sd_law_broadcast.proofs.laws.clear_streams_are_sendable.Goals as goal

pub returns : goal.returns
returns c = record { sendable = clear_sendable; clear = clear_exactly }
