use Rattle.sd_receive.proofs.HoldKeeping.{clear_again}
use Rattle.sd_receive.proofs.buffer.tracked.TrackedPackets.open.Goals as goal

pub start-requires-clause-clear : goal.start-requires-clause-clear
start-requires-clause-clear c =
    rw c.deref_mut.ensures.value (clear_again c.reset.new.self c.reset.ensures.kept c.reset.ensures.places
    c.reset.ensures.held)
