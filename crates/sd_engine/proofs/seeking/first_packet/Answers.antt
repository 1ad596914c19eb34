use Rattle.sd_engine.proofs.Begins.{first_taken}
use Rattle.sd_engine.proofs.seeking.first_packet.Goals as goal

pub returns : goal.returns
returns c = first_taken _ _ _ c.in_ok-first.ensures.cases c.new.ensures.none c.new.ensures.value
