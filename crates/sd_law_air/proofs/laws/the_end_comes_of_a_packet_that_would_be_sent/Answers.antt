use Rattle.sd_law_air.proofs.Ending.{ends_exactly}
use Rattle.sd_law_air.proofs.laws.the_end_comes_of_a_packet_that_would_be_sent.Goals as goal

pub returns-clause-ends : goal.returns-clause-ends
returns-clause-ends c = ends_exactly
