use Rattle.sd_law_broadcast.proofs.Taken.{broadcast_taken, body_taken}
use Rattle.sd_law_broadcast.proofs.laws.broadcasts_are_taken.Goals as goal

pub returns-clause-whole : goal.returns-clause-whole
returns-clause-whole c = broadcast_taken

pub returns-clause-body : goal.returns-clause-body
returns-clause-body c = body_taken
