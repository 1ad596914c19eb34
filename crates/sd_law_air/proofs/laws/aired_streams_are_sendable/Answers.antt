use Rattle.sd_law_air.proofs.Sendable.{aired_long, aired_synced}
use Rattle.sd_law_air.proofs.laws.aired_streams_are_sendable.Goals as goal

pub returns-clause-whole : goal.returns-clause-whole
returns-clause-whole c = aired_long

pub returns-clause-synced : goal.returns-clause-synced
returns-clause-synced c = aired_synced
