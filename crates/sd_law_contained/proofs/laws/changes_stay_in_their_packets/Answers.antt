use Rattle.sd_law_contained.proofs.Payloads.{behind_five, no_change}
use Rattle.sd_law_contained.proofs.laws.changes_stay_in_their_packets.Goals as goal

pub returns-clause-payload : goal.returns-clause-payload
returns-clause-payload c = behind_five

pub returns-clause-unchanged : goal.returns-clause-unchanged
returns-clause-unchanged c = no_change
