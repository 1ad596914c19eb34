use Rattle.sd_law_chain.proofs.OneChannel.{arrivals_are_pieces, arrivals_are_runs}
use Rattle.sd_law_chain.proofs.channels.chains_are_one_channel.Goals as goal

pub returns-clause-whole : goal.returns-clause-whole
returns-clause-whole c = arrivals_are_runs

pub returns-clause-pieces : goal.returns-clause-pieces
returns-clause-pieces c = arrivals_are_pieces
