use Rattle.sd_law_run.proofs.Lost.{rest_confirmed}
use Rattle.sd_law_run.proofs.Losing.{lost_part}
use Rattle.sd_law_run.proofs.Parts.{all_sendable}
use Rattle.sd_command_base.specs.Spec.{contents_of}
use Rattle.sd_law_run.proofs.losses.losses_are_received.Goals as goal

pub returns-clause-meant : goal.returns-clause-meant
returns-clause-meant c plan u clear flags words files is all whole synced leaf rest =
    rest_confirmed plan u clear flags words (contents_of files) is all whole synced leaf rest

pub returns-clause-receive : goal.returns-clause-receive
returns-clause-receive c names plan u clear z a b flags answer given leaf card_there stream_there answers well =
    lost_part names plan clear (all_sendable names plan clear z given) u flags a b answer leaf card_there stream_there
    answers well
