use Rattle.sd_head.specs.Staged.{plan_of_head}
use Rattle.sd_command_base.specs.Outcome.{status_of}
use Rattle.sd_run_broadcasts.proofs.Heading.{sends_left, port_caused}
use Rattle.sd_run_broadcasts.proofs.head_command.send.Goals as goal

pub returns-clause-value : goal.returns-clause-value
returns-clause-value g c =
    sends_left (plan_of_head c.args.head.now) _ _ c.drive.result (status_of c.told.result) c.requires
    c.drive.ensures.value
    c.told.ensures

pub returns-clause-cause : goal.returns-clause-cause
returns-clause-cause g c =
    port_caused _ _ _ _ c.drive.result (status_of c.told.result) c.told.ensures c.drive.ensures.read
    c.drive.ensures.written
