use Rattle.sd_receive.proofs.PidBits.{has_none}
use Rattle.sd_receive.proofs.buffer.pid_set.PidSet.none.Goals as goal

pub returns : goal.returns
returns c = λ pid small. has_none pid small
