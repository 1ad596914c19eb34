use Rattle.std.proofs.Common.{arith}
use Rattle.sd_head.proofs.clear.Clear.next_move.Goals as goal

pub advance-requires-clause-position : goal.advance-requires-clause-position
advance-requires-clause-position c =
    omega (arith, c.position_of-position.ensures, c.args.self.now.positions_near.at c.pid-pid.result)
