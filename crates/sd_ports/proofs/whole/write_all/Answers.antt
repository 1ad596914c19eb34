use Rattle.std.proofs.Common.{rules}
use Rattle.sd_ports.proofs.Rooms.{too_long, more_taken, none_taken}
use Rattle.sd_ports.proofs.Portions.{appends_more, appends_prefix}
use Rattle.sd_ports.proofs.whole.write_all.Goals as goal

pub returns-in-Err-clause-prefix : goal.returns-in-Err-clause-prefix
returns-in-Err-clause-prefix g c =
    appends_prefix _ _ _ c.args.bytes.now c.loop-done.done c.loop-done.invariant.written c.in-Err.ensures.bytes

pub loop-done-preserved : goal.loop-done-preserved
loop-done-preserved g c = search (rules, appends_more, none_taken, more_taken, too_long)
