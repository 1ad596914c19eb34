use Rattle.std.proofs.Common.{◌≡◌, ◌++◌, replicate}
use Rattle.sd_field.proofs.script.push_run.Given as goal

abbrev pub invariant-loop-turn : goal.invariant-loop-turn
invariant-loop-turn l = l.events.items ≡ l.fn.events.items ++ replicate l._turn l.event
