use Rattle.std.proofs.Common.{◌≡◌, ◌≤◌, ◌-◌, ◌++◌, take, drop}
use Rattle.sd_book.specs.Commands.{commands_until}
use Rattle.sd_book.proofs.periods.until.Given as goal

-- those so far, and of those that are left the ones that decide the periods that are left
abbrev pub invariant-loop-i : goal.invariant-loop-i
invariant-loop-i l = record {
  period : l.period ≤ l.q;
  rest : take l.i l.commands ++ commands_until (l.q - l.period) (drop l.i l.commands) ≡ commands_until l.q l.commands;
}
