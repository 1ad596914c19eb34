use Rattle.std.proofs.Common.{◌≡◌, ◌≤◌}
use Rattle.sd_book.specs.Commands.{last_period}
use Rattle.sd_command_base.proofs.replay.replay_from.Given as goal

-- so many periods were taken
abbrev pub invariant-loop : goal.invariant-loop
invariant-loop l =
    (l.periods.height ≡ l.fn.book.height) × (l.periods.commands ≡ l.fn.book.commands) × (l.periods.next ≡ l.counter)
    × (l.counter ≤ l.fn.q) × (l.fn.q ≤ last_period l.fn.book.commands)
