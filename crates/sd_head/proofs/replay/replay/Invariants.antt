use Rattle.std.proofs.Common.{◌≡◌, ◌++◌, ◌+◌, ◌*◌, ◌≤◌, List, take}
use Rattle.sd_book.specs.declared.command.Command.{Command}
use Rattle.sd_book.specs.Commands.{revoked_after}
use Rattle.sd_head.proofs.replay.replay.Given as goal

-- the commands so far are taken
abbrev pub invariant-loop-command : goal.invariant-loop-command
invariant-loop-command g l = record {
  height : l.index.height ≡ l.fn.index.height;
  value : (before : List Command) → l.fn.index.revoked ≡ revoked_after l.fn.index.height before →
      l.index.revoked ≡ revoked_after l.fn.index.height (before ++ take l.command-index l.commands);
  steps : l.steps ≤ l.fn.steps + l.command-index * (l.fn.index.height + 2);
}
