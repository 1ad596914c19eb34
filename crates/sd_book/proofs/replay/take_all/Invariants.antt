use Rattle.std.proofs.Common.{◌≡◌, ◌++◌, ℕ, true, List, take}
use Rattle.std.specs.Prelude.{All}
use Rattle.sd_book.specs.declared.command.Command.{Command}
use Rattle.sd_book.specs.Commands.{is_within, revoked_after}
use Rattle.sd_book.proofs.replay.take_all.Given as goal

-- the commands so far are taken
abbrev pub invariant-loop-command : goal.invariant-loop-command
invariant-loop-command l =
    (d : ℕ) (before : List Command) → l.fn.revoked.keys ≡ revoked_after d before →
    All (λ command. is_within d command ≡ true) l.commands →
    l.revoked.keys ≡ revoked_after d (before ++ take l.command-index l.commands)
