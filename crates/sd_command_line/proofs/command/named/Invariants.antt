use Rattle.std.proofs.Common.{◌≡◌, drop}
use Rattle.sd_command_line.specs.Commands.{first_named}
use Rattle.sd_command_line.proofs.command.named.Given as goal

-- none of the first of them has this name
abbrev pub invariant-loop-command : goal.invariant-loop-command
invariant-loop-command l =
    first_named l.word (drop l.command-index l.commands) ≡ first_named l.word l.commands
