use Rattle.std.proofs.Common.{◌∙◌}
use Rattle.sd_command_line.proofs.Finding.{named_here, named_later}
use Rattle.sd_command_line.proofs.command.named.Goals as goal

pub returns-then-eq : goal.returns-then-eq
returns-then-eq c =
    named_here c.args.word.now c.args.commands.now c.loop-command.command-index _ c.loop-command-test.true
    (rw c.name.ensures at c.if-eq.ensures) ∙ c.loop-command.invariant

pub loop-command-preserved : goal.loop-command-preserved
loop-command-preserved c =
    named_later c.args.word.now c.args.commands.now c.loop-command.command-index _ c.loop-command-test.true
    (rw c.name.ensures at c.if-eq.ensures) ∙ c.loop-command.invariant
