use Rattle.std.proofs.Common.{◌∙◌, ◌≡◌, ◌++◌, ◌+◌, ◌*◌, ◌≤◌, ℕ, List, arith, subst, take}
use Rattle.std.proofs.lemmas.List.{take_all}
use Rattle.sd_book.specs.declared.command.Command.{Command}
use Rattle.sd_book.specs.Commands.{revoked_after}
use Rattle.sd_head.proofs.Replayed.{one_taken}
use Rattle.sd_head.proofs.replay.replay.Goals as goal

-- the steps of one command more
steps_more : (from so_far now i most : ℕ) → so_far ≤ from + i * most → now ≤ so_far + most →
    now ≤ from + (i + 1) * most
steps_more from so_far now i most before one = omega arith

pub loop-command-preserved : goal.loop-command-preserved
loop-command-preserved g c =
    let commands = c.args.commands.now in
    let i = c.loop-command.command-index in
    let so_far = c.loop-command.invariant in
    record {
      height = c.take.ensures.height ∙ so_far.height;
      value = λ before is. subst (λ (taken : List Command). c.take.new.index.revoked
          ≡ revoked_after c.args.index.now.height taken)
          (one_taken before commands i c.command-item.result c.loop-command-test.true c.command-item.is)
          (rw so_far.height at (c.in_ok-take.ensures.value (before ++ take i commands)
          (rw so_far.height (so_far.value before is))));
      steps = steps_more c.args.steps.now c.loop-command.steps c.take.new.steps i (c.args.index.now.height + 2)
          so_far.steps (rw so_far.height at c.take.ensures.steps);
    }

-- all commands are taken
pub returns-clause-value : goal.returns-clause-value
returns-clause-value g c = λ before is.
    rw (take_all c.loop-command.command-index c.args.commands.now c.loop-command-test.false)
    at (c.loop-command.invariant.value before is)
