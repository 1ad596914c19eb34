use Rattle.std.proofs.Common.{◌≡◌, ◌++◌, ℕ, List, subst}
use Rattle.std.specs.Prelude.{OnOk}
use Rattle.sd_book.specs.declared.command.Command.{Command}
use Rattle.sd_book.specs.Commands.{revoked_after}
use Rattle.sd_head.proofs.Replayed.{period_taken_ok}
use Rattle.sd_head.proofs.entitling.take_period.Goals as goal

pub returns-in-Some-clause-value : goal.returns-in-Some-clause-value
returns-in-Some-clause-value g c =
    period_taken_ok c.replay.result c.args.book.now.height c.args.place.now.next c.args.book.now.commands
    c.args.index.now.revoked c.replay.new.index.revoked c.requires.within
    (subst (λ (period : List Command). (before : List Command) →
    c.args.index.now.revoked ≡ revoked_after c.args.book.now.height before →
    OnOk c.replay.result (c.replay.new.index.revoked ≡ revoked_after c.args.book.now.height (before ++ period)))
    c.in-Some.ensures.value
    (subst (λ (d : ℕ). (before : List Command) → c.args.index.now.revoked ≡ revoked_after d before →
    OnOk c.replay.result (c.replay.new.index.revoked ≡ revoked_after d (before ++ c.in-Some.commands.now)))
    c.requires.height c.replay.ensures.value))
