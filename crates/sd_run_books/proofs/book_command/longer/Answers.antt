use Rattle.std.proofs.Common.{ℕ, List, ◌++◌, ap, subst, ◌∙◌}
use Rattle.sd_book.specs.declared.command.Command.{Command}
use Rattle.sd_book.specs.Limits.{IsWithinLimits}
use Rattle.sd_run_books.proofs.Longer.{longer_fits}
use Rattle.sd_run_books.proofs.book_command.longer.Goals as goal

pub returns-in-Ok : goal.returns-in-Ok
returns-in-Ok c =
    let before = c.args.book.commands in
    let all = c.apply.new.self.commands in
    longer_fits c.args.word c.args.book.height before c.args.added.now.commands all
    (c.in-Ok.ensures.value ∙ ap (λ (cs : List Command). before ++ cs) c.commands-more.ensures.value)
    (subst (λ (d : ℕ). IsWithinLimits d all) c.in-Ok.ensures.height c.commands.ensures.fits)
