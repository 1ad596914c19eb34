use Rattle.std.proofs.Common.{◌≡◌, ◌+◌, length, sym, ap, ◌∙◌}
use Rattle.sd_run_books.specs.Kept.{leaf_named}
use Rattle.sd_run_books.specs.Read.{line_entry}
use Rattle.sd_run_books.proofs.Taking.{keeps_line, takes_line}
use Rattle.sd_run_books.proofs.register.Register.take.Goals as goal

pub returns-clause-value : goal.returns-clause-value
returns-clause-value c = λ before kept count.
    let says = sym c.in-Some.ensures.value in
    let low = c.in-Some.ensures.leaf in
    let number : length c.commands.result.now + 1 ≡ length before + 1 =
    ap (λ n. n + 1) (ap length c.commands.ensures.value ∙ sym count) in
    let made = c.in_ok-command.ensures.value in
    let fits = rw (c.push.ensures.height, c.requires.height, c.in_ok-push.ensures.value) at c.push.ensures.fits in (
      keeps_line c.args.h before c.args.text.now (line_entry c.in-Some.line)
          (leaf_named c.args.self.now.names.leaves) c.args.self.now.names.marks.items
          (length c.commands.result.now + 1) c.args.self.now.draft.commands kept says low number
          c.in_ok-command.command (leaf_named c.command.new.self.leaves) c.command.new.self.marks.items made
          c.in_ok-command.ensures.leaves c.in_ok-command.ensures.marks,
      (
        c.in_ok-command.command,
        takes_line c.args.h before c.args.text.now (line_entry c.in-Some.line)
            (leaf_named c.args.self.now.names.leaves) c.args.self.now.names.marks.items
            (length c.commands.result.now + 1) c.args.self.now.draft.commands kept says low number
            c.in_ok-command.command made fits,
        c.in_ok-push.ensures.value,
      ),
    )
