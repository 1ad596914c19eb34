use Rattle.std.proofs.Common.{◌∙◌, ◌++◌, List, ℕ, ap, sym, string_bytes, append-nil}
use Rattle.sd_book.specs.declared.command.Command.{Command}
use Rattle.sd_run_books.proofs.Merged.{lines, lines_are, merged_none}
use Rattle.sd_run_books.proofs.told_changes.push_changes.Goals as goal

pub returns : goal.returns
returns c one other n left right =
    let old = c.loop-leaf.old.now in
    let new = c.loop-leaf.new.now in
    let none = merged_none old new (sym c.in_default.is ∙ c.least.ensures) in
    let text = string_bytes c.loop-leaf.text in
    let ends = ap (λ (cs : List Command). text ++ lines cs) none ∙ append-nil text in
    sym ends
    ∙ c.loop-leaf.invariant
    ∙ ap (λ (xs : List ℕ). string_bytes c.args.text.now ++ xs)
    (lines_are one other n c.args.before.now c.args.now.now left right)
