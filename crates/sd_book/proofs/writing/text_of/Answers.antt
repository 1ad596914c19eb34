use Rattle.std.proofs.Common.{◌∙◌, ap, Vec, ℕ, Global, take_all}
use Rattle.std.proofs.lemmas.Result.{err_from_is_err_and}
use Rattle.sd_book.specs.Text.{text_of_book}
use Rattle.sd_book.proofs.Written.{text_one_more}
use Rattle.sd_book.proofs.writing.text_of.Goals as goal

pub loop-command-init : goal.loop-command-init
unfolding text_of_book
loop-command-init c = c.new-text.ensures.bytes

pub returns-in_err-write_line : goal.returns-in_err-write_line
returns-in_err-write_line c =
    let p = err_from_is_err_and c.from_residual.result c.from_residual.ensures.1 in
    rw p.1 tt

pub loop-command-preserved : goal.loop-command-preserved
loop-command-preserved c =
    let written = rw c.loop-command.invariant at c.in_ok-write_line.ensures in
    written ∙ text_one_more c.args.commands.now c.loop-command.command-index c.command-item.result
    c.loop-command-test.true c.command-item.is

pub returns : goal.returns
returns c =
    ap (λ (v : Vec ℕ Global). v.items) c.into_bytes.ensures.value ∙ c.loop-command.invariant ∙
    ap text_of_book (take_all c.loop-command.command-index c.args.commands.now c.loop-command-test.false)
