use Rattle.std.proofs.lemmas.Result.{err_from_is_err_and}
use Rattle.sd_command_base.specs.declared.status.LimitKind.TheVariants.{BookBytes}
use Rattle.sd_command_base.specs.Outside.{depot_state}
use Rattle.sd_command_base.specs.Spec.{within, of_result}
use Rattle.sd_command_base.proofs.Follow.{looks_first, looks_judged}
use Rattle.sd_command_base.specs.Files.{own_book_or_status, own_book_of_file, most_book_bytes}
use Rattle.sd_command_base.proofs.own_book.read_own.Goals as goal

pub returns-in_err-bytes-clause-value : goal.returns-in_err-bytes-clause-value
unfolding own_book_of_file
returns-in_err-bytes-clause-value g c =
    let p = err_from_is_err_and c.from_residual.result c.from_residual.ensures.1 in
    let word = c.args.word.number in
    rw (p.1, p.2) (looks_first (λ bytes. bytes.items) (λ book. book.commands) (within word most_book_bytes BookBytes)
    (λ bytes. of_result (own_book_or_status word c.args.h c.args.line bytes)) c.args.word.text.now
    (depot_state g.D.Depot c.args.depot.now) (depot_state g.D.Depot c.read_bytes.new.depot) c.in_err-bytes.field-0.0
    c.in_err-bytes.ensures)

pub returns-clause-value : goal.returns-clause-value
unfolding own_book_of_file
returns-clause-value g c =
    let judges = rw c.deref.ensures.value at c.judge_own.ensures.value in
    let word = c.args.word.number in
    looks_judged (λ bytes. bytes.items) (λ book. book.commands) (within word most_book_bytes BookBytes)
    (λ bytes. own_book_or_status word c.args.h c.args.line bytes) c.args.word.text.now
    (depot_state g.D.Depot c.args.depot.now) (depot_state g.D.Depot c.read_bytes.new.depot) c.in_ok-bytes.bytes
    c.judge_own.result c.in_ok-bytes.ensures judges
