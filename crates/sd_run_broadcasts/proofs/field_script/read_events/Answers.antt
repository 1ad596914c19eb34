use Rattle.std.proofs.lemmas.Result.{err_from_is_err_and}
use Rattle.sd_field.specs.Script.{script_of}
use Rattle.sd_command_base.specs.declared.status.LimitKind.TheVariants.{BookBytes}
use Rattle.sd_command_base.specs.Outside.{depot_state}
use Rattle.sd_command_base.specs.Spec.{within, of_result}
use Rattle.sd_command_base.proofs.Follow.{looks_first, looks_judged}
use Rattle.sd_command_base.specs.Files.{most_book_bytes}
use Rattle.sd_run_broadcasts.specs.Field.{script_or_status, script_of_file}
use Rattle.sd_run_broadcasts.proofs.field_script.read_events.Goals as goal

pub returns-in_err-bytes-clause-value : goal.returns-in_err-bytes-clause-value
unfolding script_of_file
returns-in_err-bytes-clause-value g c =
    let p = err_from_is_err_and c.from_residual.result c.from_residual.ensures.1 in
    let word = c.args.word.number in
    rw (p.1, p.2) (looks_first (λ bytes. bytes.items) (λ events. events.items)
    (within word most_book_bytes BookBytes) (λ bytes. of_result (script_or_status word c.args.h bytes
    (script_of c.args.h bytes)))
    c.args.word.text.now (depot_state g.D.Depot c.args.depot.now) (depot_state g.D.Depot c.read_bytes.new.depot)
    c.in_err-bytes.field-0.0 c.in_err-bytes.ensures)

pub returns-clause-value : goal.returns-clause-value
unfolding script_of_file
returns-clause-value g c =
    let judges = rw c.deref.ensures.value at c.judge_script.ensures.value in
    let word = c.args.word.number in
    looks_judged (λ bytes. bytes.items) (λ events. events.items) (within word most_book_bytes BookBytes)
    (λ bytes. script_or_status word c.args.h bytes (script_of c.args.h bytes)) c.args.word.text.now
    (depot_state g.D.Depot c.args.depot.now) (depot_state g.D.Depot c.read_bytes.new.depot) c.in_ok-bytes.bytes
    c.judge_script.result c.in_ok-bytes.ensures judges
