use Rattle.std.proofs.Common.{◌*◌, ◌≤◌, length}
use Rattle.std.proofs.lemmas.Result.{err_from_is_err_and}
use Rattle.sd_command_base.specs.declared.status.LimitKind.TheVariants.{FieldPackets}
use Rattle.sd_command_base.specs.Outside.{depot_state}
use Rattle.sd_command_base.specs.Spec.{within, of_result}
use Rattle.sd_command_base.proofs.Follow.{looks_first, looks_judged, where_ok}
use Rattle.sd_run_broadcasts.specs.Field.{clear_of_file, field_clear_bytes, told_clear}
use Rattle.sd_run_broadcasts.proofs.Cutting.{bytes_within, packets_within}
use Rattle.sd_run_broadcasts.proofs.field_clear.read_clear.Goals as goal

pub returns-in_err-bytes-clause-value : goal.returns-in_err-bytes-clause-value
unfolding clear_of_file
returns-in_err-bytes-clause-value g c =
    let p = err_from_is_err_and c.from_residual.result c.from_residual.ensures.1 in
    rw (p.1, p.2) (looks_first (λ bytes. bytes.items) (λ packets. packets.items)
    (within c.args.word.number field_clear_bytes FieldPackets) (λ bytes. of_result (told_clear bytes))
    c.args.word.text.now (depot_state g.D.Depot c.args.depot.now) (depot_state g.D.Depot c.read_bytes.new.depot)
    c.in_err-bytes.field-0.0 c.in_err-bytes.ensures)

pub returns-clause-value : goal.returns-clause-value
unfolding clear_of_file
returns-clause-value g c =
    let judges = rw c.deref.ensures.value at c.cut.ensures.value in
    looks_judged (λ bytes. bytes.items) (λ packets. packets.items)
    (within c.args.word.number field_clear_bytes FieldPackets) told_clear c.args.word.text.now
    (depot_state g.D.Depot c.args.depot.now) (depot_state g.D.Depot c.read_bytes.new.depot) c.in_ok-bytes.bytes
    c.cut.result c.in_ok-bytes.ensures judges

pub returns-clause-few : goal.returns-clause-few
returns-clause-few g c =
    let bytes = c.in_ok-bytes.bytes.items in
    let short = bytes_within c.args.word.number field_clear_bytes FieldPackets c.in_ok-bytes.ensures.got bytes
    c.in_ok-bytes.ensures.gives.0 in
    where_ok c.cut.result (λ packets. 188 * length packets.items ≤ length c.deref.result.now)
    (λ packets. length packets.items ≤ 16384)
    (λ packets few. packets_within (length packets.items) (length c.deref.result.now) few
    (rw c.deref.ensures.value short)) c.cut.ensures.few
