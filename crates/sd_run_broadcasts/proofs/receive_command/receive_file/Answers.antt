use Rattle.std.proofs.Common.{◌≡◌, [], Some, inl, inr}
use Rattle.std.specs.Prelude.{◌⊎◌}
use Rattle.std.proofs.lemmas.Result.{err_from_is_err_and}
use Rattle.sd_ports.proofs.Outlets.{there_after}
use Rattle.sd_receive.specs.Receiving.{receiver_card}
use Rattle.sd_command_base.specs.Outside.{depot_state, io_state}
use Rattle.sd_command_base.specs.Spec.{whole_file_bytes, value, ◌>>=◌}
use Rattle.sd_command_base.specs.Work.{UpTo}
use Rattle.sd_command_base.specs.Outcome.{status_of}
use Rattle.sd_run_broadcasts.specs.Receive.{received_of, received_status, received_steps, receiving}
use Rattle.sd_command_base.specs.Shown.{shown_word}
use Rattle.sd_command_base.specs.Turned.{unclosed_by}
use Rattle.sd_command_base.proofs.Looked.{opened_got}
use Rattle.sd_command_base.proofs.Turning.{turned_obeys, not_turned}
use Rattle.sd_command_base.proofs.Streamed.{got_follows}
use Rattle.sd_run_broadcasts.proofs.Unmade.{not_opened, closed_memory}
use Rattle.sd_run_broadcasts.proofs.receive_command.receive_file.Goals as goal

pub returns-in_err-inlet-clause-value : goal.returns-in_err-inlet-clause-value
returns-in_err-inlet-clause-value g c page =
    let result = err_from_is_err_and c.from_residual.result c.from_residual.ensures.1 in
    let card = receiver_card c.args.receiver in
    let stream = shown_word c.args.stream in
    let out = shown_word c.args.out in
    let p = depot_state g.D.Depot c.args.depot.now in
    let q = depot_state g.D.Depot c.open_both.new.depot in
    let i = c.args.steps.now in
    let status = c.in_err-inlet.field-0.0 in
    let not = not_turned (λ bytes. UpTo (received_steps card bytes)) (received_of card) (received_status card) stream
    out p q page i status
    c.in_err-inlet.ensures.fault in
    rw (result.1, result.2) (got_follows (λ got. whole_file_bytes stream.number got >>=
    λ bytes. value (receiving card out bytes)) stream not.got
    (io_state p page i) (io_state q page i) status not.is_got not.obeys)

pub close_both-requires : goal.close_both-requires
close_both-requires g c = there_after _ _ c.args.out.text.now [] c.in_ok-inlet.ensures.ok.files

pub returns-clause-value : goal.returns-clause-value
returns-clause-value g c page =
    let card = receiver_card c.args.receiver in
    let stream = shown_word c.args.stream in
    let out = shown_word c.args.out in
    let p = depot_state g.D.Depot c.args.depot.now in
    let q = depot_state g.D.Depot c.open_both.new.depot in
    let r = depot_state g.D.Depot c.close_both.new.depot in
    let i = c.args.steps.now in
    let j = c.receive_all-ended.new.steps in
    let opened = c.in_ok-inlet.ensures.ok in
    let received = c.receive_all-ended.ensures.value in
    let closed = c.close_both.ensures in
    let status = status_of c.close_both.result in
    got_follows (λ got. whole_file_bytes stream.number got >>= λ bytes. value (receiving card out bytes)) stream
    (Some received.bytes)
    (io_state p page i) (io_state r page j) status (opened_got p.files stream.text _ received.bytes opened.opens
    received.is_left)
    (turned_obeys (λ bytes. UpTo (received_steps card bytes)) (received_of card) (received_status card) stream out
    received.bytes p q r page
    i j _ _ _ _ _ _ _ c.receive_all-ended.result c.close_both.result opened c.receive_all-ended.ensures.cause
    received.wrote closed received.steps)

pub returns-in_err-inlet-clause-memory : goal.returns-in_err-inlet-clause-memory
returns-in_err-inlet-clause-memory g c = λ e. not_opened (shown_word c.args.stream) (shown_word c.args.out)
    (depot_state g.D.Depot c.args.depot.now) (depot_state g.D.Depot c.open_both.new.depot) c.in_err-inlet.field-0.0
    c.in_err-inlet.ensures.fault

pub returns-clause-memory : goal.returns-clause-memory
returns-clause-memory g c = λ e.
    let closed : (c.close_both.result ≡ c.receive_all-ended.result)
    ⊎ (c.close_both.result ≡ unclosed_by c.receive_all-ended.result) = elim c.close_both.ensures.ends [
      | inl whole ↦ inl whole.0
      | inr short ↦ inr short.0
    ] in
    absurd (c.receive_all-ended.ensures.memory
    (closed_memory c.receive_all-ended.result c.close_both.result closed e))
