use Rattle.std.proofs.Common.{Ok, Err, ◌∙◌}
use Rattle.std.proofs.lemmas.Result.{err_from_is_err_and}
use Rattle.sd_receive.specs.Receiving.{receiver_card}
use Rattle.sd_command_base.specs.Outside.{depot_state, io_state}
use Rattle.sd_command_base.specs.Spec.{whole_file_bytes, value, ◌>>=◌}
use Rattle.sd_command_base.specs.Outcome.{status_of}
use Rattle.sd_run_broadcasts.specs.Receive.{card_of_file, receiving, receive_stream_meaning, receive_meaning}
use Rattle.sd_command_base.specs.Shown.{shown_word}
use Rattle.sd_command_base.proofs.Streamed.{first_follows, then_follows}
use Rattle.sd_run_broadcasts.proofs.Unmade.{looked_made}
use Rattle.sd_run_broadcasts.proofs.receive_command.receive.Goals as goal

pub returns-in_err-receiver-clause-value : goal.returns-in_err-receiver-clause-value
unfolding receive_meaning
returns-in_err-receiver-clause-value g c page =
    let p = err_from_is_err_and c.from_residual.result c.from_residual.ensures.1 in
    let card = shown_word c.args.card in
    rw (p.1, p.2) (first_follows receiver_card (card_of_file card.number)
    (λ given fields. receive_stream_meaning fields (shown_word c.args.stream) (shown_word c.args.out) given) card
    (depot_state g.D.Depot c.args.depot.now) (depot_state g.D.Depot c.read_receiver.new.depot) page c.args.steps.now
    c.in_err-receiver.field-0.0 c.in_err-receiver.ensures.value)

pub returns-clause-value : goal.returns-clause-value
unfolding receive_meaning
returns-clause-value g c page =
    let card = shown_word c.args.card in
    let stream = shown_word c.args.stream in
    then_follows receiver_card (card_of_file card.number)
    (λ fields got. whole_file_bytes stream.number got >>= λ bytes. value
    (receiving fields (shown_word c.args.out) bytes)) card
    stream
    (depot_state g.D.Depot c.args.depot.now) (depot_state g.D.Depot c.read_receiver.new.depot) page c.args.steps.now
    (io_state (depot_state g.D.Depot c.receive_file.new.depot) page c.receive_file.new.steps) c.in_ok-receiver.receiver
    (status_of c.receive_file.result) c.requires c.in_ok-receiver.ensures.value (c.receive_file.ensures.value page)

pub returns-in_err-receiver-clause-memory : goal.returns-in_err-receiver-clause-memory
returns-in_err-receiver-clause-memory g c = λ e. looked_made receiver_card
    (card_of_file (shown_word c.args.card).number)
    (shown_word c.args.card).text (depot_state g.D.Depot c.args.depot.now)
    (depot_state g.D.Depot c.read_receiver.new.depot) (Err c.in_err-receiver.field-0.0) c.in_err-receiver.ensures.value

pub returns-clause-memory : goal.returns-clause-memory
returns-clause-memory g c = λ e. c.receive_file.ensures.memory e
    ∙ looked_made receiver_card (card_of_file (shown_word c.args.card).number) (shown_word c.args.card).text
    (depot_state g.D.Depot c.args.depot.now) (depot_state g.D.Depot c.read_receiver.new.depot)
    (Ok c.in_ok-receiver.receiver) c.in_ok-receiver.ensures.value
