use Rattle.std.proofs.lemmas.Result.{err_from_is_err_and}
use Rattle.sd_receive.specs.Receiving.{receiver_card}
use Rattle.sd_command_base.specs.declared.status.LimitKind.TheVariants.{CardBytes}
use Rattle.sd_command_base.specs.Outside.{depot_state}
use Rattle.sd_command_base.specs.Spec.{within, of_result}
use Rattle.sd_command_base.proofs.Follow.{looks_first, looks_judged}
use Rattle.sd_command_base.specs.Files.{most_card_bytes}
use Rattle.sd_run_broadcasts.specs.Receive.{card_refusal, card_of_file}
use Rattle.sd_run_broadcasts.proofs.receive_command.read_receiver.Goals as goal

pub returns-in_err-bytes-clause-value : goal.returns-in_err-bytes-clause-value
unfolding card_of_file
returns-in_err-bytes-clause-value g c =
    let p = err_from_is_err_and c.from_residual.result c.from_residual.ensures.1 in
    rw (p.1, p.2) (looks_first (λ bytes. bytes.items) receiver_card
    (within c.args.word.number most_card_bytes CardBytes)
    (λ bytes. of_result (card_refusal c.args.word.number bytes)) c.args.word.text.now
    (depot_state g.D.Depot c.args.depot.now) (depot_state g.D.Depot c.read_card_bytes.new.depot)
    c.in_err-bytes.field-0.0 c.in_err-bytes.ensures)

pub returns-clause-value : goal.returns-clause-value
unfolding card_of_file
returns-clause-value g c =
    let judges = rw c.deref.ensures.value at c.judge_card.ensures.value in
    looks_judged (λ bytes. bytes.items) receiver_card (within c.args.word.number most_card_bytes CardBytes)
    (card_refusal c.args.word.number) c.args.word.text.now
    (depot_state g.D.Depot c.args.depot.now) (depot_state g.D.Depot c.read_card_bytes.new.depot) c.in_ok-bytes.bytes
    c.judge_card.result c.in_ok-bytes.ensures judges
