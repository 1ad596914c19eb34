use Rattle.std.proofs.Common.{sym, ap, ◌∙◌, length}
use Rattle.sd_ports.specs.Memory.{Store}
use Rattle.sd_receive.specs.Receiving.{receiver_card}
use Rattle.sd_run_broadcasts.proofs.Sending.{all_heard}
use Rattle.sd_run_broadcasts.proofs.trial_hear.hear.Goals as goal

pub returns : goal.returns
returns g c =
    all_heard (receiver_card c.args.receiver) c.args.sent.now _ _ _ _ _ _ c.settled-status.result _ c.new-source.ensures
    (ap (λ (s : Store). s.held) c.in_ok-sink.ensures) (ap length c.bytes.ensures) c.settled-status.ensures
    (sym c.wants_memory.ensures ∙ c.if-wants_memory.false) c.receive_all.ensures.value
