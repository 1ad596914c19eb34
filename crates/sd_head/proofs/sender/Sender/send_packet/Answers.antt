use Rattle.std.proofs.Common.{◌++◌}
use Rattle.sd_engine.specs.Stage.{sink_state_of}
use Rattle.sd_head.specs.Items.{tables_bytes, message_bytes}
use Rattle.sd_head.proofs.Sends.{sends_err, sends_on, cuts_sooner}
use Rattle.sd_head.proofs.sender.Sender.send_packet.Goals as goal

pub returns-in_err-send_inserted-clause-value : goal.returns-in_err-send_inserted-clause-value
returns-in_err-send_inserted-clause-value g c =
    sends_err c.from_residual.result _ _ _ c.from_residual.ensures.0
    (cuts_sooner _ _ (tables_bytes c.args.self.now c.args.due c.args.emms.now
    ++ message_bytes c.args.pid c.args.self.now c.args.message)
    c.args.packet.now c.in_err-send_inserted.ensures.value)

pub returns-clause-value : goal.returns-clause-value
returns-clause-value g c =
    sends_on c.send.result _ (sink_state_of g.K.Sink c.send_inserted.new.out) _
    (tables_bytes c.args.self.now c.args.due c.args.emms.now ++ message_bytes c.args.pid c.args.self.now c.args.message)
    c.args.packet.now c.in_ok-send_inserted.ensures.value c.send.ensures.value
