use Rattle.std.proofs.Common.{subst, List, ℕ}
use Rattle.sd_engine.specs.Stage.{sink_state_of}
use Rattle.sd_head.specs.Sending.{SendsBytes}
use Rattle.sd_head.specs.Items.{tables_bytes, message_bytes}
use Rattle.sd_head.proofs.Sends.{sends_err, sends_on, cuts_sooner}
use Rattle.sd_head.proofs.Telling.{same_message}
use Rattle.sd_head.proofs.sender.Sender.send_inserted.Goals as goal

pub returns-in_err-send_tables-clause-value : goal.returns-in_err-send_tables-clause-value
returns-in_err-send_tables-clause-value g c =
    sends_err c.from_residual.result _ _ _ c.from_residual.ensures.0
    (cuts_sooner _ _ (tables_bytes c.args.self.now c.args.due c.args.emms.now)
    (message_bytes c.args.pid c.args.self.now c.args.message)
    c.in_err-send_tables.ensures.value)

pub returns-clause-value : goal.returns-clause-value
returns-clause-value g c =
    sends_on c.send_message.result _ (sink_state_of g.K.Sink c.send_tables.new.out) _
    (tables_bytes c.args.self.now c.args.due c.args.emms.now) (message_bytes c.args.pid c.args.self.now c.args.message)
    c.in_ok-send_tables.ensures.value
    (subst (λ (bytes : List ℕ). SendsBytes (sink_state_of g.K.Sink c.send_tables.new.out)
    (sink_state_of g.K.Sink c.send_message.new.out) bytes c.send_message.result)
    (same_message c.args.pid c.args.self.now c.send_tables.new.self c.args.message c.in_ok-send_tables.ensures.next.ecms
    c.send_tables.ensures.places) c.send_message.ensures.value)
