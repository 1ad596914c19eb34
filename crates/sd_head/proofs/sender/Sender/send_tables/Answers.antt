use Rattle.std.proofs.Common.{Bool, sym, subst}
use Rattle.std.specs.List.{concat}
use Rattle.sd_engine.specs.Stage.{sink_state_of}
use Rattle.sd_head.specs.Sending.{FailsWithin, SendsBytes, with_counters, recounted}
use Rattle.sd_head.specs.Items.{tables_bytes}
use Rattle.sd_head.proofs.Sends.{sends_err, sends_on, cuts_sooner}
use Rattle.sd_head.proofs.sender.Sender.send_tables.Goals as goal

pub returns-in_err-send_counted-clause-value : goal.returns-in_err-send_counted-clause-value
returns-in_err-send_counted-clause-value g c =
    sends_err c.from_residual.result _ _ _ c.from_residual.ensures.0
    (subst (λ (due : Bool). FailsWithin (sink_state_of g.K.Sink c.args.out.now)
    (sink_state_of g.K.Sink c.send_counted.new.out)
    (tables_bytes c.args.self.now due c.args.emms.now))
    (sym c.if-not-due.false)
    (cuts_sooner _ _ (recounted c.args.self.now.cat c.args.self.now.cats)
    (concat (with_counters recounted c.args.self.now.emms c.args.emms.now))
    c.in_err-send_counted.ensures.value))

pub returns-clause-value : goal.returns-clause-value
returns-clause-value g c =
    subst (λ (due : Bool). SendsBytes (sink_state_of g.K.Sink c.args.out.now)
    (sink_state_of g.K.Sink c.send_all.new.out)
    (tables_bytes c.args.self.now due c.args.emms.now) c.send_all.result)
    (sym c.if-not-due.false)
    (sends_on c.send_all.result _ (sink_state_of g.K.Sink c.send_counted.new.out) _
    (recounted c.args.self.now.cat c.args.self.now.cats)
    (concat (with_counters recounted c.args.self.now.emms c.args.emms.now)) c.in_ok-send_counted.ensures.value
    c.send_all.ensures.value)
