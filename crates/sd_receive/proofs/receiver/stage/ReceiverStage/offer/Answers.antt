use Rattle.std.proofs.Common.{◌∙◌, refl, ap}
use Rattle.std.proofs.lemmas.Result.{on_ok_weaker}
use Rattle.std.specs.Prelude.{Some}
use Rattle.sd_engine.specs.Stage.{sink_state_of}
use Rattle.sd_receive.specs.Receiving.{receiver_refuses}
use Rattle.sd_engine.proofs.Answering.{err_is_no_ok, refusal_is_no_write, same_refusal, kept_is_answered, none_is_kept}
use Rattle.sd_engine.proofs.Answering.{refusal_is_calm}
use Rattle.sd_receive.proofs.Receiving.{grew_none, refusing}
use Rattle.sd_receive.proofs.receiver.stage.ReceiverStage.offer.Goals as goal

pub returns-in-Some-clause-fault : goal.returns-in-Some-clause-fault
returns-in-Some-clause-fault g c = λ fault same.
    grew_none (sink_state_of g.K.Sink c.args.out.now) c.args.steps.now
    (receiver_refuses c.args.self.now (Some c.args.packet.now) fault c.args.self.now)
    (refusing c.args.self.now c.args.packet.now c.in-Some.fault fault c.in-Some.is)

pub returns-in-Some-clause-value : goal.returns-in-Some-clause-value
returns-in-Some-clause-value g c = tt

pub returns-in-Some-clause-ok : goal.returns-in-Some-clause-ok
returns-in-Some-clause-ok g c = tt

pub returns-in-Some-clause-keeps : goal.returns-in-Some-clause-keeps
returns-in-Some-clause-keeps g c = λ fault same.
    (c.requires.live, c.in-Some.is ∙ ap Some (same_refusal c.in-Some.fault fault same))

pub returns-in-Some-clause-again : goal.returns-in-Some-clause-again
returns-in-Some-clause-again g c = λ fault kept.
    (kept_is_answered c.args.self.now.refusal c.in-Some.fault fault c.in-Some.is kept, refl, refl)

pub returns-in-Some-clause-prefix : goal.returns-in-Some-clause-prefix
returns-in-Some-clause-prefix g c = λ failed. refusal_is_no_write c.in-Some.fault failed

pub returns-in-Some-clause-cause : goal.returns-in-Some-clause-cause
returns-in-Some-clause-cause g c = refusal_is_calm (g.K.Sink.faults c.args.out.now) c.in-Some.fault

pub take-result-requires-clause-fit : goal.take-result-requires-clause-fit
take-result-requires-clause-fit g c = c.requires.live c.in_default.is

pub take-result-requires-clause-unrefused : goal.take-result-requires-clause-unrefused
take-result-requires-clause-unrefused g c = c.in_default.is

-- the packet is refused
pub returns-in-Err-Refused-clause-value : goal.returns-in-Err-Refused-clause-value
returns-in-Err-Refused-clause-value g c =
    err_is_no_ok _ c.take-result.result c.in-Err-Refused.field-0 c.in-Err-Refused.is

pub returns-in-Err-Refused-clause-ok : goal.returns-in-Err-Refused-clause-ok
returns-in-Err-Refused-clause-ok g c =
    err_is_no_ok _ c.take-result.result c.in-Err-Refused.field-0 c.in-Err-Refused.is

pub returns-in-Err-Refused-clause-fault : goal.returns-in-Err-Refused-clause-fault
returns-in-Err-Refused-clause-fault g c = c.take-result.ensures.fault

pub returns-in-Err-Refused-clause-again : goal.returns-in-Err-Refused-clause-again
returns-in-Err-Refused-clause-again g c = λ fault kept.
    none_is_kept c.args.self.now.refusal fault c.in_default.is kept

pub returns-in-Err-Refused-clause-prefix : goal.returns-in-Err-Refused-clause-prefix
returns-in-Err-Refused-clause-prefix g c = c.take-result.ensures.prefix

pub returns-in-Err-Refused-clause-cause : goal.returns-in-Err-Refused-clause-cause
returns-in-Err-Refused-clause-cause g c = c.take-result.ensures.cause

-- a write failed
pub returns-in_default-clause-value : goal.returns-in_default-clause-value
returns-in_default-clause-value g c = c.take-result.ensures.value

pub returns-in_default-clause-ok : goal.returns-in_default-clause-ok
returns-in_default-clause-ok g c =
    on_ok_weaker c.take-result.result (λ fit. (λ unrefused. fit, c.take-result.ensures.unrefused))
    c.take-result.ensures.ok

pub returns-in_default-clause-fault : goal.returns-in_default-clause-fault
returns-in_default-clause-fault g c = c.take-result.ensures.fault

pub returns-in_default-clause-again : goal.returns-in_default-clause-again
returns-in_default-clause-again g c = λ fault kept.
    none_is_kept c.args.self.now.refusal fault c.in_default.is kept

pub returns-in_default-clause-prefix : goal.returns-in_default-clause-prefix
returns-in_default-clause-prefix g c = c.take-result.ensures.prefix

pub returns-in_default-clause-cause : goal.returns-in_default-clause-cause
returns-in_default-clause-cause g c = c.take-result.ensures.cause
