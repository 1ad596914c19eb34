use Rattle.std.proofs.Common.{◌≡◌, ◌+◌, ◌∙◌, ap, arith, ℕ}
use Rattle.sd_engine.specs.Stage.{sink_state_of}
use Rattle.sd_psi.specs.OurCat.{cat_tuning}
use Rattle.sd_receive.specs.Session.{capped_count}
use Rattle.sd_receive.specs.Receiving.{receiver_does}
use Rattle.sd_engine.specs.declared.stage.StageFault.TheVariants.{Write, Refused}
use Rattle.sd_engine.proofs.Answering.{ok_is_no_err, success_is_calm}
use Rattle.sd_receive.proofs.Receiving.{counted, idle_untuned, grew_none, ecm_fits}
use Rattle.sd_receive.proofs.receiver.Receiver.take_by.Goals as goal

pub returns-in_default-clause-value : goal.returns-in_default-clause-value
returns-in_default-clause-value g c =
    let s = c.args.self.now in
    let packet = c.args.packet.now in
    let added : c.saturating_add-self.result ≡ capped_count (s.count + 1) = omega arith in
    let is = c.cat_tuning-self.ensures ∙ ap (λ (ca : ℕ). cat_tuning ca packet) c.ca.ensures in
    grew_none (sink_state_of g.K.Sink c.args.out.now) c.args.steps.now
    (receiver_does s packet (counted s c.saturating_add-self.result c.cat_tuning-self.result))
    (idle_untuned s packet c.cat_tuning-self.result c.saturating_add-self.result c.in_default.is is added)

pub returns-in_default-clause-ok : goal.returns-in_default-clause-ok
returns-in_default-clause-ok g c = record {
  ecm = ecm_fits c.args.self.now.card.ca c.args.packet.now c.cat_tuning-self.result
      (c.cat_tuning-self.ensures ∙ ap (λ (ca : ℕ). cat_tuning ca c.args.packet.now) c.ca.ensures);
  follows = c.requires.fit.follows;
}

pub returns-in_default-clause-fault : goal.returns-in_default-clause-fault
returns-in_default-clause-fault g c = λ fault is. ok_is_no_err (Refused fault) is

pub returns-in_default-clause-stands : goal.returns-in_default-clause-stands
returns-in_default-clause-stands g c = λ fault is. ok_is_no_err (Refused fault) is

pub returns-in_default-clause-fit : goal.returns-in_default-clause-fit
returns-in_default-clause-fit g c = λ fault is. ok_is_no_err (Refused fault) is

pub returns-in_default-clause-same : goal.returns-in_default-clause-same
returns-in_default-clause-same g c = λ fault is. ok_is_no_err (Refused fault) is

pub returns-in_default-clause-prefix : goal.returns-in_default-clause-prefix
returns-in_default-clause-prefix g c = λ failed. ok_is_no_err Write failed

pub returns-in_default-clause-unrefused : goal.returns-in_default-clause-unrefused
returns-in_default-clause-unrefused g c = c.requires.unrefused

pub returns-in_default-clause-cause : goal.returns-in_default-clause-cause
returns-in_default-clause-cause g c = success_is_calm (g.K.Sink.faults c.args.out.now)

pub take_heard-requires-clause-fit : goal.take_heard-requires-clause-fit
take_heard-requires-clause-fit g c = c.requires.fit

pub take_heard-requires-clause-unrefused : goal.take_heard-requires-clause-unrefused
take_heard-requires-clause-unrefused g c = c.requires.unrefused

pub take_heard-requires-clause-tuned : goal.take_heard-requires-clause-tuned
take_heard-requires-clause-tuned g c = c.in-Some.is

pub returns-in-Cat-clause-value : goal.returns-in-Cat-clause-value
returns-in-Cat-clause-value g c = c.take_heard.ensures.value

pub returns-in-Cat-clause-ok : goal.returns-in-Cat-clause-ok
returns-in-Cat-clause-ok g c = c.take_heard.ensures.ok

pub returns-in-Cat-clause-unrefused : goal.returns-in-Cat-clause-unrefused
returns-in-Cat-clause-unrefused g c = c.take_heard.ensures.unrefused

pub returns-in-Cat-clause-fault : goal.returns-in-Cat-clause-fault
returns-in-Cat-clause-fault g c = c.take_heard.ensures.fault

pub returns-in-Cat-clause-stands : goal.returns-in-Cat-clause-stands
returns-in-Cat-clause-stands g c = c.take_heard.ensures.stands

pub returns-in-Cat-clause-fit : goal.returns-in-Cat-clause-fit
returns-in-Cat-clause-fit g c = c.take_heard.ensures.fit

pub returns-in-Cat-clause-same : goal.returns-in-Cat-clause-same
returns-in-Cat-clause-same g c = c.take_heard.ensures.same

pub returns-in-Cat-clause-prefix : goal.returns-in-Cat-clause-prefix
returns-in-Cat-clause-prefix g c = c.take_heard.ensures.prefix

pub returns-in-Cat-clause-cause : goal.returns-in-Cat-clause-cause
returns-in-Cat-clause-cause g c = c.take_heard.ensures.cause

pub take_emm-requires-clause-fit : goal.take_emm-requires-clause-fit
take_emm-requires-clause-fit g c = c.requires.fit

pub take_emm-requires-clause-unrefused : goal.take_emm-requires-clause-unrefused
take_emm-requires-clause-unrefused g c = c.requires.unrefused

pub take_emm-requires-clause-tuned : goal.take_emm-requires-clause-tuned
take_emm-requires-clause-tuned g c = c.in-Some.is

pub take_emm-requires-clause-on : goal.take_emm-requires-clause-on
take_emm-requires-clause-on g c = c.channel_of.ensures.emm c.in-Emm.is

pub returns-in-Emm-clause-value : goal.returns-in-Emm-clause-value
returns-in-Emm-clause-value g c = c.take_emm.ensures.value

pub returns-in-Emm-clause-ok : goal.returns-in-Emm-clause-ok
returns-in-Emm-clause-ok g c = c.take_emm.ensures.ok

pub returns-in-Emm-clause-unrefused : goal.returns-in-Emm-clause-unrefused
returns-in-Emm-clause-unrefused g c = c.take_emm.ensures.unrefused

pub returns-in-Emm-clause-fault : goal.returns-in-Emm-clause-fault
returns-in-Emm-clause-fault g c = c.take_emm.ensures.fault

pub returns-in-Emm-clause-stands : goal.returns-in-Emm-clause-stands
returns-in-Emm-clause-stands g c = c.take_emm.ensures.stands

pub returns-in-Emm-clause-fit : goal.returns-in-Emm-clause-fit
returns-in-Emm-clause-fit g c = c.take_emm.ensures.fit

pub returns-in-Emm-clause-same : goal.returns-in-Emm-clause-same
returns-in-Emm-clause-same g c = c.take_emm.ensures.same

pub returns-in-Emm-clause-prefix : goal.returns-in-Emm-clause-prefix
returns-in-Emm-clause-prefix g c = c.take_emm.ensures.prefix

pub returns-in-Emm-clause-cause : goal.returns-in-Emm-clause-cause
returns-in-Emm-clause-cause g c = c.take_emm.ensures.cause

pub take_ecm-requires-clause-fit : goal.take_ecm-requires-clause-fit
take_ecm-requires-clause-fit g c = c.requires.fit

pub take_ecm-requires-clause-unrefused : goal.take_ecm-requires-clause-unrefused
take_ecm-requires-clause-unrefused g c = c.requires.unrefused

pub take_ecm-requires-clause-tuned : goal.take_ecm-requires-clause-tuned
take_ecm-requires-clause-tuned g c = c.in-Some.is

pub take_ecm-requires-clause-on : goal.take_ecm-requires-clause-on
take_ecm-requires-clause-on g c = c.channel_of.ensures.ecm c.in-Ecm.is

pub returns-in-Ecm-clause-value : goal.returns-in-Ecm-clause-value
returns-in-Ecm-clause-value g c = c.take_ecm.ensures.value

pub returns-in-Ecm-clause-ok : goal.returns-in-Ecm-clause-ok
returns-in-Ecm-clause-ok g c = c.take_ecm.ensures.ok

pub returns-in-Ecm-clause-unrefused : goal.returns-in-Ecm-clause-unrefused
returns-in-Ecm-clause-unrefused g c = c.take_ecm.ensures.unrefused

pub returns-in-Ecm-clause-fault : goal.returns-in-Ecm-clause-fault
returns-in-Ecm-clause-fault g c = c.take_ecm.ensures.fault

pub returns-in-Ecm-clause-stands : goal.returns-in-Ecm-clause-stands
returns-in-Ecm-clause-stands g c = c.take_ecm.ensures.stands

pub returns-in-Ecm-clause-fit : goal.returns-in-Ecm-clause-fit
returns-in-Ecm-clause-fit g c = c.take_ecm.ensures.fit

pub returns-in-Ecm-clause-same : goal.returns-in-Ecm-clause-same
returns-in-Ecm-clause-same g c = c.take_ecm.ensures.same

pub returns-in-Ecm-clause-prefix : goal.returns-in-Ecm-clause-prefix
returns-in-Ecm-clause-prefix g c = c.take_ecm.ensures.prefix

pub returns-in-Ecm-clause-cause : goal.returns-in-Ecm-clause-cause
returns-in-Ecm-clause-cause g c = c.take_ecm.ensures.cause

pub take_heard-requires-in-Other-clause-fit : goal.take_heard-requires-in-Other-clause-fit
take_heard-requires-in-Other-clause-fit g c = c.requires.fit

pub take_heard-requires-in-Other-clause-unrefused : goal.take_heard-requires-in-Other-clause-unrefused
take_heard-requires-in-Other-clause-unrefused g c = c.requires.unrefused

pub take_heard-requires-in-Other-clause-tuned : goal.take_heard-requires-in-Other-clause-tuned
take_heard-requires-in-Other-clause-tuned g c = c.in-Some.is

pub returns-in-Other-clause-value : goal.returns-in-Other-clause-value
returns-in-Other-clause-value g c = c.take_heard-in-Other.ensures.value

pub returns-in-Other-clause-ok : goal.returns-in-Other-clause-ok
returns-in-Other-clause-ok g c = c.take_heard-in-Other.ensures.ok

pub returns-in-Other-clause-unrefused : goal.returns-in-Other-clause-unrefused
returns-in-Other-clause-unrefused g c = c.take_heard-in-Other.ensures.unrefused

pub returns-in-Other-clause-fault : goal.returns-in-Other-clause-fault
returns-in-Other-clause-fault g c = c.take_heard-in-Other.ensures.fault

pub returns-in-Other-clause-stands : goal.returns-in-Other-clause-stands
returns-in-Other-clause-stands g c = c.take_heard-in-Other.ensures.stands

pub returns-in-Other-clause-fit : goal.returns-in-Other-clause-fit
returns-in-Other-clause-fit g c = c.take_heard-in-Other.ensures.fit

pub returns-in-Other-clause-same : goal.returns-in-Other-clause-same
returns-in-Other-clause-same g c = c.take_heard-in-Other.ensures.same

pub returns-in-Other-clause-prefix : goal.returns-in-Other-clause-prefix
returns-in-Other-clause-prefix g c = c.take_heard-in-Other.ensures.prefix

pub returns-in-Other-clause-cause : goal.returns-in-Other-clause-cause
returns-in-Other-clause-cause g c = c.take_heard-in-Other.ensures.cause
