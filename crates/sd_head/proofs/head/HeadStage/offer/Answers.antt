use Rattle.std.proofs.Common.{ap, refl}
use Rattle.std.specs.Prelude.{Some, Err}
use Rattle.sd_engine.specs.Stage.{sink_state_of}
use Rattle.sd_engine.proofs.Answering.{same_refusal}
use Rattle.sd_head.specs.Staged.{RefusesClearPacket}
use Rattle.sd_head.specs.declared.fault.HeadFault.TheVariants.{Clear, NoMemory}
use Rattle.sd_head.proofs.Offering.{grown_nothing, grown_says, cut_says, refuses_clear, refuses_memory}
use Rattle.sd_head.proofs.Offering.{does_of, allowed_of}
use Rattle.sd_head.proofs.head.HeadStage.offer.Goals as goal

pub returns-in-Err-clause-fault : goal.returns-in-Err-clause-fault
returns-in-Err-clause-fault g c = λ fault same.
    grown_nothing (λ bytes steps. RefusesClearPacket c.args.self.now (Some c.args.packet.now) fault bytes)
    (sink_state_of g.K.Sink c.args.out.now) (sink_state_of g.K.Sink c.args.out.now) c.args.steps.now c.args.steps.now
    refl
    (refuses_clear c.args.self.now c.args.packet.now c.judge-judgement.result c.in-Err.fault fault
    c.judge-judgement.ensures c.in-Err.is (same_refusal (Clear c.in-Err.fault) fault same))

pub returns-in-Ok-send-clause-value : goal.returns-in-Ok-send-clause-value
returns-in-Ok-send-clause-value g c =
    grown_says c.in-Ok-send.ensures.value (λ bytes steps sends.
    does_of c.args.self.now c.args.packet.now c.judge-judgement.result c.in-Ok.judged c.send.new.self bytes steps
    c.judge-judgement.ensures c.in-Ok.is sends)

pub returns-in-Err-Write-clause-prefix : goal.returns-in-Err-Write-clause-prefix
returns-in-Err-Write-clause-prefix g c = λ fails.
    cut_says (c.in-Err-Write.ensures.prefix (ap Err c.in-Err-Write.field-0-is)) (λ bytes sent.
    allowed_of c.args.self.now c.args.packet.now c.judge-judgement.result c.in-Ok.judged c.args.steps.now
    c.send.new.steps bytes c.judge-judgement.ensures c.in-Ok.is sent)

pub returns-in-Err-NoMemory-clause-fault : goal.returns-in-Err-NoMemory-clause-fault
returns-in-Err-NoMemory-clause-fault g c = λ fault same.
    let why = c.in-Err-NoMemory.ensures.memory (ap Err c.in-Err-NoMemory.field-0-is) in
    grown_nothing (λ bytes steps. RefusesClearPacket c.args.self.now (Some c.args.packet.now) fault bytes)
    (sink_state_of g.K.Sink c.args.out.now) (sink_state_of g.K.Sink c.send.new.out) c.args.steps.now c.send.new.steps
    why.0
    (refuses_memory c.args.self.now c.args.packet.now c.judge-judgement.result c.in-Ok.judged fault
    c.judge-judgement.ensures c.in-Ok.is why.1 (same_refusal NoMemory fault same))
