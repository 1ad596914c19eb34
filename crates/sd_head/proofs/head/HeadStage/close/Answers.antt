use Rattle.std.proofs.Common.{ap}
use Rattle.std.specs.Prelude.{None, Err}
use Rattle.sd_engine.specs.Stage.{sink_state_of}
use Rattle.sd_engine.proofs.Answering.{same_refusal}
use Rattle.sd_head.specs.Staged.{RefusesClearPacket}
use Rattle.sd_head.specs.declared.fault.HeadFault.TheVariants.{NoMemory}
use Rattle.sd_head.proofs.Offering.{grown_nothing, cut_says, allowed_end, none_found, wants_end}
use Rattle.sd_head.proofs.head.HeadStage.close.Goals as goal

pub returns-in-Err-Write-clause-prefix : goal.returns-in-Err-Write-clause-prefix
returns-in-Err-Write-clause-prefix g c = λ fails.
    cut_says (c.in-Err-Write.ensures.prefix (ap Err c.in-Err-Write.field-0-is)) (λ bytes sent.
    allowed_end c.args.self.now c.judge_end.result c.judge_end.ensures c.args.steps.now c.send_closing.new.steps bytes
    (none_found c.judge_end.result c.in_default-judge_end.not-Some) sent)

pub returns-in-Err-NoMemory-clause-fault : goal.returns-in-Err-NoMemory-clause-fault
returns-in-Err-NoMemory-clause-fault g c = λ fault same.
    let why = c.in-Err-NoMemory.ensures.memory (ap Err c.in-Err-NoMemory.field-0-is) in
    grown_nothing (λ bytes steps. RefusesClearPacket c.args.self.now None fault bytes)
    (sink_state_of g.K.Sink c.args.out.now) (sink_state_of g.K.Sink c.send_closing.new.out) c.args.steps.now
    c.send_closing.new.steps
    why.0 (wants_end c.args.self.now c.judge_end.result c.judge_end.ensures fault
    (none_found c.judge_end.result c.in_default-judge_end.not-Some) why.1 (same_refusal NoMemory fault same))
