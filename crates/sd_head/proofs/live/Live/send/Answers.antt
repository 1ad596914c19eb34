use Rattle.std.proofs.Common.{ap}
use Rattle.std.specs.Prelude.{Err}
use Rattle.sd_head.specs.declared.fault.LiveFault.TheVariants.{Write}
use Rattle.sd_head.proofs.Going.{sent_taken, sent_stops}
use Rattle.sd_head.proofs.Offering.{cut_says, grown_says, no_cause, same_fault}
use Rattle.sd_head.proofs.live.Live.send.Goals as goal

pub returns-in-Ok-clause-value : goal.returns-in-Ok-clause-value
returns-in-Ok-clause-value g c = grown_says c.in-Ok.ensures.value (λ bytes steps sends.
    sent_taken c.args.self.now c.count_sent.new.self c.send.new.self c.args.packet.now c.args.judged.now bytes steps
    c.sent-count.result c.period-last.result c.period.result c.told_of_sent.result c.requires.unmarked
    c.requires.judged sends c.count_sent.ensures.same c.count_sent.ensures.left_out c.count_sent.ensures.packets
    c.sent-count.ensures.count c.period-last.ensures c.period.ensures c.told_of_sent.ensures)

pub returns-in-Ok-clause-cause : goal.returns-in-Ok-clause-cause
returns-in-Ok-clause-cause g c =
    no_cause (g.K.Sink.faults c.args.out.now) (g.K.Sink.faults c.send.new.out) tt c.told_of_sent.result Write
    c.in-Ok.ensures.cause

pub returns-in-Err-clause-prefix : goal.returns-in-Err-clause-prefix
returns-in-Err-clause-prefix g c = λ failed.
    cut_says (c.in-Err.ensures.prefix (ap Err (same_fault c.in-Err.fault Write failed)))
    (λ bytes sent. sent_stops c.args.self.now c.args.packet.now c.args.judged.now c.args.steps.now c.send.new.steps
    bytes c.requires.unmarked c.requires.judged sent)
