use Rattle.std.proofs.Common.{◌∙◌, ap}
use Rattle.std.specs.Prelude.{map}
use Rattle.sd_head.specs.Kept.{uncounted}
use Rattle.sd_head.proofs.Numbering.{number_more, first_alike}
use Rattle.sd_head.proofs.Sends.{counter_next}
use Rattle.sd_head.proofs.sending.number.Goals as goal

pub loop-i-preserved : goal.loop-i-preserved
loop-i-preserved c = record {
  packets = number_more c.args.counter.now c.loop-i.i c.take.result c.args.packets.now c.loop-i.packets
      c.loop-i-test.true (c.take.ensures.value ∙ c.loop-i.invariant.next) c.loop-i.invariant.packets;
  next = counter_next c.args.counter.now c.loop-i.counter c.take.new.self c.loop-i.i c.loop-i.invariant.next
      c.take.ensures.next;
}

pub returns-clause-alike : goal.returns-clause-alike
returns-clause-alike c =
    ap (map uncounted) c.loop-i.invariant.packets
    ∙ first_alike c.args.counter.now c.loop-i.i c.args.packets.now
