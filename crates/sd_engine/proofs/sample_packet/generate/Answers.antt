use Rattle.std.proofs.Common.{◌+◌, ◌-◌, ◌≡◌, ◌∙◌, length-set, arith}
use Rattle.sd_engine.specs.Sample.{state_at}
use Rattle.sd_engine.proofs.Generator.{state_generated, byte_generated}
use Rattle.sd_engine.proofs.sample_packet.generate.Goals as goal

pub loop-i-preserved : goal.loop-i-preserved
loop-i-preserved c =
    let l = c.loop-i in
    let next : c.next-state.result ≡ state_at c.args.state (l.i + 1 - c.args.start) =
    state_generated c.args.state c.args.start l.i l.state c.next-state.result l.invariant.from l.invariant.state
    c.next-state.ensures in
    record {
      long = length-set _ _ _ ∙ l.invariant.long;
      from = omega (arith, l.invariant.from);
      state = next;
      bytes = byte_generated c.args.state c.args.start l.i c.next-state.result c.args.bytes.now l.bytes l.invariant.from
          (omega (arith, l.invariant.long, c.loop-i-test.true)) next l.invariant.bytes;
    }
