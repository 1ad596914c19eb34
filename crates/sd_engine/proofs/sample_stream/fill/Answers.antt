use Rattle.std.proofs.Common.{ℕ, ◌+◌, ◌≡◌, ap, ◌∙◌, arith}
use Rattle.sd_engine.specs.Sample.{state_at, generated_before}
use Rattle.sd_engine.proofs.SampleStreams.{state_next, piece_more}
use Rattle.sd_engine.proofs.sample_stream.fill.Goals as goal

pub loop-i-preserved : goal.loop-i-preserved
loop-i-preserved c = λ number e.
    let before = c.loop-i.invariant number e in
    let m : c.args.first + c.loop-i.i + 1 ≡ c.args.first + (c.loop-i.i + 1) = omega arith in (
      state_next number (c.args.first + c.loop-i.i) c.loop-i.state c.packet.new.state before.0 c.packet.ensures.state
          ∙ ap (λ (k : ℕ). state_at number (generated_before k)) m,
      piece_more number c.args.first c.loop-i.i c.loop-i.state c.loop-i.piece c.packet.result
          (omega (arith, c.loop-i-test.true, c.loop-i.auto.piece)) before.1 before.0 c.packet.ensures.value,
    )
