use Rattle.std.proofs.Common.{◌≡◌}
use Rattle.std.specs.Prelude.{None}
use Rattle.sd_receive.specs.Receiving.{IsSoundReceiver}
use Rattle.sd_test_stages.proofs.receive.refused.Given as goal

-- the receiver may be offered the next packet
abbrev pub invariant-loop-packet : goal.invariant-loop-packet
invariant-loop-packet g l = record {
  fit : IsSoundReceiver l.receiver;
  unrefused : l.receiver.refusal ≡ None;
}
