use Rattle.std.proofs.Common.{take}
use Rattle.sd_message.specs.EcmForm.{ArePidsAscending}
use Rattle.sd_message.proofs.ecm_order.are_ascending.Given as goal

-- the PIDs before k ascend
abbrev pub invariant-loop-k : goal.invariant-loop-k
invariant-loop-k l = ArePidsAscending (take l.k l.places)
