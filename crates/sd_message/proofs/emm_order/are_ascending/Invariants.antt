use Rattle.std.proofs.Common.{take}
use Rattle.sd_tree_keys.specs.SetNames.{AreAscending}
use Rattle.sd_message.specs.EmmSpelled.{names_in}
use Rattle.sd_message.proofs.emm_order.are_ascending.Given as goal

-- the sets before k ascend
abbrev pub invariant-loop-k : goal.invariant-loop-k
invariant-loop-k l = AreAscending (take l.k (names_in l.entries))
