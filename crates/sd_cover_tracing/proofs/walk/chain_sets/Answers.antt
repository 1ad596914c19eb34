use Rattle.std.proofs.lemmas.Grind.{common_steps}
use Rattle.std.proofs.Common.{arith, ◌<◌, length, rules}
use Rattle.sd_cover_tracing.proofs.Sorting.{sorted_cover}
use Rattle.sd_cover_tracing.proofs.walk.chain_sets.Goals as goal

pub returns : goal.returns
returns c =
    let some : 0 < length c.args.revoked.now = search rules in
    sorted_cover c.args.h c.from.result c.args.revoked.now c.new-sets.result.items c.walk.new.sets.items
    c.sort_unstable.new.self.items
    c.requires.leaves some (search rules) c.new-sets.ensures.items (search rules) c.sort_unstable.ensures.permutation
    (search rules)

pub returns-then-is_empty : goal.returns-then-is_empty
returns-then-is_empty c = grind (arith, common_steps)
