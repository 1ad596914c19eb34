use Rattle.std.proofs.Common.{rules, ◌≤◌}
use Rattle.sd_tree_keys.specs.declared.height.TheConstants.{HIGHEST}
use Rattle.sd_cover_tracing.proofs.There.{as_listed}
use Rattle.sd_cover_tracing.proofs.walk.cover.Goals as goal

pub returns-clause-value : goal.returns-clause-value
returns-clause-value c =
    let low : c.args.h ≤ HIGHEST = search rules in
    as_listed c.args.h c.args.revoked.now _ low c.requires.leaves (search rules)
