use Rattle.std.proofs.Common.{◌∙◌}
use Rattle.std.proofs.lemmas.List.{take_all}
use Rattle.sd_lsd.proofs.Covers.{parts_more}
use Rattle.sd_lsd.proofs.cover.split.Goals as goal

pub loop-name-preserved : goal.loop-name-preserved
loop-name-preserved c =
    (rw c.loop-name.invariant at c.in_ok-push_parts.ensures)
    ∙ parts_more c.args.w c.args.sets.now c.loop-name.name-index _ c.loop-name-test.true

pub returns-clause-parts : goal.returns-clause-parts
returns-clause-parts c =
    let all = rw (take_all c.loop-name.name-index c.args.sets.now c.loop-name-test.false) at c.loop-name.invariant in
    rw all at c.sort_unstable.ensures.permutation
