use Rattle.std.proofs.Common.{subst}
use Rattle.sd_head.specs.Follows.{IsPatOf}
use Rattle.sd_head.proofs.Marking.{marked_now, marked_still}
use Rattle.sd_head.proofs.take.learn.Goals as goal

pub returns-in-Some : goal.returns-in-Some
returns-in-Some c = λ before packet pat marked.
    let own = subst (IsPatOf packet) c.in-Some.is pat in
    marked_now before packet c.in-Some.pat.section.bytes.now c.mark.new.marks own.0 own.1 c.mark.ensures

pub returns-in_default : goal.returns-in_default
returns-in_default c = λ before packet pat marked.
    marked_still before packet c.args.marks.now (subst (IsPatOf packet) c.in_default.is pat) marked
