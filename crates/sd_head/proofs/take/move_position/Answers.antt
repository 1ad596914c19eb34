use Rattle.std.proofs.Common.{◌<◌, sym, subst, ◌∙◌}
use Rattle.std.specs.Prelude.{Option, IfSome}
use Rattle.sd_head.specs.declared.judged.Move.{Move}
use Rattle.sd_head.specs.Known.{ArePids}
use Rattle.sd_head.specs.Follows.{IsMoveOf}
use Rattle.sd_head.proofs.Moving.{positions_unmoved, positions_after, pids_unmoved, pids_first, pids_again, known_more}
use Rattle.sd_head.proofs.take.move_position.Goals as goal

pub returns-in_default-clause-placed : goal.returns-in_default-clause-placed
returns-in_default-clause-placed c = λ before packet none are.
    positions_unmoved before packet c.args.positions.now
    (subst (IsMoveOf c.args.positions.now packet) c.in_default.is none) are

pub returns-in_default-clause-moved : goal.returns-in_default-clause-moved
returns-in_default-clause-moved c = λ before packet none are moved.
    pids_unmoved before packet c.args.pids.now.items
    (subst (IsMoveOf c.args.positions.now packet) c.in_default.is none) moved

pub returns-then-next-clause-placed : goal.returns-then-next-clause-placed
returns-then-next-clause-placed c = λ before packet makes are.
    positions_after before packet c.args.positions.now c.from.result c.in-Some.next
    (subst (IsMoveOf c.args.positions.now packet) c.in-Some.is makes) c.requires.long c.from.ensures are

pub returns-then-next-clause-moved : goal.returns-then-next-clause-moved
returns-then-next-clause-moved c = λ before packet makes are moved.
    c.add.ensures.value
    ∙ pids_first before packet c.args.positions.now c.args.pids.now.items c.in-Some.next
    (subst (IsMoveOf c.args.positions.now packet) c.in-Some.is makes) c.if-next.true are moved

pub returns-then-next-clause-known : goal.returns-then-next-clause-known
returns-then-next-clause-known c =
    subst ArePids (sym c.add.ensures.value)
    (known_more c.in-Some.next.pid c.args.pids.now.items
    (subst (λ (next : Option Move). IfSome next (λ move. move.pid < 8192)) c.in-Some.is c.requires.pid)
    c.requires.known)

pub returns-else-next-clause-placed : goal.returns-else-next-clause-placed
returns-else-next-clause-placed c = λ before packet makes are.
    positions_after before packet c.args.positions.now c.from.result c.in-Some.next
    (subst (IsMoveOf c.args.positions.now packet) c.in-Some.is makes) c.requires.long c.from.ensures are

pub returns-else-next-clause-moved : goal.returns-else-next-clause-moved
returns-else-next-clause-moved c = λ before packet makes are moved.
    pids_again before packet c.args.positions.now c.args.pids.now.items c.in-Some.next
    (subst (IsMoveOf c.args.positions.now packet) c.in-Some.is makes) c.if-next.false are moved
