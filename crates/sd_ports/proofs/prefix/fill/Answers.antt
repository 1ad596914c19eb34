use Rattle.std.proofs.Common.{arith, ◌∙◌}
use Rattle.sd_ports.proofs.Prefixes.{all_read, first_read, none_kept, read_failed, read_more}
use Rattle.sd_ports.proofs.prefix.fill.Goals as goal

pub returns-in-Ok-eq0 : goal.returns-in-Ok-eq0
returns-in-Ok-eq0 g c =
    let loop = c.loop-turn.invariant in
    let read = c.in-Ok-eq0.ensures in
    all_read _ _ _ _ _ _ _ _ _ loop.gone read.bytes.0 c.in-Ok-eq0.field-0-test
    (read.bytes.1 c.in-Ok-eq0.field-0-test (omega arith)) loop.within (read.cause.calm ∙ loop.calm)

pub returns-in-Err : goal.returns-in-Err
returns-in-Err g c =
    let loop = c.loop-turn.invariant in
    let read = c.in-Err.ensures in
    read_failed _ _ _ _ _ _ _ _ _ loop.gone read.bytes loop.calm read.cause.later read.cause.failed

pub returns-in_default : goal.returns-in_default
returns-in_default g c =
    let loop = c.loop-turn.invariant in
    let read = c.in-Ok.ensures in
    none_kept _ _ _ _ _ _ _ _ _ loop.gone read.bytes.0 (read.cause.calm ∙ loop.calm)

pub returns-then-over : goal.returns-then-over
returns-then-over g c =
    let loop = c.loop-turn.invariant in
    let read = c.in-Ok.ensures in
    let keep = c.in-Ok-keep.ensures in
    first_read _ _ _ _ _ _ _ _ _ _ loop.gone read.bytes.0 keep.kept keep.over c.if-over.true
    (read.cause.calm ∙ loop.calm)

pub loop-turn-preserved : goal.loop-turn-preserved
loop-turn-preserved g c =
    let loop = c.loop-turn.invariant in
    let read = c.in-Ok.ensures in
    let keep = c.in-Ok-keep.ensures in
    let more = read_more _ _ _ _ _ _ _ _ loop.gone read.bytes.0 keep.kept keep.over c.if-over.false in
    record {
      turns = omega (arith, more.1, loop.turns);
      within = more.2;
      gone = more.0;
      calm = read.cause.calm ∙ loop.calm;
    }
