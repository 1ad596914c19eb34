use Rattle.std.proofs.Common.{arith, rules, ◌∙◌, ◌+◌, sym}
use Rattle.std.proofs.lemmas.Grind.{common_steps}
use Rattle.sd_base.proofs.Cuts.{cut_at_feed, no_feed, to_the_end, line_left}
use Rattle.sd_base.proofs.lines.next_line.Goals as goal

pub returns-then-is_empty-clause-none : goal.returns-then-is_empty-clause-none
returns-then-is_empty-clause-none c = grind (arith, common_steps)

pub returns-then-is_empty-clause-first : goal.returns-then-is_empty-clause-first
returns-then-is_empty-clause-first c = tt

pub returns-then-is_empty-clause-shorter : goal.returns-then-is_empty-clause-shorter
returns-then-is_empty-clause-shorter c = tt

pub returns-in-Some-clause-none : goal.returns-in-Some-clause-none
returns-in-Some-clause-none c = line_left c.args.bytes.now (sym c.is_empty.ensures ∙ c.if-is_empty.false)

pub returns-in-Some-clause-first : goal.returns-in-Some-clause-first
returns-in-Some-clause-first c =
    rw (to_the_end (c.in-Some.end + 1) c.args.bytes.now) (cut_at_feed c.args.bytes.now c.in-Some.end
    (search rules) (search rules) (search rules))

pub returns-in-None-clause-none : goal.returns-in-None-clause-none
returns-in-None-clause-none c = line_left c.args.bytes.now (sym c.is_empty.ensures ∙ c.if-is_empty.false)

pub returns-in-None-clause-first : goal.returns-in-None-clause-first
returns-in-None-clause-first c = no_feed c.args.bytes.now (search rules) (search rules)
