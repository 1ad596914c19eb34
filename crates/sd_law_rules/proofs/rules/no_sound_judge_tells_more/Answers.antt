use Rattle.sd_law_rules.proofs.Worlds.{traced_where_told, traced_where_clear}
use Rattle.sd_law_rules.proofs.rules.no_sound_judge_tells_more.Goals as goal

pub returns-clause-clear : goal.returns-clause-clear
returns-clause-clear c = λ plan judge clear kept a j p is sound between.
    traced_where_clear plan is clear kept a j between judge p sound

pub returns-clause-sendable : goal.returns-clause-sendable
returns-clause-sendable c = λ plan judge clear kept a j p is sound between.
    traced_where_told plan is clear kept a j between judge p sound
