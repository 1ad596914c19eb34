use Rattle.sd_law_rules.proofs.Own.{own_tells, own_sound, own_sound_if_clear}
use Rattle.sd_law_rules.proofs.rules.receivers_judge_is_sound.Goals as goal

pub returns-clause-tells : goal.returns-clause-tells
returns-clause-tells c = λ plan clear kept a j is between. own_tells plan is clear kept a j between

pub returns-clause-clear : goal.returns-clause-clear
returns-clause-clear c = own_sound_if_clear

pub returns-clause-sendable : goal.returns-clause-sendable
returns-clause-sendable c = own_sound
