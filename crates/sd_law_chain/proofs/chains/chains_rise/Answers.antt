use Rattle.sd_law_chain.proofs.Rising.{words_rise, words_follow, words_are_had, words_are_as_asked, periods_never_fall}
use Rattle.sd_law_chain.proofs.Rising.{periods_rise, all_are_one_set, messages_are_three, all_are_sayable}
use Rattle.sd_law_chain.proofs.chains.chains_rise.Goals as goal

pub returns-clause-words : goal.returns-clause-words
returns-clause-words c = words_rise

pub returns-clause-follow : goal.returns-clause-follow
returns-clause-follow c = words_follow

pub returns-clause-some : goal.returns-clause-some
returns-clause-some c = words_are_had

pub returns-clause-count : goal.returns-clause-count
returns-clause-count c = words_are_as_asked

pub returns-clause-periods : goal.returns-clause-periods
returns-clause-periods c = periods_never_fall

pub returns-clause-next : goal.returns-clause-next
returns-clause-next c = periods_rise

pub returns-clause-set : goal.returns-clause-set
returns-clause-set c = all_are_one_set

pub returns-clause-messages : goal.returns-clause-messages
returns-clause-messages c = messages_are_three

pub returns-clause-sayable : goal.returns-clause-sayable
returns-clause-sayable c = all_are_sayable
