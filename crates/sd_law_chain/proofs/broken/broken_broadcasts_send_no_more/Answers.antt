use Rattle.sd_law_chain.proofs.BrokenOff.{body_begins, first_are_clear, sent_before, sent_is_of_broadcast}
use Rattle.sd_law_chain.proofs.broken.broken_broadcasts_send_no_more.Goals as goal

pub returns-clause-first : goal.returns-clause-first
returns-clause-first c = sent_before

pub returns-clause-sent : goal.returns-clause-sent
returns-clause-sent c = sent_is_of_broadcast

pub returns-clause-packets : goal.returns-clause-packets
returns-clause-packets c = body_begins

pub returns-clause-clear : goal.returns-clause-clear
returns-clause-clear c = first_are_clear
