use Rattle.sd_law_chain.proofs.Making.{next_alone, next_exactly, twin_alone, twin_exactly}
use Rattle.sd_law_chain.proofs.made.calls_make_the_next_site.Goals as goal

pub returns-clause-next : goal.returns-clause-next
returns-clause-next c = next_exactly

pub returns-clause-next_alone : goal.returns-clause-next_alone
returns-clause-next_alone c = next_alone

pub returns-clause-twin : goal.returns-clause-twin
returns-clause-twin c = twin_exactly

pub returns-clause-twin_alone : goal.returns-clause-twin_alone
returns-clause-twin_alone c = twin_alone
