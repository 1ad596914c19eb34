use Rattle.sd_engine.proofs.Walking.{none_broken}
use Rattle.sd_law_formats.proofs.streams.whole_packets_are_taken.Goals as goal

pub returns-clause-unbroken : goal.returns-clause-unbroken
returns-clause-unbroken c = none_broken
