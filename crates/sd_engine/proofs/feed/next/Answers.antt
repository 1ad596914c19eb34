use Rattle.sd_engine.proofs.Feeding.{none_given, packet_given}
use Rattle.sd_engine.proofs.feed.next.Goals as goal

pub returns-in-Ok-Some-clause-value : goal.returns-in-Ok-Some-clause-value
returns-in-Ok-Some-clause-value g c =
    packet_given _ _ _ _ _ _ _ c.in_ok-span.ensures.value c.in_ok-span.ensures.within
    (rw c.in-Ok-Some.field-0-is at c.in-Ok-Some.ensures)

pub returns-in-Ok-None-clause-value : goal.returns-in-Ok-None-clause-value
returns-in-Ok-None-clause-value g c =
    none_given _ _ _ _ c.in_ok-span.ensures.value (rw c.in-Ok-None.field-0-is at c.in-Ok-None.ensures)
