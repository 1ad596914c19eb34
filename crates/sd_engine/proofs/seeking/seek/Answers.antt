use Rattle.std.proofs.Common.{arith}
use Rattle.sd_engine.proofs.Searching.{found_end, found_packet, packet_waits}
use Rattle.sd_engine.proofs.seeking.seek.Goals as goal

pub behind-requires : goal.behind-requires
behind-requires g c =
    packet_waits _ _ _ _ _ _ _ _ _ _ _ c.in_ok-ahead.ensures.value c.in-Some.ensures c.in_ok-ahead.ensures.within

pub returns-in-Some-clause-begun : goal.returns-in-Some-clause-begun
returns-in-Some-clause-begun g c =
    omega (
      arith,
      c.in_ok-ahead.ensures.begun,
      c.behind.ensures.at,
      c.behind.ensures.filled,
      packet_waits _ _ _ _ _ _ _ _ _ _ _ c.in_ok-ahead.ensures.value c.in-Some.ensures c.in_ok-ahead.ensures.within,
    )

pub returns-in-Some-clause-value : goal.returns-in-Some-clause-value
returns-in-Some-clause-value g c =
    found_packet _ _ _ _ _ _ _ _ _ _ _ _ _ _ c.in_ok-ahead.ensures.value c.in-Some.ensures
    c.in_ok-ahead.ensures.within c.behind.ensures.at c.behind.ensures.filled c.behind.ensures.ended

pub returns-in-None-clause-value : goal.returns-in-None-clause-value
returns-in-None-clause-value g c = found_end _ _ _ _ _ _ _ _ c.in_ok-ahead.ensures.value c.in-None.ensures
