use Rattle.std.proofs.Common.{◌≡◌, replicate, arith}
use Rattle.sd_receive.proofs.HoldKeeping.{kept_none, all_first}
use Rattle.sd_receive.proofs.buffer.tracked.TrackedPackets.new.Goals as goal

pub returns : goal.returns
returns c =
    let filled : c.resize.new.self.items ≡ replicate 8192 15 =
    rw (c.new-table.ensures.items, c.new-table.ensures.len) at c.in_ok-resize.ensures.items in
    kept_none _ c.in_ok-places.ensures.items c.in_ok-held.ensures.items (omega (arith, c.in_ok-held.ensures.capacity))
    (omega (arith, c.in_ok-places.ensures.capacity)) (rw filled all_first)
