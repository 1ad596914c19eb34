use Rattle.std.proofs.Common.{rules, ◌≡◌, arith}
use Rattle.std.specs.Vec.{with_items}
use Rattle.std.proofs.lemmas.List.{with_items_is}
use Rattle.sd_receive.proofs.HoldKeeping.{kept_none}
use Rattle.sd_receive.proofs.buffer.tracked.TrackedPackets.reset.Goals as goal

pub returns-clause-kept : goal.returns-clause-kept
returns-clause-kept c =
    let same : (with_items c.args.self.now.table c.reset_table.new.table).items ≡ c.reset_table.new.table =
    with_items_is c.args.self.now.table c.reset_table.new.table
    (omega (arith, c.reset_table.ensures.long, c.requires.tracked.long, c.args.self.now.table.ok)) in
    kept_none _ c.clear.ensures.items c.clear-2.ensures.items (omega arith) (omega arith) (rw same
    c.reset_table.ensures)

pub reset_table-requires-clause-tracked : goal.reset_table-requires-clause-tracked
reset_table-requires-clause-tracked c = search rules
