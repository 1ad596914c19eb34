use Rattle.std.proofs.Common.{◌≡◌, arith, ◌∙◌, ap, ℕ, List, ◌++◌, ◌∷◌, [], length, set}
use Rattle.std.specs.Vec.{with_items}
use Rattle.std.specs.Prelude.{IsOk}
use Rattle.std.proofs.lemmas.List.{with_items_is, length-set}
use Rattle.sd_packet.specs.Header.{pid_of}
use Rattle.sd_receive.specs.declared.buffer.tracked.HeldPacket.{HeldPacket}
use Rattle.sd_receive.proofs.HoldKeeping.{kept_more, position_within}
use Rattle.sd_receive.proofs.buffer.tracked.TrackedPackets.hold.Goals as goal

pub step-position-requires-clause-low : goal.step-position-requires-clause-low
step-position-requires-clause-low c = rw c.deref_mut.ensures.value (position_within c.args.self.now c.args.packet.now
    c.requires.kept)

pub returns-clause-kept : goal.returns-clause-kept
returns-clause-kept c =
    let one : HeldPacket = record {
      number = c.args.number;
      position = c.step-position.result;
      packet =
          c.args.packet.now;
    } in
    let ok : IsOk c.push.result = c.push.ensures.succeeds (omega arith) in
    let items : c.push.new.self.items ≡ c.args.self.now.held.items ++ one ∷ [] = rw ok at c.push.ensures.items in
    let written : c.step-position.new.table ≡ set c.args.self.now.table.items (pid_of c.args.packet.now)
    c.step-position.result =
    rw c.deref_mut.ensures.value at c.step-position.ensures.table in
    let long : length c.step-position.new.table ≡ length c.args.self.now.table.items =
    ap (λ (t : List ℕ). length t) written ∙ length-set c.args.self.now.table.items (pid_of c.args.packet.now)
    c.step-position.result in
    let same : (with_items c.args.self.now.table c.step-position.new.table).items ≡ c.step-position.new.table =
    with_items_is c.args.self.now.table c.step-position.new.table
    (omega (arith, long, c.deref_mut.ensures.len, ap (λ (t : List ℕ). length t) c.deref_mut.ensures.value)) in
    kept_more c.args.self.now c.push.new.self (with_items c.args.self.now.table c.step-position.new.table) one
    c.requires.kept
    c.requires.room items (omega (arith, c.requires.kept.room, c.push.ensures.capacity))
    (rw c.deref_mut.ensures.value at c.step-position.ensures.value) (same ∙ written)
