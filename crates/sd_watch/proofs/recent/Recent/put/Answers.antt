use Rattle.std.proofs.Common.{arith, ℕ, refl, ap}
use Rattle.std.specs.Prelude.{set}
use Rattle.sd_watch.proofs.Recents.{replaced}
use Rattle.sd_watch.proofs.recent.Recent.put.Goals as goal

-- src/copies.rt:46:5
pub returns : goal.returns
returns c past is scrambled =
    replaced past c.args.packet.now c.args.self.now _ is scrambled
    (omega (arith, c.if-len-lt-MOST_AGAIN.false, c.len.ensures)) c.args.self.now.place refl refl
    (ap (λ (tag : ℕ). set c.args.self.now.tags c.args.self.now.oldest tag) c.tag_of-2.ensures)
