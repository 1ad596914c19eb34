use Rattle.std.proofs.Common.{refl, inl, arith}
use Rattle.sd_engine.proofs.Feeding.{count_waits, nothing_read}
use Rattle.sd_engine.proofs.feed.fill.Goals as goal

pub returns-then-span-ge-SIZE-clause-value : goal.returns-then-span-ge-SIZE-clause-value
returns-then-span-ge-SIZE-clause-value g c =
    let count = count_waits c.args.piece.now c.args.span.at c.args.span.filled c.requires.within in
    record {
      read = nothing_read _ _ _ refl;
      enough = inl (omega (arith, c.if-span-ge-SIZE.true, count));
    }
