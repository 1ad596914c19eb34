use Rattle.std.proofs.Common.{inl, arith, sym, ◌∙◌}
use Rattle.sd_engine.proofs.Feeding.{count_waits}
use Rattle.sd_engine.proofs.Searching.{search_begins}
use Rattle.sd_engine.proofs.seeking.find.Goals as goal

pub returns-then-begins-clause-value : goal.returns-then-begins-clause-value
returns-then-begins-clause-value g c =
    let count = count_waits c.args.piece.now c.args.ahead.at c.args.ahead.filled c.requires.within in
    record {
      so = search_begins _ _ _ _;
      first = (inl (omega (arith, count, c.if-ahead-gt-SIZE.true)), inl (sym c.begins.ensures ∙ c.if-begins.true));
    }
