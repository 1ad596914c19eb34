use Rattle.std.proofs.Common.{inl, inr, arith}
use Rattle.sd_engine.specs.Feeding.{waiting}
use Rattle.sd_engine.proofs.Feeding.{count_waits}
use Rattle.sd_engine.proofs.Searching.{filled_before}
use Rattle.sd_engine.proofs.seeking.fill_ahead.Goals as goal
use Rattle.sd_engine.proofs.seeking.fill_ahead.Goals.{then-ahead-via-then-ahead}
use Rattle.sd_engine.proofs.seeking.fill_ahead.Goals.{then-ahead-via-else-ahead+then-ahead-gt-SIZE}

pub returns-then-ahead-clause-value : goal.returns-then-ahead-clause-value
returns-then-ahead-clause-value g c =
    filled_before (g.S.Source.left c.args.source.now)
    (waiting c.args.piece.now c.args.ahead.at c.args.ahead.filled) c.args.ahead.ended (elim c.then-ahead.branch [
      | then-ahead-via-then-ahead w ↦ inr w.if-ahead.true
      | then-ahead-via-else-ahead+then-ahead-gt-SIZE w ↦ inl
          (omega (
            arith,
            w.if-ahead-gt-SIZE.true,
            count_waits c.args.piece.now c.args.ahead.at c.args.ahead.filled
                c.requires.within,
          ))
    ])
