use Rattle.std.proofs.Common.{rules, ◌≤◌, ◌≡◌, length, take, ◌∙◌, arith}
use Rattle.std.proofs.lemmas.List.{length-take-le}
use Rattle.sd_engine.proofs.SampleStreams.{piece_stays_long, piece_bytes, written_more, written_prefix}
use Rattle.sd_engine.proofs.sample_stream.sample.Goals as goal

pub loop-done-preserved : goal.loop-done-preserved
loop-done-preserved g c =
    let l = c.loop-done in
    let count = c.min-count.result in
    let few : count ≤ length l.piece = omega (arith, c.min-count.ensures, l.invariant.room) in
    let long : length (take count l.piece) ≡ count = length-take-le count l.piece few in
    let bytes =
    piece_bytes c.args.number l.done count c.fill.new.piece l.piece c.as_flattened.result.now few c.fill.auto.piece
    (c.fill.ensures.packets c.args.number l.invariant.state) c.as_flattened.ensures.value in
    record {
      room = piece_stays_long count c.fill.new.piece l.piece c.fill.auto.piece few ∙ l.invariant.room;
      within = omega (arith, c.min-count.ensures, c.loop-done-test.true);
      state = rw long at (c.fill.ensures.state c.args.number l.invariant.state);
      written =
          written_more _ _ _ c.args.number l.done count c.as_flattened.result.now l.invariant.written bytes
          c.in-Ok.ensures.all;
      calm = c.in-Ok.ensures.cause.calm ∙ l.invariant.calm;
    }

pub returns-in-Err-clause-prefix : goal.returns-in-Err-clause-prefix
returns-in-Err-clause-prefix g c =
    let l = c.loop-done in
    let count = c.min-count.result in
    let few : count ≤ length l.piece = omega (arith, c.min-count.ensures, l.invariant.room) in
    let bytes =
    piece_bytes c.args.number l.done count c.fill.new.piece l.piece c.as_flattened.result.now few c.fill.auto.piece
    (c.fill.ensures.packets c.args.number l.invariant.state) c.as_flattened.ensures.value in
    written_prefix _ _ _ c.args.number l.done count c.args.packets c.as_flattened.result.now
    (omega (arith, c.min-count.ensures, c.loop-done-test.true)) l.invariant.written bytes c.in-Err.ensures.prefix

pub returns-clause-ok : goal.returns-clause-ok
returns-clause-ok g c = search rules
