use Rattle.std.proofs.Common.{map, refl}
use Rattle.std.proofs.lemmas.Result.{IfOk-from_err}
use Rattle.sd_psi.specs.Tables.{streams_in, streams_of}
use Rattle.sd_run_streams.specs.TableLines.{stream_data}
use Rattle.sd_run_streams.proofs.Growing.{all_shown, fewer_left, first_shown, list_shown}
use Rattle.sd_run_streams.proofs.pmt.streams_value.Goals as goal

-- all streams are left
pub loop-stream-init : goal.loop-stream-init
loop-stream-init c = rw (c.new-streams.ensures.items, c.streams-rest.ensures) refl

-- one more stream has its value
pub loop-stream-preserved : goal.loop-stream-preserved
loop-stream-preserved c = first_shown stream_data c.loop-stream.streams.items c.push.new.self.items
    c.in_ok-stream_value.field-0 (streams_in c.loop-stream.rest.bytes.now) (streams_in c.next.new.self.bytes.now) _ _
    c.in_ok-push.ensures.items c.in_ok-stream_value.ensures c.in-Some.ensures.value c.loop-stream.invariant

pub loop-stream-smaller : goal.loop-stream-smaller
loop-stream-smaller c = fewer_left (streams_in c.loop-stream.rest.bytes.now) (streams_in c.next.new.self.bytes.now) _
    c.in-Some.ensures.value

pub returns-in_err-stream_value : goal.returns-in_err-stream_value
returns-in_err-stream_value c = IfOk-from_err c.from_residual.result _ c.from_residual.ensures.0

pub returns-in_err-push : goal.returns-in_err-push
returns-in_err-push c = IfOk-from_err c.from_residual-in_err-push.result _ c.from_residual-in_err-push.ensures.0

-- no stream is left
pub returns : goal.returns
returns c = list_shown c.loop-stream.streams (map stream_data (streams_of c.args.pmt.now.section.bytes.now))
    (all_shown stream_data _ _ (streams_in c.loop-stream.rest.bytes.now) (c.in_default.ensures.none.0 refl)
    c.loop-stream.invariant)
