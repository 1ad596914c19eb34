use Rattle.std.proofs.Common.{◌≡◌, ◌++◌, length, map}
use Rattle.serde_json.specs.View.{view}
use Rattle.sd_psi.specs.Tables.{streams_in, streams_of}
use Rattle.sd_run_streams.specs.TableLines.{stream_data}
use Rattle.sd_run_streams.proofs.pmt.streams_value.Given as goal

abbrev pub invariant-loop-stream : goal.invariant-loop-stream
invariant-loop-stream l =
    map view l.streams.items ++ map stream_data (streams_in l.rest.bytes.now)
    ≡ map stream_data (streams_of l.pmt.section.bytes.now)

abbrev pub decreases-loop-stream : goal.decreases-loop-stream
decreases-loop-stream l = length (streams_in l.rest.bytes.now)
