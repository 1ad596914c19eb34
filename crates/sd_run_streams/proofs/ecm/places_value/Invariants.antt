use Rattle.std.proofs.Common.{◌≡◌, map, take}
use Rattle.serde_json.specs.View.{view}
use Rattle.sd_run_streams.specs.MessageLines.{place_data}
use Rattle.sd_run_streams.proofs.ecm.places_value.Given as goal

abbrev pub invariant-loop-place : goal.invariant-loop-place
invariant-loop-place l = map view l.positions.items ≡ map place_data (take l.place-index l.fn.places)
