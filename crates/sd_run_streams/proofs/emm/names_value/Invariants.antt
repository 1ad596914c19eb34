use Rattle.std.proofs.Common.{◌≡◌, map, take}
use Rattle.serde_json.specs.View.{view}
use Rattle.sd_message.specs.EmmSpelled.{names_in}
use Rattle.sd_run_streams.specs.MessageLines.{name_data}
use Rattle.sd_run_streams.proofs.emm.names_value.Given as goal

abbrev pub invariant-loop-entry : goal.invariant-loop-entry
invariant-loop-entry l = map view l.names.items ≡ map name_data (names_in (take l.entry-index l.fn.entries))
