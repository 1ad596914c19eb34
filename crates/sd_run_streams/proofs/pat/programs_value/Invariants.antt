use Rattle.std.proofs.Common.{◌≡◌, ◌++◌, length, map}
use Rattle.serde_json.specs.View.{view}
use Rattle.sd_psi.specs.Tables.{programs_in, programs_of}
use Rattle.sd_run_streams.specs.TableLines.{program_data}
use Rattle.sd_run_streams.proofs.pat.programs_value.Given as goal

abbrev pub invariant-loop-number : goal.invariant-loop-number
invariant-loop-number l =
    map view l.programs.items ++ map program_data (programs_in l.rest.bytes.now)
    ≡ map program_data (programs_of l.pat.section.bytes.now)

abbrev pub decreases-loop-number : goal.decreases-loop-number
decreases-loop-number l = length (programs_in l.rest.bytes.now)
