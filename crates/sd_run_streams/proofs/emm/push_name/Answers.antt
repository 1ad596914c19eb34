use Rattle.std.proofs.Common.{rules}
use Rattle.sd_run_streams.specs.MessageLines.{set_word}
use Rattle.sd_run_streams.proofs.emm.push_name.Goals as goal

pub returns-in-Diff : goal.returns-in-Diff
unfolding set_word
returns-in-Diff c = search rules
