-- Public meaning: `sample NUMBER PACKETS OUT` [this project, docs/FORMATS.md, Sample].
use Rattle.std.specs.Prelude.{ℕ}
use Rattle.sd_engine.specs.Sample.{sample_of}
use Rattle.sd_command_base.specs.Spec.{Spec, FileArgument, Readings, value}
use Rattle.sd_command_base.specs.Work.{NoSteps, Work}
use Rattle.sd_command_base.specs.Made.{making}

abbrev pub sample_meaning : ℕ → ℕ → FileArgument → Readings → Spec Work
sample_meaning number packets out given = value (making NoSteps out (sample_of number packets))
