use Rattle.sd_command_base.specs.Spec.{contents_of}
use Rattle.sd_law_run.proofs.Operators.{apart_good, apart_clashes}
use Rattle.sd_law_run.proofs.laws.good_sites_are_judged.Goals as goal

pub returns : goal.returns
returns c = record {
  apart = λ words files. apart_good words (contents_of files);
  clash = λ words files. apart_clashes words (contents_of files);
}
