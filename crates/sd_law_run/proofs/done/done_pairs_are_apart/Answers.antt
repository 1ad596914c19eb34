use Rattle.sd_law_run.proofs.Paired.{apart_done}
use Rattle.sd_law_run.proofs.done.done_pairs_are_apart.Goals as goal

pub returns : goal.returns
returns c words site book other more files a b order known answers =
    apart_done words site book other more files a b order known answers
