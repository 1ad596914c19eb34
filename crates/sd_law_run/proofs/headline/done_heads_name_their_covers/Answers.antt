use Rattle.sd_law_run.proofs.Sent.{head_done}
use Rattle.sd_law_run.proofs.headline.done_heads_name_their_covers.Goals as goal

pub returns : goal.returns
returns c words site book clear out files a b order told answers =
    head_done words site book clear out files a b order told answers
