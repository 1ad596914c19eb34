use Rattle.sd_law_run.proofs.Used.{sent_once}
use Rattle.sd_law_run.proofs.airing.a_site_is_sent_once.Goals as goal

pub returns : goal.returns
returns c = sent_once
