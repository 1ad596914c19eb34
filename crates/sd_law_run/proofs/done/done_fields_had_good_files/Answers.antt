use Rattle.sd_law_run.proofs.Played.{field_done}
use Rattle.sd_law_run.proofs.done.done_fields_had_good_files.Goals as goal

pub returns : goal.returns
returns c words site clear script files a b order known answers =
    field_done words site clear script files a b order known answers
