use Rattle.sd_run_streams.proofs.Few.{few_listed}
use Rattle.sd_run_streams.proofs.message_line.told_ecm.Goals as goal

pub ecm_value-requires : goal.ecm_value-requires
ecm_value-requires c =
    let sound = rw c.in-Ok-Some.field-0-is at c.in-Ok-Some.ensures.sound in
    few_listed c.in-Ok-Some.part sound.1
