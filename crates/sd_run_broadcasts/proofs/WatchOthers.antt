-- `watch` never means `Usage`.
use Rattle.sd_command_base.specs.Spec.{FileArgument, Readings, whole_file_bytes, value}
use Rattle.sd_command_base.proofs.Others.{IsOther, other_after, other_stream}
use Rattle.sd_run_broadcasts.specs.Receive.{card_of_file}
use Rattle.sd_run_broadcasts.specs.Watch.{watch_meaning, watched_meaning, watching}
use Rattle.sd_run_broadcasts.proofs.ReceiveOthers.{other_card_file}

pub other_watch : (card stream out : FileArgument) (given : Readings) →
    IsOther (watch_meaning card stream out given).result
unfolding watch_meaning
other_watch card stream out given =
    other_after (card_of_file card.number (given card)).calls (card_of_file card.number (given card)).result
    (λ fields. watched_meaning fields stream out given) (other_card_file card.number (given card))
    (λ fields. other_after (whole_file_bytes stream.number (given stream)).calls (whole_file_bytes stream.number
    (given stream)).result
    (λ bytes. value (watching fields out bytes)) (other_stream stream.number (given stream)) (λ bytes. tt))
