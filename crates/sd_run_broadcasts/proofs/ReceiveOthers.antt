-- `receive` never means `Usage`.
use Rattle.std.proofs.Common.{ℕ, List, Option}
use Rattle.sd_site_cards.specs.CardFaults.{fault_in}
use Rattle.sd_command_base.specs.declared.status.LimitKind.TheVariants.{CardBytes}
use Rattle.sd_command_base.specs.Spec.{FileArgument, Readings, whole_file_bytes, of_result, value, within}
use Rattle.sd_command_base.specs.Files.{most_card_bytes}
use Rattle.sd_command_base.proofs.Others.{IsOther, other_after, other_file, other_stream}
use Rattle.sd_command_base.proofs.CardFaults.{other_unless}
use Rattle.sd_run_broadcasts.specs.Receive.{card_said, card_refusal, card_of_file, receiving, receive_stream_meaning}
use Rattle.sd_run_broadcasts.specs.Receive.{receive_meaning}

other_receiver : (word : ℕ) (bytes : List ℕ) → IsOther (card_refusal word bytes)
unfolding card_refusal
other_receiver word bytes = other_unless word (fault_in bytes) (card_said bytes)

pub other_card_file : (word : ℕ) (got : Option (List ℕ)) → IsOther (card_of_file word got).result
unfolding card_of_file
other_card_file word got =
    other_after (within word most_card_bytes CardBytes got).calls (within word most_card_bytes CardBytes got).result
    (λ bytes. of_result (card_refusal word bytes)) (other_file word most_card_bytes CardBytes got) (other_receiver word)

pub other_receive : (card stream out : FileArgument) (given : Readings) →
    IsOther (receive_meaning card stream out given).result
unfolding receive_meaning
other_receive card stream out given =
    other_after (card_of_file card.number (given card)).calls (card_of_file card.number (given card)).result
    (λ fields. receive_stream_meaning fields stream out given) (other_card_file card.number (given card))
    (λ fields. other_after (whole_file_bytes stream.number (given stream)).calls (whole_file_bytes stream.number
    (given stream)).result
    (λ bytes. value (receiving fields out bytes)) (other_stream stream.number (given stream)) (λ bytes. tt))
