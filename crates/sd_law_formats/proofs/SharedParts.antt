-- What a message's parts share out, for the law on all of them, and the parity of a table_id.
use Rattle.sd_message.proofs.EcmDeciding.{read_parity}
use Rattle.sd_message.proofs.EcmReading.{table_of_section, parity_of_section}
use Rattle.sd_message.proofs.EcmSharing.{as_many, stands_at, number_is, place_stands, joined_are_all, all_ascend}
use Rattle.sd_message.proofs.EcmSharing.{all_are_of, two_say_the_same, all_are_ecms}

pub ruleset shared_parts = (
  as_many,
  stands_at,
  number_is,
  place_stands,
  joined_are_all,
  all_ascend,
  all_are_of,
  two_say_the_same,
  all_are_ecms,
)

pub ruleset parities = (table_of_section, parity_of_section, read_parity)
