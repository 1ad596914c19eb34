-- What a period's sections share out, for the law on all of them.
use Rattle.sd_message.proofs.EmmSharing.{as_many, stands_at, index_is, set_stands, joined_are_all, all_are_of}
use Rattle.sd_message.proofs.EmmSharing.{two_say_the_same, all_are_emms}

pub ruleset shared_sections =
    (as_many, stands_at, index_is, set_stands, joined_are_all, all_are_of, two_say_the_same, all_are_emms)
