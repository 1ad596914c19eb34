use Rattle.sd_law_run.proofs.Parts.{all_sendable, head_part, card_part, receive_part}
use Rattle.sd_law_run.proofs.headline.exactly_the_unrevoked_receive.Goals as goal

pub returns-clause-head : goal.returns-clause-head
returns-clause-head c names plan clear a b answer given answers well =
    head_part names plan clear a given b answer answers well

pub returns-clause-card : goal.returns-clause-card
returns-clause-card c names site u a b answer good leaf answers well =
    card_part names site u a b answer good leaf answers well

pub returns-clause-receive : goal.returns-clause-receive
returns-clause-receive c names plan u clear z a b answer given leaf card stream answers well =
    receive_part plan clear (all_sendable names plan clear z given) names u a b answer leaf card stream answers well
