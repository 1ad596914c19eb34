use Rattle.sd_law_run.proofs.Ordered.{head_answers, card_answers, receive_answers}
use Rattle.sd_law_run.proofs.headline.words_are_their_commands.Goals as goal

pub returns-clause-head : goal.returns-clause-head
returns-clause-head c names a b answer site book clear answers =
    head_answers names a b answer site book clear answers

pub returns-clause-card : goal.returns-clause-card
returns-clause-card c names leaf u a b answer apart says low answers =
    card_answers names leaf u a b answer apart says low answers

pub returns-clause-receive : goal.returns-clause-receive
returns-clause-receive c names a b answer card stream answers =
    receive_answers names a b answer card stream answers
