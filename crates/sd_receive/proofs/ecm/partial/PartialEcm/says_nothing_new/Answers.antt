use Rattle.sd_receive.proofs.Asked.{says_otherwise}
use Rattle.sd_receive.proofs.ecm.partial.PartialEcm.says_nothing_new.Goals as goal

pub returns-else-same_header : goal.returns-else-same_header
returns-else-same_header c run gathered =
    says_otherwise c.args.part.now c.in-Some.last run c.args.self.now.part c.args.self.now.places.items
    c.same_header.result gathered c.in-Some.is c.same_header.ensures c.if-same_header.false
