use Rattle.std.proofs.Common.{◌∙◌, sym}
use Rattle.sd_site_cards.specs.SiteFields.{site_fields_of}
use Rattle.sd_head.proofs.Telling.{none_due, some_due}
use Rattle.sd_head.proofs.sender.Sender.prepare.Goals as goal

pub returns-in-Some-clause-value : goal.returns-in-Some-clause-value
returns-in-Some-clause-value c =
    some_due (site_fields_of c.args.site.now) c.args.crypto.now c.args.clear.now.count c.in-Some.number
    c.make_ready.result (sym c.in-Some.is ∙ c.requires.due) c.make_ready.ensures.value

pub returns-in-None-clause-value : goal.returns-in-None-clause-value
returns-in-None-clause-value c =
    none_due (site_fields_of c.args.site.now) c.args.crypto.now c.args.clear.now.count
    (sym c.in-None.is ∙ c.requires.due)
