use Rattle.std.proofs.Common.{arith}
use Rattle.sd_site_cards.specs.SiteFields.{site_fields_of}
use Rattle.sd_head.proofs.Telling.{may_be_sent}
use Rattle.sd_head.proofs.sender.Sender.make_ready.Goals as goal

pub returns-clause-fits : goal.returns-clause-fits
returns-clause-fits c =
    may_be_sent (site_fields_of c.args.site.now) c.args.crypto.now c.count.result c.args.number c.args.closing
    c.message_head.result
    c.write_places.new.places.items c.requires.0 c.message_head.ensures c.args.site.now.messages_in
    (c.write_places.ensures.value c.requires.0 c.requires.1)
    (omega (arith, c.count.type_inv, c.count.ensures, c.requires.1.number))
    (omega (arith, c.write_places.ensures.few, c.write_places.new.places.ok))
