use Rattle.sd_site_cards.specs.CardFields.{card_of}
use Rattle.sd_field.proofs.Seats.{has_card}
use Rattle.sd_field.proofs.seat.receiver_of.Goals as goal

pub returns-clause-card : goal.returns-clause-card
returns-clause-card g c =
    let site = c.args.site.now in
    has_card c.new.result c.in_ok-card.card (card_of site.master site.ca site.height c.args.u) c.new.ensures.card
    c.in_ok-card.ensures
