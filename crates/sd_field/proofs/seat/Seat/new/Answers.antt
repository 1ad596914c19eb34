use Rattle.sd_site_cards.specs.CardFields.{card_of}
use Rattle.sd_field.proofs.Seats.{first_seat}
use Rattle.sd_field.proofs.seat.Seat.new.Goals as goal

pub returns : goal.returns
returns g c =
    let site = c.args.site.now in
    let e = c.in_ok-receiver_of.ensures in
    let sink = c.in_ok-sink_of.ensures in
    first_seat (card_of site.master site.ca site.height c.args.u) c.args.room c.in_ok-receiver_of.field-0
    c.in_ok-sink_of.field-0 sink.held sink.room e.value e.live e.card
