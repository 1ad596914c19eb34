use Rattle.std.proofs.Common.{◌∙◌, sym}
use Rattle.sd_field.proofs.Seats.{none_there, on_seat}
use Rattle.sd_field.proofs.seat.Seat.turn_on.Goals as goal

pub returns-clause-seated : goal.returns-clause-seated
returns-clause-seated g c plan card clear total n w is seated =
    let e = c.in_ok-receiver_of.ensures in
    on_seat plan card clear total c.args.u n w c.args.self.now c.in_ok-receiver_of.field-0
    (none_there c.args.self.now.receiver (sym c.is_some.ensures ∙ c.if-is_some.false)) seated e.value e.live
    (e.card ∙ sym is)
