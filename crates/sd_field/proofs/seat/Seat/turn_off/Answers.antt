use Rattle.sd_field.proofs.Seats.{off_seat}
use Rattle.sd_field.proofs.seat.Seat.turn_off.Goals as goal

pub returns : goal.returns
returns c = record {
  seated = λ plan card clear total u n w seated. off_seat plan card clear total u n w c.args.self.now seated;
}
