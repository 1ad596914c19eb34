use Rattle.std.proofs.Common.{◌+◌, refl}
use Rattle.sd_spec.specs.Watch.{present}
use Rattle.sd_field.specs.Seats.{wrote_before}
use Rattle.sd_field.proofs.Seats.{heard_full, heard_seat, passed_seat}
use Rattle.sd_field.proofs.seat.Seat.pass.Goals as goal
use Rattle.sd_field.proofs.seat.Seat.pass.Goals.{in-Some+in_ok-hear, in_default}

pub returns-clause-seated : goal.returns-clause-seated
returns-clause-seated g c plan card clear total u n w few left next seated = elim c.match-self.branch [
  | in-Some+in_ok-hear b ↦
      let e = b.in_ok-hear.ensures in
      rw b.self-is
      (heard_seat plan card clear total u n w c.args.self.now b.in-Some.receiver b.hear.new.receiver c.args.packet.now
      b.hear.new.written (c.args.self.now.cursor + 1) b.in-Some.is left next seated refl (e.room total seated.room)
      (e.heard card (wrote_before plan card clear w) (present plan clear w) few
      (seated.heard b.in-Some.receiver b.in-Some.is)))
  | in_default b ↦
      rw b.self-is
      (passed_seat plan card clear total u n w c.args.self.now (c.args.self.now.cursor + 1) b.in_default.is left seated
      refl)
]

pub returns-in_err-hear-clause-full : goal.returns-in_err-hear-clause-full
returns-in_err-hear-clause-full g c plan card clear total u n w failed few left next seated =
    heard_full plan card clear total u n w c.args.self.now c.in-Some.receiver c.args.packet.now c.in-Some.is left next
    seated
    (c.in_err-hear.ensures.full card (wrote_before plan card clear w) (present plan clear w) total refl few
    (seated.heard c.in-Some.receiver c.in-Some.is) seated.room)
