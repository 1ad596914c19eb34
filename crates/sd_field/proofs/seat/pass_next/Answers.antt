use Rattle.std.proofs.Common.{ap, length, sym}
use Rattle.std.specs.Prelude.{is_some}
use Rattle.sd_engine.specs.Stream.{packets_of}
use Rattle.sd_spec.specs.Watch.{stream}
use Rattle.sd_field.proofs.Seats.{next_there, none_at, none_passed}
use Rattle.sd_field.proofs.seat.pass_next.Goals as goal

pub returns-in-Some-clause-seated : goal.returns-in-Some-clause-seated
returns-in-Some-clause-seated g c plan card clear total u w few same seated =
    let sent = packets_of c.args.sent.now in
    let next = next_there sent (stream plan clear) c.args.seat.now.cursor w.cursor c.in-Some.packet
    c.in-Some.ensures.value seated.cursor same in
    c.pass.ensures.seated plan card clear total u (length sent) w few next.left next.is seated

pub returns-in-Some-clause-full : goal.returns-in-Some-clause-full
returns-in-Some-clause-full g c plan card clear total u w failed few same seated =
    let sent = packets_of c.args.sent.now in
    let next = next_there sent (stream plan clear) c.args.seat.now.cursor w.cursor c.in-Some.packet
    c.in-Some.ensures.value seated.cursor same in
    c.pass.ensures.full plan card clear total u (length sent) w failed few next.left next.is seated

pub returns-in-None-clause-seated : goal.returns-in-None-clause-seated
returns-in-None-clause-seated g c plan card clear total u w few same seated =
    let sent = packets_of c.args.sent.now in
    none_passed plan card clear total u (length sent) w c.args.seat.now
    (none_at sent c.args.seat.now.cursor (ap is_some (sym c.in-None.ensures.value))) seated
