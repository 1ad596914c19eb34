use Rattle.sd_head.specs.Kept.{plan_of}
use Rattle.sd_field.proofs.Stations.{first_station}
use Rattle.sd_field.proofs.station.Station.new.Goals as goal

pub returns : goal.returns
returns c =
    let e = c.in_ok-new.ensures in
    let sink = c.in_ok-sink_of.ensures in
    first_station (plan_of c.args.site c.args.book) c.args.room c.in_ok-new.field-0 c.in_ok-sink_of.field-0 sink.held
    sink.room e.value e.live
