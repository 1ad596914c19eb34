use Rattle.std.proofs.Common.{refl}
use Rattle.sd_receive.proofs.Collecting.{none_collected}
use Rattle.sd_receive.proofs.ecm.EcmAssembler.new.Goals as goal

pub returns-in-Ok : goal.returns-in-Ok
returns-in-Ok c = none_collected _ c.in_ok-partial.ensures refl c.in-Ok.ensures.items
