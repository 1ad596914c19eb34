use Rattle.std.proofs.Common.{refl}
use Rattle.sd_receive.proofs.Collecting.{none_collected}
use Rattle.sd_receive.proofs.ecm.EcmAssembler.reset.Goals as goal

pub returns : goal.returns
returns c = none_collected _ c.reset.ensures.gathered refl c.clear.ensures.items
