use Rattle.sd_law_broadcast.proofs.Texts.{pads_are}
use Rattle.sd_law_broadcast.proofs.keystreams.texts_lie_under_their_keystreams.Goals as goal

pub returns-clause-pads : goal.returns-clause-pads
returns-clause-pads c = pads_are
