use Rattle.sd_field.proofs.Refused.{refused_in_front}
use Rattle.sd_field.proofs.laws.refused_in_front.Goals as goal

pub returns : goal.returns
returns c = refused_in_front
