use Rattle.sd_law_formats.proofs.Finds.{all_sound}
use Rattle.sd_law_formats.proofs.cutting.packets_have_places.Goals as goal

pub returns-clause-sound : goal.returns-clause-sound
returns-clause-sound c = all_sound
