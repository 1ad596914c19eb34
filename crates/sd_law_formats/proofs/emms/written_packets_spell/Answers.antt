use Rattle.sd_message.proofs.EmmReading.{written_spells}
use Rattle.sd_law_formats.proofs.emms.written_packets_spell.Goals as goal

pub returns : goal.returns
returns c = written_spells
