use Rattle.sd_psi.proofs.Keeping.{rewritten_packet_keeps, restored_packet_keeps}
use Rattle.sd_law_formats.proofs.tables.rewritten_headers_stay.Goals as goal

pub returns-clause-rewritten : goal.returns-clause-rewritten
returns-clause-rewritten c = rewritten_packet_keeps

pub returns-clause-restored : goal.returns-clause-restored
returns-clause-restored c = restored_packet_keeps
