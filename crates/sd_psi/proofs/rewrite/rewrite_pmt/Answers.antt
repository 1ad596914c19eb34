use Rattle.std.proofs.Common.{arith, sym, subst}
use Rattle.sd_psi.specs.Undone.{KeepsHeader}
use Rattle.sd_psi.proofs.Packets.{rewritten_laid, sync_stays, payload_long, piece_section, piece_info}
use Rattle.sd_psi.proofs.Keeping.{rewritten_keeps}
use Rattle.sd_psi.proofs.rewrite.rewrite_pmt.Goals as goal

pub returns-clause-value : goal.returns-clause-value
returns-clause-value c = grind (arith, rewritten_laid, sync_stays, payload_long, piece_section, piece_info)

pub returns-clause-header : goal.returns-clause-header
returns-clause-header c =
    subst (KeepsHeader c.args.packet.now) (sym (returns-clause-value c))
    (rewritten_keeps c.args.packet.now c.args.ca c.args.pid c.bytes.ensures.length c.requires.payload)
