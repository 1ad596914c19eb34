use Rattle.std.proofs.Common.{sym}
use Rattle.sd_site_cards.specs.SiteFields.{site_fields_of}
use Rattle.sd_head.proofs.Carrying.{pmt_rewritten, pmt_left}
use Rattle.sd_head.proofs.judge.carried_pmt.Goals as goal

pub returns-in-Ok : goal.returns-in-Ok
returns-in-Ok c =
    pmt_rewritten (site_fields_of c.args.site.now) c.args.packet.now c.rewrite_pmt.new.packet c.in-Ok.ensures.fault
    c.in-Ok.ensures.value

pub returns-in-Err-2 : goal.returns-in-Err-2
returns-in-Err-2 c =
    pmt_left (site_fields_of c.args.site.now) c.args.packet.now c.rewrite_pmt.new.packet c.in-Err-2.field-0
    c.in-Err-2.ensures.fault (sym c.if-is_restorable.ensures) c.in-Err-2.ensures.unchanged
