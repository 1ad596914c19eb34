use Rattle.std.proofs.Common.{◌∙◌, sym}
use Rattle.sd_site_cards.specs.SiteFields.{site_fields_of}
use Rattle.sd_head.proofs.Judging.{pmt_judged, pmt_refused_by, full_pmt_refused}
use Rattle.sd_head.proofs.clear.Clear.judge_pmt.Goals as goal

pub returns-in_default : goal.returns-in_default
returns-in_default c =
    λ rule. full_pmt_refused rule
    (site_fields_of c.args.site.now) c.args.self.now c.args.packet.now c.args.next c.from.result
    c.from.ensures c.requires.moves c.requires.pmt c.requires.clear c.requires.free c.in_default.ensures

pub returns-in-Some-limit : goal.returns-in-Some-limit
returns-in-Some-limit c =
    λ rule. pmt_refused_by rule
    (site_fields_of c.args.site.now) c.args.self.now c.args.packet.now c.args.next c.in-Some-limit.fault
    c.requires.moves c.requires.pmt c.requires.clear c.requires.free c.in-Some.ensures.0
    (sym c.limit.ensures ∙ c.in-Some-limit.is)

pub returns-in-None : goal.returns-in-None
returns-in-None c =
    λ rule. pmt_judged rule (site_fields_of c.args.site.now) c.args.self.now c.args.packet.now c.in-Some.carried
    c.args.next
    c.requires.number c.requires.moves c.requires.pmt c.requires.clear c.requires.free c.in-Some.ensures.0
    c.in-Some.ensures.1 (sym c.limit.ensures ∙ c.in-None.is)
