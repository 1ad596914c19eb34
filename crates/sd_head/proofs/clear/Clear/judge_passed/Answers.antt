use Rattle.std.proofs.Common.{◌∙◌, sym}
use Rattle.sd_site_cards.specs.SiteFields.{site_fields_of}
use Rattle.sd_head.proofs.Judging.{bad_pat_refused, long_refused, passed_judged}
use Rattle.sd_head.proofs.clear.Clear.judge_passed.Goals as goal

pub returns-in-Ok : goal.returns-in-Ok
returns-in-Ok c =
    long_refused c.args.rule (site_fields_of c.args.site.now) c.args.self.now c.args.packet.now c.from-number.result
    c.from-number.ensures c.requires.unplaced c.requires.clear c.requires.free c.in-Ok.ensures.0
    (sym c.is_at_end.ensures ∙ c.if-is_at_end.true)

pub returns-in-Ok-2 : goal.returns-in-Ok-2
returns-in-Ok-2 c =
    passed_judged c.args.rule
    (site_fields_of c.args.site.now) c.args.self.now c.args.packet.now c.in-Ok.field-0 c.requires.number
    c.requires.unplaced c.requires.clear c.requires.free c.in-Ok.ensures.0 c.in-Ok.ensures.1
    (sym c.is_at_end.ensures ∙ c.if-is_at_end.false)

pub returns-in-Err : goal.returns-in-Err
returns-in-Err c =
    bad_pat_refused c.args.rule
    (site_fields_of c.args.site.now) c.args.self.now c.args.packet.now c.from-number.result c.in-Err.fault
    c.from-number.ensures c.requires.clear c.requires.free c.in-Err.ensures
