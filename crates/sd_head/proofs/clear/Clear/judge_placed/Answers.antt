use Rattle.std.proofs.Common.{ℕ, get_or, false, ◌∙◌, sym, ap}
use Rattle.sd_site_cards.specs.SiteFields.{site_fields_of}
use Rattle.sd_head.proofs.Judging.{scrambled_judged, scrambled_refused_by}
use Rattle.sd_head.proofs.clear.Clear.judge_placed.Goals as goal

pub judge_pmt-requires-clause-pmt : goal.judge_pmt-requires-clause-pmt
judge_pmt-requires-clause-pmt c =
    ap (λ (p : ℕ). get_or c.args.self.now.pmts.items p false) (sym c.next_move-next.ensures.pid)
    ∙ (sym c.is_pmt.ensures ∙ c.if-is_pmt.true)

pub returns-in-Some : goal.returns-in-Some
returns-in-Some c =
    λ rule. scrambled_refused_by rule
    (site_fields_of c.args.site.now) c.args.self.now c.args.packet.now c.next_move-next.result
    c.in-Some.fault c.next_move-next.ensures
    (ap (λ (p : ℕ). get_or c.args.self.now.pmts.items p false) (sym c.next_move-next.ensures.pid)
    ∙ (sym c.is_pmt.ensures ∙ c.if-is_pmt.false))
    c.requires.clear c.requires.free (sym c.limit.ensures ∙ c.in-Some.is)

pub returns-in-None : goal.returns-in-None
returns-in-None c =
    λ rule. scrambled_judged rule (site_fields_of c.args.site.now) c.args.self.now c.args.packet.now
    c.next_move-next.result
    c.requires.number c.next_move-next.ensures
    (ap (λ (p : ℕ). get_or c.args.self.now.pmts.items p false) (sym c.next_move-next.ensures.pid)
    ∙ (sym c.is_pmt.ensures ∙ c.if-is_pmt.false))
    c.requires.clear c.requires.free (sym c.limit.ensures ∙ c.in-None.is)
