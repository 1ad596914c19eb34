use Rattle.std.proofs.Common.{◌≡◌, ◌==◌, true, false, sym, ◌∙◌, ap}
use Rattle.std.proofs.Common.{eq-eqb, ne_eqb}
use Rattle.sd_packet.specs.Header.{pid_of, scrambling_of}
use Rattle.sd_site_cards.specs.SiteFields.{site_fields_of}
use Rattle.sd_spec.specs.Refused.{is_reserved_pid}
use Rattle.sd_message.specs.declared.clear_fault.ClearFault.TheVariants.{AlreadyScrambled, PidTaken}
use Rattle.sd_head.proofs.Judging.{refused}
use Rattle.sd_head.proofs.Refusing.{scrambled_refused, taken_refused}
use Rattle.sd_head.proofs.clear.Clear.judge.Goals as goal

pub returns-then-scrambling-ne0 : goal.returns-then-scrambling-ne0
returns-then-scrambling-ne0 c =
    let scrambled : (scrambling_of c.args.packet.now == 0) ≡ false =
    ne_eqb (scrambling_of c.args.packet.now) 0 (λ e. c.if-scrambling-ne0.true (c.scrambling.ensures.value ∙ e)) in
    refused c.args.rule (site_fields_of c.args.site.now) c.args.self.now c.args.packet.now
    (AlreadyScrambled c.from-number.result)
    (λ before after. scrambled_refused c.args.rule (site_fields_of c.args.site.now) before c.args.packet.now
    c.from-number.result (c.from-number.ensures ∙ after.number) scrambled)

pub returns-then-is_taken : goal.returns-then-is_taken
returns-then-is_taken c =
    let packet = c.args.packet.now in
    let clear : (scrambling_of packet == 0) ≡ true =
    eq-eqb (scrambling_of packet) 0 (sym c.scrambling.ensures.value ∙ c.if-scrambling-ne0.false) in
    let free : is_reserved_pid (site_fields_of c.args.site.now) (pid_of packet) ≡ true =
    ap (is_reserved_pid (site_fields_of c.args.site.now)) (sym c.pid-pid.ensures.value)
    ∙ (sym c.is_taken.ensures ∙ c.if-is_taken.true) in
    refused c.args.rule (site_fields_of c.args.site.now) c.args.self.now packet
    (PidTaken c.from-number.result c.pid-pid.result)
    (λ before after. taken_refused c.args.rule (site_fields_of c.args.site.now) before packet c.from-number.result
    c.pid-pid.result (c.from-number.ensures ∙ after.number) c.pid-pid.ensures.value clear free)

pub returns-then-is_placed : goal.returns-then-is_placed
returns-then-is_placed c = c.judge_placed.ensures c.args.rule
