use Rattle.std.proofs.Common.{◌≡◌, ◌==◌, ℕ, List, [], ◌∷◌, true, false, ap, arith, refl, ◌∙◌, sym}
use Rattle.std.specs.Prelude.{Ok}
use Rattle.std.proofs.lemmas.Bool.{ne_eqb}
use Rattle.sd_packet.specs.Header.{pid_of, scrambling_of}
use Rattle.sd_cipher.specs.Scrambling.{descrambled}
use Rattle.sd_spec.specs.Confirmed.{is_foreign, is_confirmed, unmarked}
use Rattle.sd_receive.specs.Writing.{segment_in, segment_of}
use Rattle.sd_receive.proofs.HoldJudging.{confirmed_short, judged_clear, judged_far, judged_near, judged_foreign}
use Rattle.sd_receive.proofs.buffer.release.Release.judge.Goals as goal

pub returns-then-scrambling-eq0 : goal.returns-then-scrambling-eq0
returns-then-scrambling-eq0 c = λ before own.
    let segment = segment_in c.args.self.now in
    let held = c.args.held.now in
    let clear : scrambling_of held.packet ≡ 0 =
    ap scrambling_of (sym c.requires.same) ∙ (sym c.scrambling.ensures.value ∙ c.if-scrambling-eq0.true) in
    judged_clear segment before held.number held.packet clear
    ∙ ap (λ (p : List ℕ). Ok (p ∷ [])) (ap (unmarked segment) (sym c.requires.same) ∙ sym c.unmark.ensures)

pub returns-then-is_foreign : goal.returns-then-is_foreign
returns-then-is_foreign c = λ before own.
    let segment = segment_in c.args.self.now in
    let held = c.args.held.now in
    let dark : (scrambling_of held.packet == 0) ≡ false =
    ne_eqb (scrambling_of held.packet) 0
    (λ e. c.if-scrambling-eq0.false (c.scrambling.ensures.value ∙ (ap scrambling_of c.requires.same ∙ e))) in
    let foreign : is_foreign segment held.packet ≡ true =
    ap (is_foreign segment) (sym c.requires.same) ∙ (sym c.is_foreign.ensures ∙ c.if-is_foreign.true) in
    (refl, judged_foreign segment before held.number held.packet dark foreign)

pub returns-then-not-has : goal.returns-then-not-has
returns-then-not-has c = λ before own.
    let segment = segment_in c.args.self.now in
    let held = c.args.held.now in
    let dark : (scrambling_of held.packet == 0) ≡ false =
    ne_eqb (scrambling_of held.packet) 0
    (λ e. c.if-scrambling-eq0.false (c.scrambling.ensures.value ∙ (ap scrambling_of c.requires.same ∙ e))) in
    let even : is_foreign segment held.packet ≡ false =
    ap (is_foreign segment) (sym c.requires.same) ∙ (sym c.is_foreign.ensures ∙ c.if-is_foreign.false) in
    let far : is_confirmed segment (pid_of held.packet) ≡ false =
    ap (λ (p : List ℕ). is_confirmed segment (pid_of p)) (sym c.requires.same)
    ∙ (ap (is_confirmed segment) (sym c.pid.ensures.value)
    ∙ (sym (c.requires.confirmed.at c.pid.result c.pid.ensures.fits)
    ∙ (sym c.has.ensures ∙ c.if-not-has.true))) in
    judged_far segment before held.number held.packet dark even far

pub descramble-requires-clause-position : goal.descramble-requires-clause-position
descramble-requires-clause-position c =
    let sure : is_confirmed (segment_in c.args.self.now) c.pid.result ≡ true =
    sym (c.requires.confirmed.at c.pid.result c.pid.ensures.fits)
    ∙ (sym c.has.ensures ∙ c.if-not-has.false) in
    let short = confirmed_short c.args.self.now c.pid.result c.requires.ready c.pid.ensures.fits sure in
    let at : c.pid.result ≡ pid_of c.args.held.now.packet = c.pid.ensures.value ∙ ap pid_of c.requires.same in
    let up = rw (← at) at c.requires.position in
    omega (arith, short, up)

pub returns : goal.returns
unfolding segment_in segment_of
returns c = λ before own.
    let segment = segment_in c.args.self.now in
    let held = c.args.held.now in
    let dark : (scrambling_of held.packet == 0) ≡ false =
    ne_eqb (scrambling_of held.packet) 0
    (λ e. c.if-scrambling-eq0.false (c.scrambling.ensures.value ∙ (ap scrambling_of c.requires.same ∙ e))) in
    let even : is_foreign segment held.packet ≡ false =
    ap (is_foreign segment) (sym c.requires.same) ∙ (sym c.is_foreign.ensures ∙ c.if-is_foreign.false) in
    let close : is_confirmed segment (pid_of held.packet) ≡ true =
    ap (λ (p : List ℕ). is_confirmed segment (pid_of p)) (sym c.requires.same)
    ∙ (ap (is_confirmed segment) (sym c.pid.ensures.value)
    ∙ (sym (c.requires.confirmed.at c.pid.result c.pid.ensures.fits)
    ∙ (sym c.has.ensures ∙ c.if-not-has.false))) in
    let clear = λ (p : List ℕ). descrambled p segment.word held.position in
    judged_near c.args.self.now before held own dark even close
    ∙ ap (λ (p : List ℕ). Ok (p ∷ [])) (ap clear (sym c.requires.same) ∙ sym c.descramble.ensures)
