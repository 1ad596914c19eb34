use Rattle.std.proofs.Common.{◌≡◌, ◌∙◌, sym, ap, subst, arith, ◌≤◌, ℕ, List, true}
use Rattle.std.specs.Prelude.{Option, is_some}
use Rattle.sd_spec.specs.Stretches.{current}
use Rattle.sd_spec.specs.Keys.{first_key, key_at, key_from}
use Rattle.sd_receive.specs.PeriodKeys.{IsStateAt, key_kept, with_key}
use Rattle.sd_receive.specs.declared.emm.PeriodKeys.{PeriodKeys}
use Rattle.sd_receive.proofs.Keeping.{past_section}
use Rattle.sd_receive.proofs.Judging.{kept_is, known_first, known_period, unknown_none}
use Rattle.sd_receive.proofs.emm.PeriodKeys.keep.Goals as goal
use Rattle.sd_receive.proofs.emm.PeriodKeys.keep.Goals.{then-not-knows_key, else-not-knows_key}

pub returns-then-emm-self : goal.returns-then-emm-self
returns-then-emm-self c = λ card n tr is judged.
    past_section card c.args.emm.now tr c.args.self.now (omega (arith, c.if-emm-self.true, is.period)) is

pub returns : goal.returns
returns c = λ card n tr is judged.
    let emm = c.args.emm.now in
    let h : current tr ≤ emm.period = omega (arith, c.if-emm-self.false, is.period) in
    let kept = kept_is card tr c.args.self.now is emm.period h in
    let marked = λ (before : Option (List ℕ)) (old : IsStateAt card tr emm.period
    (with_key c.if-not-knows_key.self before)) (key : c.if-not-knows_key.self.key ≡
    first_key (key_at card tr emm.period) (key_from card emm)).
    c.mark.ensures card tr before old h (judged.unmixed h) c.requires.counted.index_is key in
    elim c.if-not-knows_key.branch [
      | then-not-knows_key w ↦
          let none = unknown_none (key_kept c.args.self.now emm.period)
          (sym c.knows_key.ensures ∙ w.if-not-knows_key.true) in
          let old = w.advance.ensures card tr is in
          marked w.advance.new.self.key
          (subst (λ (e : PeriodKeys). IsStateAt card tr emm.period (with_key e w.advance.new.self.key)) (sym w.self-is)
          (record {
            period = old.period;
            header = old.header;
            alike = old.alike;
            marks = old.marks;
            told = old.told;
            key = old.key;
            revoked = old.revoked;
            unkeyed = old.unkeyed;
            in_turn = old.in_turn;
          }))
          (ap (λ (e : PeriodKeys). e.key) w.self-is ∙ (judged.gives h (sym kept ∙ none)
          ∙ ap (λ (o : Option (List ℕ)). first_key o (key_from card emm)) (sym none ∙ kept)))
      | else-not-knows_key w ↦
          let known = sym c.knows_key.ensures ∙ w.if-not-knows_key.false in
          let here = known_period c.args.self.now emm.period known in
          marked c.args.self.now.key
          (subst (λ (e : PeriodKeys). IsStateAt card tr emm.period (with_key e c.args.self.now.key)) (sym w.self-is)
          (subst (λ (q : ℕ). IsStateAt card tr q c.args.self.now) (sym is.period ∙ here.0) is))
          (ap (λ (e : PeriodKeys). e.key) w.self-is ∙ (sym here.1 ∙ (kept
          ∙ sym (known_first (key_at card tr emm.period) (key_from card emm)
          (subst (λ (o : Option (List ℕ)). is_some o ≡ true) kept known)))))
    ]
