use Rattle.std.proofs.Common.{◌<◌, ℕ, List, arith, ap, length, ◌∙◌}
use Rattle.std.specs.Prelude.{bytes_eq, codes}
use Rattle.sd_command_line.specs.declared.operand.Operand.TheVariants.{Site}
use Rattle.sd_command_line.proofs.Spelling.{dash_spelled, other_spelled}
use Rattle.sd_command_line.proofs.spelled.spell_texts.Goals.{then-eq+in_ok-texts, else-eq}
use Rattle.sd_command_line.proofs.spelled.spell_texts.Goals as goal

-- src/spelled.rt:47:5
pub loop-index-preserved : goal.loop-index-preserved
loop-index-preserved c =
    let low = c.loop-index-test.true in
    let long = c.loop-index.invariant.long in
    let few = c.requires in
    let within : c.loop-index.index < length c.loop-index.texts = omega (arith, low, long, few) in
    let test = c.eq.ensures ∙ ap (λ (t : List ℕ). bytes_eq t (codes "-")) c.as_str.ensures.value in
    record {
      long = c.if-eq.auto.texts ∙ long;
      done = elim c.if-eq.branch [
        | then-eq+in_ok-texts w ↦
            dash_spelled c.args.operands.now c.loop-index.texts c.if-eq.texts c.loop-index.index _ _
            w.in_ok-texts.field-0 c.eq.result low within test w.if-eq.true
            (w.in_ok-texts.ensures.ok ∙ w.dash.ensures) w.texts-is
            ∙ c.loop-index.invariant.done
        | else-eq w ↦
            other_spelled c.args.operands.now c.loop-index.texts c.if-eq.texts c.loop-index.index Site _
            c.eq.result low within test w.if-eq.false w.texts-is
            ∙ c.loop-index.invariant.done
      ];
    }
