use Rattle.std.proofs.Common.{◌∙◌, sym, ap, inl, inr}
use Rattle.sd_section.specs.Assembled.{Cut}
use Rattle.sd_section.proofs.Adding.{none_starts, one_overlong, one_whole, one_part, whole_fits}
use Rattle.sd_section.proofs.making.whole_length.Goals as goal

pub returns-then-not-starts-clause-none : goal.returns-then-not-starts-clause-none
returns-then-not-starts-clause-none c = λ _.
    ap (λ (cut : Cut). cut.sections) (none_starts c.args.bytes.now (sym c.starts.ensures ∙ c.if-not-starts.true))

pub returns-in-Whole-clause-some : goal.returns-in-Whole-clause-some
returns-in-Whole-clause-some c =
    one_whole c.args.bytes.now c.in-Whole.whole (sym c.starts.ensures ∙ c.if-not-starts.false)
    (sym c.judge.ensures ∙ c.in-Whole.is)

pub returns-in-Whole-clause-within : goal.returns-in-Whole-clause-within
returns-in-Whole-clause-within c =
    whole_fits c.args.bytes.now c.in-Whole.whole (sym c.judge.ensures ∙ c.in-Whole.is)

pub returns-in-Overlong : goal.returns-in-Overlong
returns-in-Overlong c =
    let starts = sym c.starts.ensures ∙ c.if-not-starts.false in
    record {
      none = λ _. elim c.in-Overlong.is [
        | inl over ↦
            ap (λ (cut : Cut). cut.sections) (one_overlong c.args.bytes.now starts (sym c.judge.ensures ∙ over))
        | inr part ↦ ap (λ (cut : Cut). cut.sections) (one_part c.args.bytes.now starts (sym c.judge.ensures ∙ part))
      ];
      some = tt;
      within = tt;
    }
