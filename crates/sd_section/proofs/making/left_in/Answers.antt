use Rattle.std.proofs.Common.{◌∙◌, sym, ap, inl, inr, arith}
use Rattle.sd_section.specs.Assembled.{Cut}
use Rattle.sd_section.proofs.Adding.{none_starts, one_overlong, none_whole, one_part}
use Rattle.sd_section.proofs.making.left_in.Goals as goal

pub returns-then-not-starts-clause-value : goal.returns-then-not-starts-clause-value
returns-then-not-starts-clause-value c =
    ap (λ (cut : Cut). cut.making) (sym (none_starts c.args.bytes.now (sym c.starts.ensures ∙ c.if-not-starts.true)))

pub returns-in-Part-clause-value : goal.returns-in-Part-clause-value
returns-in-Part-clause-value c =
    ap (λ (cut : Cut). cut.making) (sym (one_part c.args.bytes.now (sym c.starts.ensures ∙ c.if-not-starts.false)
    (sym c.judge.ensures ∙ c.in-Part.is)))

pub returns-in-Overlong : goal.returns-in-Overlong
returns-in-Overlong c =
    let starts = sym c.starts.ensures ∙ c.if-not-starts.false in
    record {
      value = elim c.in-Overlong.is [
        | inl over ↦
            ap (λ (cut : Cut). cut.making) (sym (one_overlong c.args.bytes.now starts (sym c.judge.ensures ∙ over)))
        | inr whole ↦ none_whole c.args.bytes.now whole.0 c.requires starts (sym c.judge.ensures ∙ whole.1)
      ];
      length = omega arith;
    }
