use Rattle.std.proofs.Common.{arith, sym, ap, length}
use Rattle.std.specs.Prelude.{List}
use Rattle.sd_message.specs.declared.ecm_part.Place.{Place}
use Rattle.sd_receive.proofs.Gathering.{tells_by_ends, none_before, none_in}
use Rattle.sd_receive.proofs.ecm.partial.is_after.Goals as goal

pub returns-in-Some-Some : goal.returns-in-Some-Some
returns-in-Some-Some c = λ old run.
    let h = c.in-Some-Some.ensures in
    let g = c.in-Some-Some.ensures' in
    tells_by_ends c.args.before.now c.args.part.now run c.listed.result.now c.listed-2.result.now
    c.in-Some-Some.last.now
    c.in-Some-Some.first.now old c.requires.form c.listed.ensures c.listed-2.ensures h.item.3.0 g.item.3.0
    h.item.1 g.item.1

pub returns-in_default : goal.returns-in_default
returns-in_default c = λ old run.
    let same = ap (λ (l : List Place). length l) c.listed-2.ensures in
    sym (none_in c.args.before.now c.args.part.now run (omega (arith, same, c.in_default.ensures'.item.3)))

pub returns-in_default-2 : goal.returns-in_default-2
returns-in_default-2 c = λ old run.
    let same = ap (λ (l : List Place). length l) c.listed.ensures in
    sym (none_before c.args.before.now c.args.part.now run (omega (arith, same, c.in_default.ensures.item.3)))
