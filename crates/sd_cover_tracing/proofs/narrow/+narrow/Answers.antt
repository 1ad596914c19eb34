use Rattle.std.proofs.Common.{ℕ, true, false, [], ◌∷◌, ◌∙◌, sym, ap, arith}
use Rattle.sd_cover_tracing.specs.Search.{opens_some}
use Rattle.sd_cover_tracing.proofs.Narrowed.{cuts_few, told_more, told_uncut}
use Rattle.sd_cover_tracing.proofs.narrow.+narrow.Goals as goal

pub returns-clause-told : goal.returns-clause-told
returns-clause-told g t c coalition most told few =
    let first = c.in-Some.first in
    let second = c.in-Some.second in
    let answer = c.probe-opened.ensures.answer coalition told
    ∙ ap (λ (d : ℕ). opens_some d coalition (first ∷ second ∷ []) (true ∷ false ∷ [])) c.requires.height in
    told_more c.args.h coalition most c.narrow-leaf.result.0 c.narrow-leaf.result.1 c.args.name first second
    c.half_of.result
    c.probe-opened.result (sym c.halves.ensures.value ∙ c.in-Some.is) answer c.half_of.ensures.value
    c.half_of.ensures.fewer few
    (λ m enough. c.narrow-leaf.ensures.told coalition m (c.probe-opened.ensures.coalition ∙ told) enough)

pub returns-in_default-clause-told : goal.returns-in_default-clause-told
returns-in_default-clause-told g t c coalition most told few =
    told_uncut c.args.h coalition most c.only_leaf.result c.args.name (sym c.halves.ensures.value ∙ c.in_default.is)
    c.only_leaf.ensures.value

pub returns-clause-few : goal.returns-clause-few
returns-clause-few g t c =
    let all = cuts_few c.args.h c.args.name c.requires.name in
    let fewer = c.half_of.ensures.fewer in
    let cuts = c.narrow-leaf.ensures.cuts in
    omega arith
