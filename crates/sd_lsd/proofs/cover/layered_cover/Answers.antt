use Rattle.std.proofs.Common.{rules, ◌≡◌, ◌≤◌, List, subst}
use Rattle.std.specs.Prelude.{All}
use Rattle.std.specs.List.{flat_map}
use Rattle.std.specs.List.Sorted.{IsPermutation}
use Rattle.sd_cover_tracing.proofs.Heights.{cover_of_height}
use Rattle.sd_tree_keys.specs.SetNames.{IsOfHeight}
use Rattle.sd_tree_keys.specs.declared.set.SetName.{SetName}
use Rattle.sd_lsd.specs.Layers.{split_of}
use Rattle.sd_lsd.proofs.Covers.{made_is_cover}
use Rattle.sd_lsd.proofs.cover.layered_cover.Goals as goal

pub split-requires-clause-names : goal.split-requires-clause-names
split-requires-clause-names c =
    let same : c.in_ok-chains.chains.items ≡ c.deref.result.now = search rules in
    subst (λ (names : List SetName). All (IsOfHeight c.args.h) names) same
    (cover_of_height c.args.h c.args.revoked.now c.in_ok-chains.chains.items c.requires.leaves
    c.in_ok-chains.ensures.value.1)

pub returns-clause-value : goal.returns-clause-value
returns-clause-value c =
    let same : c.deref.result.now ≡ c.in_ok-chains.chains.items = search rules in
    let sets = c.in_ok-split.field-0.items in
    let low : c.args.h ≤ 20 = search rules in
    let some : 1 ≤ c.args.w = search rules in
    made_is_cover c.args.h c.args.w c.args.revoked.now c.in_ok-chains.chains.items sets low some c.requires.leaves
    c.in_ok-chains.ensures.value.1
    (subst (λ (names : List SetName). IsPermutation (flat_map (split_of c.args.w) names) sets) same
    c.in_ok-split.ensures.parts)
    c.in_ok-split.ensures.sorted
