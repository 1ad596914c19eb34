-- A cover whose sets are split.
use Rattle.std.proofs.Common.{ℕ, ◌*◌, ◌^◌, ◌<◌, ◌≤◌, ◌≡◌, List, [], ◌∷◌, refl, cond, length, length-append, arith}
use Rattle.std.specs.Prelude.{count_by, Contains}
use Rattle.std.specs.List.{flat_map}
use Rattle.std.proofs.lemmas.List.Concat.{flat_map-cons}
use Rattle.std.proofs.lemmas.List.Sums.{sum_by-append, sum_by-cons}
use Rattle.sd_tree_keys.specs.Leaves.{is_member}
use Rattle.sd_tree_keys.specs.SetNames.{IsOfHeight}
use Rattle.sd_tree_keys.specs.declared.set.SetName.{SetName}
use Rattle.sd_tree_keys.specs.declared.set.SetName.TheVariants.{Whole, Diff}
use Rattle.sd_cover_tracing.proofs.Lists.{member_first, member_later}
use Rattle.sd_lsd.specs.Layers.{split_of}
use Rattle.sd_lsd.proofs.Parts.{parts_counted, few_parts}

-- the parts of any set of the height
one_counted : (d w u : ℕ) (name : SetName) → d ≤ 20 → 1 ≤ w → IsOfHeight d name → u < 2 ^ d
    → count_by (λ part. is_member d part u) (split_of w name) ≡ cond (is_member d name u) 1 0
unfolding split_of
one_counted d w u Whole low some h leaf = omega arith
one_counted d w u (Diff i j) low some h leaf = parts_counted d w i j u low some h leaf

-- a split cover holds each leaf as often as the cover
pub split_counted : (d w u : ℕ) (cover : List SetName) → d ≤ 20 → 1 ≤ w
    → ((name : SetName) → Contains cover name → IsOfHeight d name) → u < 2 ^ d
    → count_by (λ part. is_member d part u) (flat_map (split_of w) cover) ≡ count_by (λ part. is_member d part u) cover
split_counted d w u [] low some all leaf = refl
split_counted d w u (name ∷ cover) low some all leaf =
    let f : SetName → ℕ = λ part. cond (is_member d part u) 1 0 in
    let first = one_counted d w u name low some (all name (member_first name cover)) leaf in
    let rest = split_counted d w u cover low some (λ x m. all x (member_later name cover x m)) leaf in
    let joined = sum_by-append f (split_of w name) (flat_map (split_of w) cover) in
    let after = sum_by-cons f name cover in
    rw (flat_map-cons (split_of w) name cover) (omega arith)

-- it has at most twice as many sets
pub split_doubled : (w : ℕ) (cover : List SetName) → length (flat_map (split_of w) cover) ≤ 2 * length cover
split_doubled w [] = omega arith
split_doubled w (name ∷ cover) =
    let rest = split_doubled w cover in
    let first = few_parts w name in
    rw (flat_map-cons (split_of w) name cover)
    (omega (arith, length-append (split_of w name) (flat_map (split_of w) cover), rest, first))
