-- A period has no more sets than its sections have room for.
use Rattle.std.proofs.Common.{arith, ℕ, ◌^◌, ◌<◌, ◌≤◌, List, [], ◌∷◌, length, refl}
use Rattle.std.specs.Prelude.{All, Contains}
use Rattle.std.proofs.lemmas.List.Elements.{All-contains}
use Rattle.sd_tree_keys.specs.Limits.{highest, most_revoked}
use Rattle.sd_message.specs.declared.emm_format.TheConstants.{MOST_SETS}
use Rattle.sd_cover_tracing.specs.Cover.{cover_of}
use Rattle.sd_cover_tracing.proofs.Covers.{cover_small}
use Rattle.sd_cover_tracing.proofs.There.{list_is_cover}

pub sets_few : (d : ℕ) (leaves : List ℕ) → d ≤ highest → All (λ u. u < 2 ^ d) leaves →
    length leaves ≤ most_revoked → length (cover_of d leaves) ≤ MOST_SETS
sets_few d [] low all few =
    let inside : (u : ℕ) → Contains [] u → u < 2 ^ d = λ u m. All-contains (λ w. w < 2 ^ d) [] u all m in
    let cover = list_is_cover d [] (omega (arith, low)) inside in
    rw ((cover_small d [] (cover_of d []) (omega (arith, low)) inside cover).none_revoked refl) (omega arith)
sets_few d (u ∷ us) low all few =
    let inside : (v : ℕ) → Contains (u ∷ us) v → v < 2 ^ d =
    λ v m. All-contains (λ w. w < 2 ^ d) (u ∷ us) v all m in
    let cover = list_is_cover d (u ∷ us) (omega (arith, low)) inside in
    let count = (cover_small d (u ∷ us) (cover_of d (u ∷ us)) (omega (arith, low)) inside cover).count (omega arith) in
    omega (arith, few, count)
