-- What a round finds.
use Rattle.std.proofs.Common.{◌≡◌, ℕ, ◌*◌, ◌-◌, ◌^◌, ◌<◌, ◌≤◌, List, length, get_or}
use Rattle.std.proofs.Common.{refl, subst, inl, inr, arith}
use Rattle.std.specs.Prelude.{All, Option, Some, None}
use Rattle.std.proofs.lemmas.Bool.{cases_lt}
use Rattle.std.proofs.lemmas.List.Elements.{All-contains, Contains-get_or}
use Rattle.sd_tree_keys.specs.declared.set.SetName.{SetName}
use Rattle.sd_tree_keys.specs.declared.set.SetName.TheVariants.{Whole}
use Rattle.sd_tree_keys.specs.declared.leaf.TheConstants.{MOST_REVOKED}
use Rattle.sd_cover_tracing.specs.Chains.{IsChainCover}
use Rattle.sd_cover_tracing.specs.Cover.{cover_of}
use Rattle.sd_cover_tracing.proofs.Covers.{cover_small}
use Rattle.sd_cover_tracing.proofs.Heights.{of_height}
use Rattle.sd_cover_tracing.proofs.There.{the_cover}
use Rattle.sd_cover_tracing.specs.declared.found.Found.{Found}
use Rattle.sd_cover_tracing.specs.Rounds.{IsRoundCover, FindsIn, IsLastIn, FindsLast, RoundOf, RoundOfCoalition}
use Rattle.sd_cover_tracing.specs.Trace.{IsAnyRound}
use Rattle.sd_cover_tracing.proofs.Searches.{few_probes}
use Rattle.sd_cover_tracing.proofs.Opening.{none_is_left, leaf_is_fresh}

-- a found leaf of the cover is one of a round
pub round_of : (d : ℕ) (gone : List ℕ) (sets : List SetName) (before after : ℕ) (found : Option Found) → d ≤ 20 →
    All (λ u. u < 2 ^ d) gone → IsRoundCover d gone sets → FindsIn d sets before after found →
    RoundOf d gone before after found
round_of d gone sets before after None low leaves cover finds = finds
round_of d gone sets before after (Some found) low leaves cover finds =
    let f = finds.0 in (
      record {
        leaf = f.leaf;
        fresh = leaf_is_fresh d found.leaf gone sets (get_or sets f.place Whole) (omega (arith, low)) leaves cover.cover
            f.leaf
            (Contains-get_or sets f.place Whole f.within) f.member;
        splits = f.splits;
        trials = f.trials;
        turns = subst (λ (names : List SetName). 2 ^ (found.trials - found.splits - 1) < 2 * length names) cover.is
            f.turns;
      },
      finds.1,
    )

-- what is found of a coalition is what a round of it finds
pub tells_round : (d : ℕ) (coalition gone : List ℕ) (sets : List SetName) (found : Option Found) → d ≤ 20 →
    All (λ u. u < 2 ^ d) gone → IsRoundCover d gone sets → FindsLast d coalition sets found →
    RoundOfCoalition d coalition gone found
tells_round d coalition gone sets None low leaves cover finds =
    none_is_left d coalition gone sets (omega (arith, low)) leaves cover.cover finds
tells_round d coalition gone sets (Some found) low leaves cover finds =
    let at = subst (λ (names : List SetName). IsLastIn d coalition names found) cover.is finds in
    record { place = at.place; opened = at.opened; leaf = at.leaf; trials = at.trials }

-- a cover of few leaves has few sets
sets_few : (d : ℕ) (gone : List ℕ) (sets : List SetName) → d ≤ 20 → All (λ u. u < 2 ^ d) gone →
    length gone ≤ MOST_REVOKED →
    IsChainCover d gone sets → length sets < 2 ^ 18
sets_few d gone sets low leaves few cover =
    let small = cover_small d gone sets (omega (arith, low)) (λ u m. All-contains (λ w. w < 2 ^ d) gone u leaves m)
    cover in
    elim (cases_lt 0 (length gone)) [
      | inl some ↦ let count = small.count some in omega (arith, few, count)
      | inr none ↦ let alone = small.none_revoked (omega (arith, none)) in rw alone (omega arith)
    ]

-- a cover of few leaves has few sets, all of the height
pub cover_fits : (d : ℕ) (gone : List ℕ) (sets : List SetName) → d ≤ 20 → All (λ u. u < 2 ^ d) gone →
    length gone ≤ MOST_REVOKED → sets ≡ cover_of d gone → IsChainCover d gone sets → IsRoundCover d gone sets
cover_fits d gone sets low leaves few is cover = record {
  is = is;
  cover = cover;
  names = λ k other within. of_height d gone sets (λ u m. All-contains (λ w. w < 2 ^ d) gone u leaves m) cover
      (get_or sets k other) (Contains-get_or sets k other within);
  few = sets_few d gone sets low leaves few cover;
}

-- a round takes few probes
pub round_few : (d : ℕ) (gone : List ℕ) (found : Found) → d ≤ 20 → All (λ u. u < 2 ^ d) gone →
    length gone ≤ MOST_REVOKED →
    IsAnyRound d gone found → found.trials ≤ 64
round_few d gone found low leaves few any =
    let cover = (the_cover d gone (cover_of d gone) (omega (arith, low))
    (λ u m. All-contains (λ w. w < 2 ^ d) gone u leaves m)).1 refl in
    let small = sets_few d gone (cover_of d gone) low leaves few cover in
    let turns = few_probes (found.trials - found.splits - 1) (length (cover_of d gone)) small any.turns in
    omega (arith, turns, any.splits, low)
