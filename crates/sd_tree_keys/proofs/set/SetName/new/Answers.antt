use Rattle.std.proofs.Common.{◌≡◌, ℕ, ◌≤◌, ◌==◌, true, false, if◌then◌else◌, refl, arith}
use Rattle.std.proofs.lemmas.Grind.{common_steps}
use Rattle.sd_tree_keys.specs.declared.set.SetName.TheVariants.{Whole, Diff}
use Rattle.sd_tree_keys.specs.SetNames.{IsPair}
use Rattle.sd_tree_keys.proofs.set.SetName.new.Goals as goal

-- true is not false
not_both : true ≡ false → ⊥
not_both is = cc

-- a pair is named by its nodes
pair_named : (i j : ℕ) → 1 ≤ i → Diff i j ≡ (if i == 0 then Whole else Diff i j)
pair_named i j inner = grind (arith, common_steps)

pub returns-then-is_pair : goal.returns-then-is_pair
returns-then-is_pair c =
    let pair : IsPair c.args.h c.args.i c.args.j = grind (arith, common_steps) in
    let inner : 1 ≤ c.args.i = pair.inner.0 in
    record {
      whole = λ zero_i zero_j. absurd (omega (arith, zero_i, inner));
      pair = λ _. refl;
      none = (λ is. absurd (not_both is), λ neither. absurd (neither.1 pair));
      value = pair_named c.args.i c.args.j inner;
      of_height = pair;
    }

pub returns-else-is_pair : goal.returns-else-is_pair
returns-else-is_pair c =
    let no_pair : IsPair c.args.h c.args.i c.args.j → ⊥ = λ pair. grind (arith, common_steps) in
    let not_zero : (c.args.i ≡ 0) × (c.args.j ≡ 0) → ⊥ = λ zero. omega arith in
    record {
      whole = λ zero_i zero_j. absurd (not_zero (zero_i, zero_j));
      pair = λ pair. absurd (no_pair pair);
      none = (λ _. (not_zero, no_pair), λ _. refl);
      value = tt;
      of_height = tt;
    }
