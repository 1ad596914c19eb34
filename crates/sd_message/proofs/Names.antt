-- Which pairs of numbers name sets.
use Rattle.std.proofs.Common.{◌≡◌, ◌⊎◌, inl, inr, ℕ, ◌+◌, ◌^◌, ◌<◌, List, ◌++◌, ◌≤◌, arith, refl, sym, ap, ◌∙◌, subst}
use Rattle.std.proofs.Common.{eq-eqb}
use Rattle.std.specs.Prelude.{Bool, ◌==◌, if◌then◌else◌, true, false}
use Rattle.std.proofs.lemmas.Bool.{cases_eq, ne_eqb}
use Rattle.sd_tree_keys.specs.declared.set.SetName.{SetName}
use Rattle.sd_tree_keys.specs.declared.set.SetName.TheVariants.{Whole, Diff}
use Rattle.sd_tree_keys.specs.SetNames.{IsPair, IsOfHeight}
use Rattle.std.proofs.Math.Pow.{pow_mono}
use Rattle.sd_base.specs.Bits.{field}
use Rattle.sd_message.proofs.Numbers.{word_again}
use Rattle.sd_message.specs.EmmSpelled.{name_bytes}
use Rattle.sd_message.specs.EmmForm.{IsSetBeside}
use Rattle.sd_message.specs.EmmFields.{set_name_of}

-- the pair (0,0) is the whole set, and each other its own
pub name_cases : (i j : ℕ) → (((i ≡ 0) × (j ≡ 0)) × (set_name_of i j ≡ Whole))
    ⊎ ((¬ ((i ≡ 0) × (j ≡ 0))) × (set_name_of i j ≡ Diff i j))
name_cases i j = elim (cases_eq i 0) [
  | inl e ↦ elim (cases_eq j 0) [
    | inl f ↦ inl ((e, f), rw (e, f) refl)
    | inr g ↦ inr (λ both. g both.1, rw (eq-eqb i 0 e, ne_eqb j 0 g) refl)
  ]
  | inr g ↦ inr (λ both. g both.0, rw (ne_eqb i 0 g) refl)
]

-- what is no pair of the height is no set
pub not_named : (h sets i j : ℕ) → ¬ ((i ≡ 0) × (j ≡ 0)) → ¬ IsPair h i j → ¬ IsSetBeside h sets (set_name_of i j)
not_named h sets i j other no_pair set = elim (name_cases i j) [
  | inl whole ↦ other whole.0
  | inr diff ↦ no_pair (subst (IsOfHeight h) diff.1 set.of_height)
]

when : (i j : ℕ) (zero : Bool) → (i == 0) ≡ zero → (if i == 0 then Whole else Diff i j)
    ≡ (if zero then Whole else Diff i j)
when i j zero e = ap (λ (b : Bool). if b then Whole else Diff i j) e

-- what is given for a pair is its name
pub named : (h i j : ℕ) (name : SetName) → name ≡ (if i == 0 then Whole else Diff i j) → IsOfHeight h name →
    ((¬ ((i ≡ 0) × (j ≡ 0))) × (¬ IsPair h i j) → ⊥) → name ≡ set_name_of i j
named h i j name is of_height some = elim (name_cases i j) [
  | inl whole ↦ is ∙ (when i j true (eq-eqb i 0 whole.0.0) ∙ sym whole.1)
  | inr diff ↦ elim (cases_eq i 0) [
    | inl e ↦ absurd (some (diff.0, λ pair. let low = pair.inner.0 in omega arith))
    | inr g ↦ is ∙ (when i j false (ne_eqb i 0 g) ∙ sym diff.1)
  ]
]

-- a name is read as what it was
pub name_again : (h sets : ℕ) (name : SetName) (rest : List ℕ) → h ≤ 20 → IsSetBeside h sets name →
    set_name_of (field (name_bytes name ++ rest) 0 32) (field (name_bytes name ++ rest) 32 32) ≡ name
name_again h sets Whole rest high set =
    let xs : List ℕ = name_bytes Whole ++ rest in
    rw (word_again xs 0 0 (omega arith) refl refl refl refl, word_again xs 4 0 (omega arith) refl refl refl refl) refl
name_again h sets (Diff i j) rest high set =
    let xs : List ℕ = name_bytes (Diff i j) ++ rest in
    let pair = set.of_height in
    let top = pow_mono {i = h + 1} {j = 21} (omega arith) in
    let low = pow_mono {i = h} {j = 20} (omega arith) in
    let small : i < 2 ^ 32 = omega (arith, pair.inner.1) in
    let small_too : j < 2 ^ 32 = omega (arith, pair.node) in
    let some : (i == 0) ≡ false = ne_eqb i 0 (λ e. omega (arith, pair.inner.0)) in
    rw (word_again xs 0 i small refl refl refl refl, word_again xs 4 j small_too refl refl refl refl, some) refl
