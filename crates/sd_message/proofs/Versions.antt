-- The numbers in which the versions differ.
use Rattle.std.proofs.Common.{◌≡◌, ◌⊎◌, inl, inr, ℕ, ◌+◌, ◌*◌, ◌%◌, ◌≤◌, eq-eqb, arith, refl, subst, sym}
use Rattle.std.specs.Prelude.{Bool, true, false, ◌==◌, nat_lt, if◌then◌else◌}
use Rattle.std.proofs.lemmas.Bool.{cases_eq, ne_eqb}
use Rattle.sd_message.specs.EcmVersions.{IsVersion, positions_for, flags_at, even_table_id, version_for}

-- a version by the tests that tell it
pub by_version : (P : Bool → Bool → Type 0) (v : ℕ) → (v ≡ 3 → P true false) → (v ≡ 2 → P false true) → P false false →
    P (v == 3) (v == 2)
by_version P v three two else' = elim (cases_eq v 3) [
  | inl e ↦ subst (λ (n : ℕ). P (n == 3) (n == 2)) (sym e) (three e)
  | inr g ↦
      rw (ne_eqb v 3 g) (
      elim (cases_eq v 2) [ inl e ↦ rw (eq-eqb v 2 e) (two e) | inr f ↦ rw (ne_eqb v 2 f) else' ])
]

-- how many positions fit
pub few_positions : (v : ℕ) → positions_for v ≤ 13
unfolding positions_for
few_positions v = elim (cases_eq v 1) [
  | inl e ↦ rw (eq-eqb v 1 e) (omega arith)
  | inr g ↦ rw (ne_eqb v 1 g)
      (omega arith)
]

pub some_positions : (v : ℕ) → 12 ≤ positions_for v
unfolding positions_for
some_positions v = elim (cases_eq v 1) [
  | inl e ↦ rw (eq-eqb v 1 e) (omega arith)
  | inr g ↦ rw (ne_eqb v 1 g)
      (omega arith)
]

-- the flags stand after four numbers, and after six at most
pub flags_after : (v : ℕ) → 16 ≤ flags_at v
unfolding flags_at
flags_after v =
    by_version (λ three two. 16 ≤ (if three then 24 else if two then 20 else 16)) v (λ _. omega arith) (λ _.
    omega arith) (omega arith)

-- with all positions that fit a part goes into a packet
pub fits_packet : (v : ℕ) → flags_at v + 50 + 8 * positions_for v ≤ 170
unfolding flags_at positions_for
fits_packet v = elim (cases_eq v 1) [
  | inl e ↦ rw e (omega arith)
  | inr g ↦
      rw (ne_eqb v 1 g)
      (by_version (λ three two. (if three then 24 else if two then 20 else 16) + 50 + 8 * 12 ≤ 170) v (λ _. omega arith)
      (λ _. omega arith) (omega arith))
]

-- a table_id has its version
pub even_fits : (v : ℕ) → even_table_id v ≤ 0x88
unfolding even_table_id
even_fits v =
    by_version (λ three two. (if three then 0x88 else if two then 0x84 else 0x80) ≤ 0x88) v (λ _. omega arith)
    (λ _. omega arith) (omega arith)

pub even_is_even : (v : ℕ) → even_table_id v % 2 ≡ 0
unfolding even_table_id
even_is_even v =
    by_version (λ three two. (if three then 0x88 else if two then 0x84 else 0x80) % 2 ≡ 0) v (λ _. refl) (λ _.
    refl) refl

bit_cases : (w : ℕ) → (w % 2 ≡ 0) ⊎ (w % 2 ≡ 1)
bit_cases w = elim (cases_eq (w % 2) 0) [ inl e ↦ inl e | inr g ↦ inr (omega arith) ]

pub version_again : (v w : ℕ) → IsVersion v → version_for (even_table_id v + w % 2) ≡ v
unfolding version_for even_table_id
version_again v w (inl e) =
    subst (λ (n : ℕ). version_for (even_table_id n + w % 2) ≡ n) (sym e)
    (elim (bit_cases w) [ inl b ↦ rw b refl | inr b ↦ rw b refl ])
version_again v w (inr (inl e)) =
    subst (λ (n : ℕ). version_for (even_table_id n + w % 2) ≡ n) (sym e)
    (elim (bit_cases w) [ inl b ↦ rw b refl | inr b ↦ rw b refl ])
version_again v w (inr (inr e)) =
    subst (λ (n : ℕ). version_for (even_table_id n + w % 2) ≡ n) (sym e)
    (elim (bit_cases w) [ inl b ↦ rw b refl | inr b ↦ rw b refl ])

-- each table_id has one of the versions
one_of_three : (first second : Bool) → IsVersion (if first then 1 else if second then 2 else 3)
one_of_three true second = inl refl
one_of_three false true = inr (inl refl)
one_of_three false false = inr (inr refl)

pub version_is : (t : ℕ) → IsVersion (version_for t)
unfolding version_for
version_is t = one_of_three (nat_lt t 0x84) (nat_lt t 0x88)
