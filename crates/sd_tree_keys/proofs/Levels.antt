-- The level of a node: how far below the root it stands.
use Rattle.std.proofs.Common.{ℕ, ◌+◌, ◌-◌, ◌*◌, ◌/◌, ◌^◌, ◌<◌, ◌≤◌, ◌≡◌, true, false, leb, sym, ap, ◌∙◌, ⊎_elim, arith}
use Rattle.std.proofs.Math.Nat.{mul_comm}
use Rattle.std.proofs.Math.Pow.{pow_mono, pow-add}
use Rattle.std.proofs.lemmas.Nat.{pow_pos, le-div, shr_below}
use Rattle.std.proofs.lemmas.Bool.{cases_lt, le-leb, lt-leb}
use Rattle.sd_tree_keys.specs.Node.{depth}
use Rattle.sd_tree_keys.proofs.Counting.{count_interval}

-- one more power of 2
pub doubled : (k : ℕ) → 2 ^ (k + 1) ≡ 2 * 2 ^ k
doubled k = pow-add 2 k 1 ∙ mul_comm (2 ^ k) 2

-- node v stands k below the root
pub record IsAtLevel (v k : ℕ) : Type 0 where
  pub low : 2 ^ k ≤ v
  pub high : v < 2 ^ (k + 1)

-- a node stands on one level only
pub same_level : (v a b : ℕ) → IsAtLevel v a → IsAtLevel v b → a ≡ b
same_level v a b p q =
    ⊎_elim (λ (h : a < b). absurd (omega (arith, pow_mono {i = a + 1} {j = b} (omega arith), p.high, q.low)))
    (λ (g : b ≤ a). ⊎_elim
    (λ (h : b < a). absurd (omega (arith, pow_mono {i = b + 1} {j = a} (omega arith), p.low, q.high)))
    (λ (h : a ≤ b). omega arith) (cases_lt b a)) (cases_lt a b)

-- a lower node stands on a level no higher
pub level_rises : (v w a b : ℕ) → v ≤ w → IsAtLevel v a → IsAtLevel w b → a ≤ b
level_rises v w a b le p q =
    ⊎_elim (λ (h : b < a). absurd (omega (arith, pow_mono {i = b + 1} {j = a} (omega arith), p.low, q.high)))
    (λ (h : a ≤ b). h) (cases_lt b a)

-- j halvings go j levels up
pub halved_level : (v k j : ℕ) → j ≤ k → IsAtLevel v k → IsAtLevel (v / 2 ^ j) (k - j)
halved_level v k j le p = record {
  low = le-div (2 ^ (k - j)) v (2 ^ j) (pow_pos j) (let e : k - j + j ≡ k =
      omega arith in let s : 2 ^ (k - j) * 2 ^ j ≡ 2 ^ k = sym (pow-add 2 (k - j) j)
      ∙ ap (λ (n : ℕ). 2 ^ n) e in omega (arith, p.low));
  high = shr_below v (k - j + 1) j (let e : k - j + 1 + j ≡ k + 1 = omega arith in rw e p.high);
}

-- the definition by a count gives the level
pub depth_at : (v k : ℕ) → k < 32 → IsAtLevel v k → depth v ≡ k
unfolding depth
depth_at v k h p =
    let is : (i : ℕ) → i < k → leb (2 ^ (i + 1)) v ≡ true =
    λ i q. le-leb (2 ^ (i + 1)) v (omega (arith, pow_mono {i = i + 1} {j = k} (omega arith), p.low)) in
    let isnt : (i : ℕ) → k ≤ i → leb (2 ^ (i + 1)) v ≡ false =
    λ i q. lt-leb (2 ^ (i + 1)) v (omega (arith, pow_mono {i = k + 1} {j = i + 1} (omega arith), p.high)) in
    count_interval (λ i. leb (2 ^ (i + 1)) v) 0 k 0 32 (omega arith) (λ i _ q. is i q) (λ i q. absurd (omega arith))
    isnt ∙ omega arith

-- the same by the bounds that a logarithm has
pub depth_of_bounds : (v k : ℕ) → v < 2 ^ 32 → 2 ^ k ≤ v → v < 2 * 2 ^ k → depth v ≡ k
depth_of_bounds v k word low high =
    let small : k < 32 =
    ⊎_elim (λ (h : k < 32). h) (λ (h : 32 ≤ k). absurd (omega (arith, pow_mono {i = 32} {j = k} h))) (cases_lt k 32)
    in
    depth_at v k small (record { low = low; high = omega (arith, doubled k) })
