-- Where the paths of two nodes to the root meet, by the highest bit in which two numbers of one level differ.
use Rattle.std.proofs.Common.{ℕ, suc, zero, ◌+◌, ◌-◌, ◌/◌, ◌^◌, ◌<◌, ◌≤◌, ◌≡◌, min, max, add-one, sym, refl, ap, ◌∙◌}
use Rattle.std.proofs.Common.{⊎_elim, arith}
use lib.Bits.{bit_xor, xor_assoc, xor_self, xor_zero_l, xor_zero_r}
use lib.Count.{count_leading_zeros}
use Rattle.std.proofs.Math.Nat.{div-eq_of_lt, div-eq_of_lt-le, lt-div-mul-add}
use Rattle.std.proofs.Math.Pow.{pow_mono, shr-shr}
use Rattle.std.proofs.lemmas.Nat.{pow_pos, xor_shr, xor_lt, leading_length, shr_le, shr-shr}
use Rattle.std.proofs.lemmas.Bool.{cases_lt}
use Rattle.sd_tree_keys.specs.Node.{IsAbove}
use Rattle.sd_tree_keys.proofs.Levels.{IsAtLevel, doubled, halved_level}
use Rattle.sd_tree_keys.proofs.Ancestors.{above_trans, above_by_levels, node_level}

-- the number of bits up to the highest that is set
abbrev pub bits_of : ℕ → ℕ
bits_of z = 32 - count_leading_zeros 32 z

-- numbers that differ only below bit k agree from there on
agree_above : (x y k : ℕ) → bit_xor x y < 2 ^ k → x / 2 ^ k ≡ y / 2 ^ k
agree_above x y k h =
    let none : bit_xor (x / 2 ^ k) (y / 2 ^ k) ≡ 0 = sym (xor_shr x y k) ∙ div-eq_of_lt h in
    sym (xor_zero_r (x / 2 ^ k))
    ∙ (ap (bit_xor (x / 2 ^ k)) (sym (xor_self (y / 2 ^ k)))
    ∙ (sym (xor_assoc (x / 2 ^ k) (y / 2 ^ k) (y / 2 ^ k))
    ∙ (ap (λ (n : ℕ). bit_xor n (y / 2 ^ k)) none ∙ xor_zero_l (y / 2 ^ k))))

-- numbers that agree from bit k on differ only below it
differ_below : (x y k : ℕ) → x / 2 ^ k ≡ y / 2 ^ k → bit_xor x y < 2 ^ k
differ_below x y k e =
    let none : bit_xor x y / 2 ^ k ≡ 0 = xor_shr x y k
    ∙ (ap (λ (n : ℕ). bit_xor n (y / 2 ^ k)) e ∙ xor_self (y / 2 ^ k)) in
    let rest = rw none at (lt-div-mul-add {a = bit_xor x y} {b = 2 ^ k} (pow_pos k)) in
    omega (arith, rest)

-- a number is below the power of 2 of its bits
below_bits : (z : ℕ) → z < 2 ^ 32 → z < 2 ^ bits_of z
below_bits z h =
    let l = leading_length 32 z h in
    let m : ℕ = l.0 in
    let e : bits_of z ≡ m = omega (arith, l.1) in
    rw e l.2

-- a number below 2^k has at most k bits
bits_within : (z k : ℕ) → z < 2 ^ 32 → z < 2 ^ k → bits_of z ≤ k
bits_within z k h below =
    let l = leading_length 32 z h in
    let m : ℕ = l.0 in
    let e : bits_of z ≡ m = omega (arith, l.1) in
    rw e (⊎_elim (λ (g : k < m). absurd (omega (arith, pow_mono {i = k + 1} {j = m} (omega arith), doubled k, l.3)))
    (λ (g : m ≤ k). g) (cases_lt k m))

-- a node on level k is 1 after k halvings
halved_to_root : (v k : ℕ) → IsAtLevel v k → v / 2 ^ k ≡ 1
halved_to_root v k p = div-eq_of_lt-le {k = 1} (2 ^ k) {m = v} (omega (arith, p.low)) (omega (arith, p.high, doubled k))

-- each number is below as high a power of 2
below_its_power : (n : ℕ) → n < 2 ^ n
below_its_power zero = omega arith
below_its_power (suc n) = omega (arith, below_its_power n, doubled n, add-one n)

-- enough halvings lead to 0
nothing_above : (v : ℕ) → IsAbove 0 v
nothing_above v = (v, div-eq_of_lt (below_its_power v))

-- what two numbers of one level have in common from the highest bit down
abbrev pub meeting : ℕ → ℕ → ℕ
meeting x y = y / 2 ^ bits_of (bit_xor x y)

-- nodes deep and high stand on levels n and m, and n - m halvings lift the deep one to the high one's level
module _ (deep high n m : ℕ) (p : IsAtLevel deep n) (q : IsAtLevel high m) (le : m ≤ n) (word_deep : deep < 2 ^ 32)
    (word_high : high < 2 ^ 32) where
  lifted_level : IsAtLevel (deep / 2 ^ (n - m)) m
  lifted_level =
      let e : n - (n - m) ≡ m = omega arith in
      rw e at (halved_level deep n (n - m) (omega arith) p)

  word_differs : bit_xor (deep / 2 ^ (n - m)) high < 2 ^ 32
  word_differs = xor_lt 32 (deep / 2 ^ (n - m)) high (omega (arith, shr_le deep (n - m))) word_high

  -- their highest bit is common
  pub bits_within_level : bits_of (bit_xor (deep / 2 ^ (n - m)) high) ≤ m
  bits_within_level =
      bits_within _ m word_differs (differ_below (deep / 2 ^ (n - m)) high m (halved_to_root _ m lifted_level
      ∙ sym (halved_to_root high m q)))

  -- the paths meet at a node
  pub meeting_is_node : 1 ≤ meeting (deep / 2 ^ (n - m)) high
  meeting_is_node =
      let up = halved_level high m _ bits_within_level q in
      let pos = pow_pos (m - bits_of (bit_xor (deep / 2 ^ (n - m)) high)) in
      omega (arith, up.low)

  -- the node is above the higher one
  pub meeting_above_high : IsAbove (meeting (deep / 2 ^ (n - m)) high) high
  meeting_above_high = (bits_of (bit_xor (deep / 2 ^ (n - m)) high), refl)

  -- the node is above the deeper one
  pub meeting_above_deep : IsAbove (meeting (deep / 2 ^ (n - m)) high) deep
  meeting_above_deep =
      above_trans _ (deep / 2 ^ (n - m)) deep
      (bits_of (bit_xor (deep / 2 ^ (n - m)) high), agree_above (deep / 2 ^ (n - m)) high _ (below_bits _ word_differs))
      (n - m, refl)

  deepest_node : (v : ℕ) → 1 ≤ v → IsAbove v deep → IsAbove v high → IsAbove v (meeting (deep / 2 ^ (n - m)) high)
  deepest_node v low over_deep over_high =
      let at = node_level v low in
      let l : ℕ = at.0 in
      let s : ℕ = bits_of (bit_xor (deep / 2 ^ (n - m)) high) in
      let by_deep = above_by_levels v deep l n at.1 p over_deep in
      let by_high = above_by_levels v high l m at.1 q over_high in
      let steps : n - m + (m - l) ≡ n - l = omega (arith, by_high.0) in
      let lifted : deep / 2 ^ (n - m) / 2 ^ (m - l) ≡ v = shr-shr deep (n - m) (m - l)
      ∙ (ap (λ (k : ℕ). deep / 2 ^ k) steps ∙ by_deep.1) in
      let few : s ≤ m - l =
      bits_within _ (m - l) word_differs (differ_below (deep / 2 ^ (n - m)) high (m - l) (lifted
      ∙ sym by_high.1)) in
      let rest : s + (m - l - s) ≡ m - l = omega arith in
      (m - l - s, shr-shr high s (m - l - s) ∙ (ap (λ (k : ℕ). high / 2 ^ k) rest ∙ by_high.1))

  -- what is above both is above the node
  pub meeting_is_deepest : (v : ℕ) → IsAbove v deep → IsAbove v high → IsAbove v (meeting (deep / 2 ^ (n - m)) high)
  meeting_is_deepest v over_deep over_high =
      ⊎_elim (λ (h : 0 < v). deepest_node v h over_deep over_high)
      (λ (h : v ≤ 0). let none : v ≡ 0 =
      omega arith in rw none (nothing_above (meeting (deep / 2 ^ (n - m)) high))) (cases_lt 0 v)

-- the greater and the lower of two numbers have what both have
pub both_ordered : (P : ℕ → Type 0) (a b deep high : ℕ) → deep ≡ max a b → high ≡ min a b → P a → P b → P deep × P high
both_ordered P a b deep high is_deep is_high p q =
    ⊎_elim (λ (h : a < b). let e : deep ≡ b = omega arith in let f : high ≡ a = omega arith in rw (e, f) (q, p))
    (λ (h : b ≤ a). let e : deep ≡ a = omega arith in let f : high ≡ b = omega arith in rw (e, f) (p, q)) (cases_lt a b)

-- two numbers have what the greater and the lower of them have
pub ordered_both : (P : ℕ → Type 0) (a b deep high : ℕ) → deep ≡ max a b → high ≡ min a b → P deep → P high → P a × P b
ordered_both P a b deep high is_deep is_high p q =
    ⊎_elim (λ (h : a < b). let e : deep ≡ b = omega arith in let f : high ≡ a = omega arith in (rw f at q, rw e at p))
    (λ (h : b ≤ a). let e : deep ≡ a = omega arith in let f : high ≡ b =
    omega arith in (rw e at p, rw f at q)) (cases_lt a b)
