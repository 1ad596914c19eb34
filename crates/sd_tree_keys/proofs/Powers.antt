use Rattle.std.proofs.Common.{ℕ, ◌^◌, ◌<◌, ◌≤◌, ⊎_elim, arith}
use Rattle.std.proofs.Math.Pow.{pow_mono, pow-lt}
use Rattle.std.proofs.lemmas.Bool.{cases_lt}

-- the number of leaves of a height from 1 to 20 is from 2 to 2^20
pub leaves_bounds : (d : ℕ) → 1 ≤ d → d ≤ 20 → (2 ≤ 2 ^ d) × (2 ^ d ≤ 2 ^ 20)
leaves_bounds d low high =
    let least : 2 ^ 1 ≤ 2 ^ d = pow_mono low in
    (omega arith, pow_mono high)

-- a height whose leaves are so few is at most 20
pub height_within : (d : ℕ) → 2 ^ d ≤ 2 ^ 20 → d ≤ 20
height_within d few =
    ⊎_elim (λ (h : 20 < d). absurd (omega (arith, pow-lt {i = 20} {j = d} h))) (λ (h : d ≤ 20). h) (cases_lt 20 d)
