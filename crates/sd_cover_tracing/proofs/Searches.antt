-- The search for the last set that opens.
use Rattle.std.proofs.Common.{ℕ, ◌+◌, ◌-◌, ◌*◌, ◌^◌, ◌<◌, ◌≤◌, ◌≡◌, Bool, true, false, List, ◌++◌}
use Rattle.std.proofs.Common.{length, take, drop, refl, subst, ap, ◌∙◌, ⊎_elim, inl, inr, pow_mono, arith}
use Rattle.std.specs.Prelude.{◌⊎◌, replicate}
use Rattle.std.proofs.lemmas.Bool.{cases_lt}
use Rattle.std.proofs.lemmas.List.{drop-replicate, take-replicate, drop-append-le, length-replicate}
use Rattle.std.proofs.Math.Seq.{take-append-add}
use Rattle.sd_tree_keys.proofs.Levels.{doubled}

-- a number of halvings among n places: none, or so few
abbrev pub IsFew : ℕ → ℕ → Type 0
IsFew h n = (h ≡ 0) ⊎ (2 ^ h ≤ 2 * (n - 1))

-- one halving more, where the half has at most half of the places and one
few_more : (h part n : ℕ) → 2 ≤ n → 2 * part ≤ n + 1 → IsFew h part → 2 ^ (1 + h) ≤ 2 * (n - 1)
few_more h part n some half (inl none) = rw none (omega arith)
few_more h part n some half (inr few) = let e : 1 + h ≡ h + 1 = omega arith in rw e (omega (arith, doubled h))

-- keys of which the first m are wrong, cut out of n wrong and n right ones
pub right_cut : (n m : ℕ) → m ≤ n → take n (drop (n - m) (replicate n false ++ replicate n true)) ≡ replicate m false
    ++ replicate (n - m) true
right_cut n m le =
    let left = drop-append-le (n - m) (replicate n false) (replicate n true)
    (rw (length-replicate n false) (omega arith)) in
    let kept = drop-replicate (n - m) n false in
    let some : n - (n - m) ≡ m = omega arith in
    let count : length (replicate m false) + (n - m) ≡ n = rw (length-replicate m false) (omega arith) in
    let cut = take-append-add (replicate m false) (replicate n true) (n - m) in
    let right = take-replicate (n - m) n true (omega arith) in
    rw (left, kept, some) (subst (λ (k : ℕ). take k (replicate m false ++ replicate n true) ≡ replicate m false
    ++ replicate (n - m) true) count (cut ∙ ap (λ (r : List Bool). replicate m false ++ r) right))

-- so many turns have led from count places to these
unfoldable pub IsSearched : ℕ → ℕ → ℕ → Type 0
IsSearched turns places count = (h : ℕ) → IsFew h places → IsFew (turns + h) count

-- at the beginning
pub searched_none : (count : ℕ) → IsSearched 0 count count
unfolding IsSearched
searched_none count h few = let e : 0 + h ≡ h = omega arith in rw e few

-- one turn more
pub searched_more : (turns places part count : ℕ) → 2 ≤ places → 2 * part ≤ places + 1 → IsSearched turns places count →
    IsSearched (turns + 1) part count
unfolding IsSearched
searched_more turns places part count some half before h few =
    let e : turns + (1 + h) ≡ turns + 1 + h = omega arith in
    subst (λ (n : ℕ). IsFew n count) e (before (1 + h) (inr (few_more h part places some half few)))

-- the turns are few
pub searched_few : (turns places count : ℕ) → IsSearched turns places count → IsFew turns count
unfolding IsSearched
searched_few turns places count before =
    let e : turns + 0 ≡ turns = omega arith in
    subst (λ (n : ℕ). IsFew n count) e (before 0 (inl refl))

-- and so their power of two is below twice the places
pub few_power : (turns count : ℕ) → 1 ≤ count → IsFew turns count → 2 ^ turns < 2 * count
few_power turns count some (inl none) = rw none (omega arith)
few_power turns count some (inr few) = omega arith

-- they are fewer than 64
pub few_turns : (turns count : ℕ) → 1 ≤ count → count < 2 ^ 32 → IsFew turns count → turns < 34
few_turns turns count some small few =
    ⊎_elim
    (λ (h : turns < 34). h)
    (λ (h : 34 ≤ turns). absurd (omega (arith, few_power turns count some few, pow_mono {i = 34} {j = turns} h)))
    (cases_lt turns 34)

-- among so few places they are fewer than 19
pub few_probes : (turns count : ℕ) → count < 2 ^ 18 → 2 ^ turns < 2 * count → turns < 19
few_probes turns count small below =
    ⊎_elim
    (λ (h : turns < 19). h)
    (λ (h : 19 ≤ turns). absurd (omega (arith, small, below, pow_mono {i = 19} {j = turns} h)))
    (cases_lt turns 19)
