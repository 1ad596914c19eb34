-- What the generator gives from one byte to the next.
use Rattle.std.proofs.Common.{ℕ, zero, suc, ◌+◌, ◌-◌, ◌/◌, ◌^◌, ◌<◌, ◌≤◌, ◌≡◌, List, [], ◌∷◌, ◌++◌, length, take, refl}
use Rattle.std.proofs.Common.{sym, ap, ◌∙◌, append-nil, append_assoc, arith}
use Rattle.std.specs.Prelude.{slice_set}
use Rattle.std.proofs.lemmas.List.{take_more_set, take_all}
use Rattle.std.proofs.lemmas.List.FromFn.{map-range_with_len_more}
use Rattle.sd_engine.specs.Sample.{next_state, state_at, generated}

-- a state after a state is the state after both
pub state_more : (x m n : ℕ) → state_at (state_at x m) n ≡ state_at x (m + n)
unfolding state_at
state_more x m zero = let e : m ≡ m + 0 = omega arith in ap (state_at x) e
state_more x m (suc n) = let e : suc (m + n) ≡ m + suc n = omega arith in ap next_state (state_more x m n)
    ∙ ap (state_at x) e

-- the next state
next_at : (x n : ℕ) → next_state (state_at x n) ≡ state_at x (n + 1)
unfolding state_at
next_at x n = let e : suc n ≡ n + 1 = omega arith in ap (state_at x) e

-- the next byte
next_generated : (x n : ℕ) → generated x (n + 1) ≡ generated x n ++ (state_at x (n + 1) / 2 ^ 56) ∷ []
unfolding generated
next_generated x n = map-range_with_len_more (λ (i : ℕ). state_at x (i + 1) / 2 ^ 56) 0 n n (omega arith)

-- before the first byte
pub none_generated : (x start : ℕ) (bytes : List ℕ) → take start bytes ≡ take start bytes ++ generated x (start - start)
unfolding generated
none_generated x start bytes = let e : start - start ≡ 0 = omega arith in rw e (sym (append-nil (take start bytes)))

pub none_passed : (x start : ℕ) → x ≡ state_at x (start - start)
unfolding state_at
none_passed x start = let e : start - start ≡ 0 = omega arith in rw e refl

-- the state after a byte more
pub state_generated : (x start i s t : ℕ) → start ≤ i → s ≡ state_at x (i - start) → t ≡ next_state s
    → t ≡ state_at x (i + 1 - start)
state_generated x start i s t h e f =
    let m : i - start + 1 ≡ i + 1 - start = omega arith in
    f ∙ ap next_state e ∙ next_at x (i - start) ∙ ap (state_at x) m

-- a byte more
pub byte_generated : (x start i t : ℕ) (old bytes : List ℕ) → start ≤ i → i < length bytes
    → t ≡ state_at x (i + 1 - start) →
    take i bytes ≡ take start old ++ generated x (i - start)
    → take (i + 1) (slice_set bytes i (t / 2 ^ 56)) ≡ take start old ++ generated x (i + 1 - start)
byte_generated x start i t old bytes h within is so_far =
    let m : i + 1 - start ≡ i - start + 1 = omega arith in
    let byte : t / 2 ^ 56 ≡ state_at x (i - start + 1) / 2 ^ 56 = ap (λ (s : ℕ). s / 2 ^ 56) (is ∙ ap (state_at x) m) in
    take_more_set bytes i (t / 2 ^ 56) within
    ∙ ap (λ (r : List ℕ). r ++ (t / 2 ^ 56) ∷ []) so_far
    ∙ ap (λ (b : ℕ). (take start old ++ generated x (i - start)) ++ b ∷ []) byte
    ∙ append_assoc (take start old) (generated x (i - start)) ((state_at x (i - start + 1) / 2 ^ 56) ∷ [])
    ∙ ap (λ (r : List ℕ). take start old ++ r) (sym (ap (generated x) m ∙ next_generated x (i - start)))

-- after the last byte
pub all_generated : (x start i : ℕ) (old bytes : List ℕ) → length bytes ≡ 188 → 188 ≤ i → i ≤ 188
    → take i bytes ≡ take start old ++ generated x (i - start) →
    bytes ≡ take start old ++ generated x (188 - start)
all_generated x start i old bytes long low high e =
    let all : i ≡ 188 = omega arith in
    sym (take_all i bytes (omega arith)) ∙ e ∙ ap (λ (n : ℕ). take start old ++ generated x (n - start)) all
