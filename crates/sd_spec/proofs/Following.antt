-- What one packet more makes of the PAT in force and of the PIDs with positions.
use Rattle.std.proofs.Common.{◌≡◌, ℕ, zero, suc, ◌+◌, ◌<◌, ◌≤◌, ◌==◌, ◌&&◌, ◌||◌, Bool, true, false}
use Rattle.std.proofs.Common.{nat_lt}
use Rattle.std.proofs.Common.{List, [], ◌∷◌, ◌++◌, filter, Some, if◌then◌else◌}
use Rattle.std.proofs.Common.{◌⊎◌, refl, sym, ap, subst, ◌∙◌, inl, inr, arith}
use Rattle.std.specs.List.{range_with_len, find}
use Rattle.std.proofs.lemmas.List.{reverse-append}
use Rattle.std.proofs.lemmas.List.Folds.{list_any-append}
use Rattle.std.proofs.lemmas.Bool.Decides.{nat_tests}
use Rattle.sd_base.proofs.Ranges.{filter_range}
use Rattle.sd_packet.specs.Header.{pid_of, has_payload}
use Rattle.sd_packet.specs.Positions.{is_placed, is_moving}
use Rattle.sd_spec.specs.Kinds.{is_current_pat, pat_in_force, has_moved, positional_pids, moved_pids, put_in}

-- a current PAT is in force after it, and any other packet leaves the one before
pub pat_next : (before : List (List ℕ)) (packet : List ℕ) →
    pat_in_force (before ++ packet ∷ []) ≡ (if is_current_pat packet then Some packet else pat_in_force before)
unfolding pat_in_force
pat_next before packet = ap (find is_current_pat) (reverse-append before (packet ∷ []))

-- a PID has moved after a packet where it had before, or where the packet moves it
pub moved_after : (before : List (List ℕ)) (packet : List ℕ) (pid : ℕ) →
    has_moved (before ++ packet ∷ []) pid ≡ (has_moved before pid || is_moving pid packet)
moved_after before packet pid = list_any-append (is_moving pid) before (packet ∷ [])
    ∙ last_test (has_moved before pid) (is_moving pid packet)
  where
    last_test : (a b : Bool) → (a || (b || false)) ≡ (a || b)
    last_test true b = refl
    last_test false true = refl
    last_test false false = refl

-- a number below all of these stands before them
put_first : (f : ℕ → Bool) (q a n : ℕ) → q < a →
    put_in q (filter f (range_with_len a n)) ≡ q ∷ filter f (range_with_len a n)
put_first f q a zero below = refl
put_first f q a (suc n) below =
    by_test (f a) refl (put_first f q (a + 1) n (omega (arith, below)))
  where
    by_test : (b : Bool) → f a ≡ b
        → put_in q (filter f (range_with_len (a + 1) n)) ≡ q ∷ filter f (range_with_len (a + 1) n)
        → put_in q (filter f (range_with_len a (suc n))) ≡ q ∷ filter f (range_with_len a (suc n))
    by_test true is rest = let less : nat_lt q a ≡ true = grind (arith, nat_tests, below) in rw is (rw less refl)
    by_test false is rest = rw is rest

-- a number is this one or above it
abbrev IsHereOrLater : ℕ → ℕ → Type 0
IsHereOrLater a q = (a ≡ q) ⊎ (a < q)

here_or_later : (a q : ℕ) → a ≤ q → IsHereOrLater a q
here_or_later a q low = by_test (a == q) refl
  where
    by_test : (b : Bool) → (a == q) ≡ b → IsHereOrLater a q
    by_test true is = inl (grind (arith, nat_tests, is))
    by_test false is = inr (grind (arith, nat_tests, is, low))

-- the test that the number passes too
abbrev with_number : (ℕ → Bool) → ℕ → ℕ → Bool
with_number f q m = f m || (q == m)

-- among numbers above it, it makes no difference
apart : (f : ℕ → Bool) (q m : ℕ) → q < m → with_number f q m ≡ f m
apart f q m above = by_test (f m) refl
  where
    by_test : (b : Bool) → f m ≡ b → with_number f q m ≡ f m
    by_test true is = rw is refl
    by_test false is = let other : (q == m) ≡ false = grind (arith, nat_tests, above) in rw is (rw other refl)

-- put before all others
put_here : (f : ℕ → Bool) (a n : ℕ) → f a ≡ false →
    filter (with_number f a) (range_with_len a (suc n)) ≡ put_in a (filter f (range_with_len a (suc n)))
put_here f a n none =
    let itself : (a == a) ≡ true = grind (arith, nat_tests) in
    rw none (rw itself (
    ap (λ (xs : List ℕ). a ∷ xs)
    (filter_range (with_number f a) f (a + 1) n (λ m low high. apart f a m (omega (arith, low))))
    ∙ sym (put_first f a (a + 1) n (omega arith))))

-- put among those after the first
put_later : (f : ℕ → Bool) (q a n : ℕ) → a < q
    → filter (with_number f q) (range_with_len (a + 1) n) ≡ put_in q (filter f (range_with_len (a + 1) n))
    → filter (with_number f q) (range_with_len a (suc n)) ≡ put_in q (filter f (range_with_len a (suc n)))
put_later f q a n later rest = by_test (f a) refl
  where
    by_test : (b : Bool) → f a ≡ b →
        filter (with_number f q) (range_with_len a (suc n)) ≡ put_in q (filter f (range_with_len a (suc n)))
    by_test true is =
        let less : nat_lt q a ≡ false = grind (arith, nat_tests, later) in
        rw is (rw less (ap (λ (xs : List ℕ). a ∷ xs) rest))
    by_test false is =
        let other : (q == a) ≡ false = grind (arith, nat_tests, later) in
        rw is (rw other rest)

-- one more number that passes is put in its place
pub put_among : (f : ℕ → Bool) (q a n : ℕ) → a ≤ q → q < a + n → f q ≡ false →
    filter (with_number f q) (range_with_len a n) ≡ put_in q (filter f (range_with_len a n))
put_among f q a zero low high none = absurd (omega (arith, low, high))
put_among f q a (suc n) low high none = elim (here_or_later a q low) [
  | inl same ↦ subst (λ (p : ℕ). filter (with_number f p) (range_with_len a (suc n))
      ≡ put_in p (filter f (range_with_len a (suc n))))
      same (put_here f a n (subst (λ (p : ℕ). f p ≡ false) (sym same) none))
  | inr later ↦ put_later f q a n later (put_among f q (a + 1) n (omega (arith, later)) (omega (arith, high)) none)
]

-- what a placed packet moves
moves_its_own : (packet : List ℕ) (m : ℕ) → has_payload packet ≡ true → is_moving m packet ≡ (pid_of packet == m)
moves_its_own packet m payload = rw payload (both_true (pid_of packet == m))
  where
    both_true : (b : Bool) → (b && true) ≡ b
    both_true true = refl
    both_true false = refl

-- a packet that moves a PID for the first time puts it in its place among those that have moved
pub moved_first : (before : List (List ℕ)) (packet : List ℕ) → is_placed packet ≡ true →
    has_moved before (pid_of packet) ≡ false →
    moved_pids (before ++ packet ∷ []) ≡ put_in (pid_of packet) (moved_pids before)
unfolding moved_pids positional_pids
moved_first before packet placed none =
    let payload : has_payload packet ≡ true = grind (arith, nat_tests, placed) in
    let low : 0x20 ≤ pid_of packet = grind (arith, nat_tests, placed) in
    let high : pid_of packet < 0x20 + 0x1FD0 = grind (arith, nat_tests, placed) in
    filter_range (has_moved (before ++ packet ∷ [])) (with_number (has_moved before) (pid_of packet)) 0x20 0x1FD0
    (λ m at_least at_most. moved_after before packet m
    ∙ ap (λ (b : Bool). has_moved before m || b) (moves_its_own packet m payload))
    ∙ put_among (has_moved before) (pid_of packet) 0x20 0x1FD0 low high none

-- where the packet moves no PID that has not moved, the same have moved
moved_alike : (before : List (List ℕ)) (packet : List ℕ)
    → ((m : ℕ) → 0x20 ≤ m → m < 0x20 + 0x1FD0 → has_moved before m ≡ false → is_moving m packet ≡ false)
    → moved_pids (before ++ packet ∷ []) ≡ moved_pids before
unfolding moved_pids positional_pids
moved_alike before packet still =
    filter_range (has_moved (before ++ packet ∷ [])) (has_moved before) 0x20 0x1FD0
    (λ m low high. moved_after before packet m ∙ same m low high (has_moved before m) refl)
  where
    same : (m : ℕ) → 0x20 ≤ m → m < 0x20 + 0x1FD0 → (b : Bool) → has_moved before m ≡ b →
        (has_moved before m || is_moving m packet) ≡ has_moved before m
    same m low high true is = rw is refl
    same m low high false is = rw is (rw (still m low high is) refl)

-- a packet that has no position moves nothing
pub moved_unplaced : (before : List (List ℕ)) (packet : List ℕ) → is_placed packet ≡ false →
    moved_pids (before ++ packet ∷ []) ≡ moved_pids before
moved_unplaced before packet unplaced =
    moved_alike before packet (λ m low high none. grind (arith, nat_tests, unplaced, low, high))

-- nor is a PID that has moved put in again
pub moved_again : (before : List (List ℕ)) (packet : List ℕ) → has_moved before (pid_of packet) ≡ true →
    moved_pids (before ++ packet ∷ []) ≡ moved_pids before
moved_again before packet moved = moved_alike before packet (λ m low high none. other m none (pid_of packet == m) refl)
  where
    other : (m : ℕ) → has_moved before m ≡ false → (b : Bool) → (pid_of packet == m) ≡ b → is_moving m packet ≡ false
    other m none false is = rw is refl
    other m none true is =
        let same : pid_of packet ≡ m = grind (arith, nat_tests, is) in
        absurd (no_both (subst (λ (p : ℕ). has_moved before p ≡ true) same moved) none)
      where
        no_both : {b : Bool} → b ≡ true → b ≡ false → ⊥
        no_both is is_not = grind (arith, is, is_not)
