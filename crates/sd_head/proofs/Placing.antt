-- The positions of a message.
use Rattle.std.proofs.Common.{◌≡◌, ℕ, zero, suc, ◌+◌, ◌^◌, ◌<◌, ◌≤◌, Bool, true, false, List, ◌∷◌}
use Rattle.std.proofs.Common.{[], ◌++◌, length, get_or, map, take, filter}
use Rattle.std.proofs.Common.{refl, sym, ap, ◌∙◌, arith}
use Rattle.std.specs.List.{range_with_len}
use Rattle.std.proofs.lemmas.Bool.Decides.{nat_tests}
use Rattle.std.proofs.lemmas.List.{get_or-map, length-map, length-take-le, map-append, take_more}
use Rattle.sd_packet.specs.Positions.{is_positional, position_of}
use Rattle.sd_packet.proofs.Positions.{moved_by_near}
use Rattle.sd_message.specs.EcmForm.{ArePositioned, ArePidsAscending, AreShort}
use Rattle.sd_message.specs.declared.ecm_part.Place.{Place}
use Rattle.sd_spec.specs.Kinds.{has_moved, moved_pids, positional_pids}
use Rattle.sd_spec.specs.Messages.{places_after}
use Rattle.sd_head.specs.After.{ArePositions}

-- what stands among the numbers that pass a test is in their range, and passes it
pub passing_at : (f : ℕ → Bool) (a n i d : ℕ) → i < length (filter f (range_with_len a n)) →
    (a ≤ get_or (filter f (range_with_len a n)) i d) × (get_or (filter f (range_with_len a n)) i d < a + n)
passing_at f a zero i d h = absurd (omega arith)
passing_at f a (suc n) i d h = by_test (f a) refl i h (λ k l. passing_at f (a + 1) n k d l)
  where
    by_test : (b : Bool) → f a ≡ b → (i : ℕ) → i < length (filter f (range_with_len a (suc n)))
        → ((k : ℕ) → k < length (filter f (range_with_len (a + 1) n))
        → (a + 1 ≤ get_or (filter f (range_with_len (a + 1) n)) k d) ×
        (get_or (filter f (range_with_len (a + 1) n)) k d < a + 1 + n))
        → (a ≤ get_or (filter f (range_with_len a (suc n))) i d) ×
        (get_or (filter f (range_with_len a (suc n))) i d < a + suc n)
    by_test true is zero h rest = rw is (omega arith, omega arith)
    by_test true is (suc i) h rest =
        let at = rest i (omega (arith, rw is at h)) in
        rw is (omega (arith, at), omega (arith, at))
    by_test false is i h rest =
        let at = rest i (rw is at h) in
        rw is (omega (arith, at), omega (arith, at))

-- and they ascend
pub passing_ascends : (f : ℕ → Bool) (a n i j d : ℕ) → i < j → j < length (filter f (range_with_len a n)) →
    get_or (filter f (range_with_len a n)) i d < get_or (filter f (range_with_len a n)) j d
passing_ascends f a zero i j d below h = absurd (omega arith)
passing_ascends f a (suc n) i j d below h =
    by_test (f a) refl i j below h (λ k l. passing_at f (a + 1) n k d l) (λ k l. passing_ascends f (a + 1) n k l d)
  where
    by_test : (b : Bool) → f a ≡ b → (i j : ℕ) → i < j → j < length (filter f (range_with_len a (suc n)))
        → ((k : ℕ) → k < length (filter f (range_with_len (a + 1) n))
        → (a + 1 ≤ get_or (filter f (range_with_len (a + 1) n)) k d) ×
        (get_or (filter f (range_with_len (a + 1) n)) k d < a + 1 + n))
        → ((k l : ℕ) → k < l → l < length (filter f (range_with_len (a + 1) n))
        → get_or (filter f (range_with_len (a + 1) n)) k d < get_or (filter f (range_with_len (a + 1) n)) l d)
        → get_or (filter f (range_with_len a (suc n))) i d < get_or (filter f (range_with_len a (suc n))) j d
    by_test b is i zero below h at rest = absurd (omega (arith, below))
    by_test true is zero (suc j) below h at rest =
        let here = at j (omega (arith, rw is at h)) in
        rw is (omega (arith, here))
    by_test true is (suc i) (suc j) below h at rest = rw is
        (rest i j (omega (arith, below)) (omega (arith, rw is at h)))
    by_test false is i (suc j) below h at rest = rw is (rest i (suc j) below (rw is at h))

-- a PID with its position in the table
abbrev pub place_at : List ℕ → ℕ → Place
place_at positions pid = record { pid = pid; position = get_or positions pid 0 }

-- two functions that agree on a range agree on what passes a test
mapped_alike : (f : ℕ → Bool) (g h : ℕ → Place) (a n : ℕ) → ((m : ℕ) → a ≤ m → m < a + n → g m ≡ h m) →
    map g (filter f (range_with_len a n)) ≡ map h (filter f (range_with_len a n))
mapped_alike f g h a zero same = refl
mapped_alike f g h a (suc n) same =
    by_test (f a) refl (mapped_alike f g h (a + 1) n
    (λ m low high. same m (omega (arith, low)) (omega (arith, high))))
  where
    by_test : (b : Bool) → f a ≡ b
        → map g (filter f (range_with_len (a + 1) n)) ≡ map h (filter f (range_with_len (a + 1) n))
        → map g (filter f (range_with_len a (suc n))) ≡ map h (filter f (range_with_len a (suc n)))
    by_test true is rest =
        rw is (ap (λ (x : Place). x ∷ map g (filter f (range_with_len (a + 1) n)))
        (same a (omega arith) (omega arith))
        ∙ ap (λ (xs : List Place). h a ∷ xs) rest)
    by_test false is rest = rw is rest

positional_in : (m : ℕ) → 0x20 ≤ m → m < 0x20 + 0x1FD0 → is_positional m ≡ true
positional_in m low high = grind (arith, nat_tests, low, high)

-- the positions of the PIDs that have moved
pub places_are : (before : List (List ℕ)) (positions pids : List ℕ) → ArePositions before positions
    → pids ≡ moved_pids before
    → map (place_at positions) pids ≡ places_after before
unfolding places_after moved_pids positional_pids
places_are before positions pids are moved =
    ap (map (place_at positions)) moved
    ∙ mapped_alike (has_moved before) (place_at positions)
    (λ pid. record { pid = pid; position = position_of pid before })
    0x0020 0x1FD0 (λ m low high. ap (λ (x : ℕ). record { pid = m; position = x })
    (are.at m (positional_in m low high)))

within : (before : List (List ℕ)) (k : ℕ) → k < length (places_after before) → k < length (moved_pids before)
unfolding places_after
within before k h =
    let told : ℕ → Place = λ pid. record { pid = pid; position = position_of pid before } in
    let same : length (map told (moved_pids before))
    ≡ length (moved_pids before) = length-map (moved_pids before) told in
    omega (arith, h, same)

-- what is told of a position
told_at : (before : List (List ℕ)) (k : ℕ) (d : Place) → k < length (places_after before) →
    get_or (places_after before) k d
    ≡ record { pid = get_or (moved_pids before) k 0; position = position_of (get_or (moved_pids before) k 0) before }
unfolding places_after
told_at before k d h =
    get_or-map (λ pid. record { pid = pid; position = position_of pid before }) (moved_pids before) k 0 d
    (within before k h)

moved_at : (before : List (List ℕ)) (k : ℕ) → k < length (moved_pids before) →
    (0x20 ≤ get_or (moved_pids before) k 0) × (get_or (moved_pids before) k 0 < 0x20 + 0x1FD0)
unfolding moved_pids positional_pids
moved_at before k h = passing_at (has_moved before) 0x20 0x1FD0 k 0 h

moved_ascend : (before : List (List ℕ)) (i j : ℕ) → i < j → j < length (moved_pids before) →
    get_or (moved_pids before) i 0 < get_or (moved_pids before) j 0
unfolding moved_pids positional_pids
moved_ascend before i j below h = passing_ascends (has_moved before) 0x20 0x1FD0 i j 0 below h

pub positioned : (before : List (List ℕ)) → ArePositioned (places_after before)
positioned before k d h =
    let range = moved_at before k (within before k h) in
    rw (told_at before k d h) (positional_in (get_or (moved_pids before) k 0) range.0 range.1)

pub ascending : (before : List (List ℕ)) → ArePidsAscending (places_after before)
ascending before i j d below h =
    let first = told_at before i d (omega (arith, below, h)) in
    let second = told_at before j d h in
    rw first (rw second (moved_ascend before i j below (within before j h)))

pub short : (before : List (List ℕ)) → length before < 2 ^ 32 → AreShort (places_after before)
short before few k d h =
    rw (told_at before k d h) (omega (arith, few, moved_by_near (get_or (moved_pids before) k 0) 15 before))

-- one position more
pub one_more_place : (positions pids : List ℕ) (places : List Place) (n : ℕ) → n < length pids →
    places ≡ map (place_at positions) (take n pids) →
    places ++ place_at positions (get_or pids n 0) ∷ [] ≡ map (place_at positions) (take (n + 1) pids)
one_more_place positions pids places n within is =
    ap (λ (ps : List Place). ps ++ place_at positions (get_or pids n 0) ∷ []) is
    ∙ (sym (map-append (place_at positions) (take n pids) (get_or pids n 0 ∷ []))
    ∙ ap (map (place_at positions)) (sym (take_more pids n 0 within)))

-- as many positions as PIDs so far
pub as_many_places : (positions pids : List ℕ) (places : List Place) (n : ℕ) → n ≤ length pids →
    places ≡ map (place_at positions) (take n pids) → length places ≡ n
as_many_places positions pids places n within is =
    ap length is ∙ (length-map (take n pids) (place_at positions) ∙ length-take-le n pids within)
